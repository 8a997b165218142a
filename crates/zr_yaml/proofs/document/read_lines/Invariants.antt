use Rattle.std.proofs.Common.{◌≡◌, ◌+◌, ◌==◌, ◌≤◌, length}
use Rattle.zr_yaml.specs.Lines.{contents, contents_from, lines_of}
use Rattle.zr_yaml.specs.Reading.{lines_step, start}
use Rattle.zr_yaml.specs.Views.{reader_view}
use Rattle.zr_yaml.proofs.document.read_lines.Given as goal

abbrev pub invariant-lines : goal.invariant-lines
invariant-lines l = record {
  same : lines_step l.good (
    reader_view l.reader,
    l.unclosed,
  ) (contents_from (l.good == 0) (lines_of l.rest)) ≡ lines_step 0 (
    start,
    0,
  ) (contents (lines_of l.fn.bytes));
  few : l.good + length l.rest ≤ length l.fn.bytes;
  room : l.unclosed + length l.rest ≤ length l.fn.bytes;
}

abbrev pub decreases-lines : goal.decreases-lines
decreases-lines l = length l.rest
