use Rattle.std.proofs.Common.{◌∙◌, sym, arith}
use Rattle.zr_yaml.specs.Views.{reader_view}
use Rattle.zr_yaml.proofs.Bounds.{count_bounded, good_line}
use Rattle.zr_yaml.proofs.document.read_lines.Goals as goal

pub lines-preserved : goal.lines-preserved
lines-preserved c =
    let count = count_bounded (reader_view c.lines.reader) (reader_view c.in-Ok.next) c.lines.unclosed c.in-Ok.count
    c.content_of-content.result.now c.in-Ok.ensures in
    record {
      same = sym (good_line c.lines.good (reader_view c.lines.reader) c.lines.unclosed c.lines.rest.now
          c.first_line.result.0.now c.first_line.result.1.now c.content_of-content.result.now
          (reader_view c.in-Ok.next) c.in-Ok.count c.first_line.ensures.lines c.content_of-content.ensures.content
          c.in-Ok.ensures) ∙ c.lines.invariant.same;
      few = omega (arith, c.first_line.ensures.rest, c.lines.invariant.few);
      room = omega (
        arith,
        count,
        c.content_of-content.ensures.within,
        c.first_line.ensures.shorter,
        c.lines.invariant.room,
      );
    }
