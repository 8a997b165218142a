use Rattle.std.proofs.Common.{◌≡◌, ◌+◌, ◌≤◌, drop}
use Rattle.zr_yaml.specs.Lines.{first_length}
use Rattle.zr_yaml.proofs.lines.first_length.Given as goal

abbrev pub invariant-loop-byte : goal.invariant-loop-byte
invariant-loop-byte l = record {
  same : l.size + first_length (drop l.byte-index l.text) ≡ first_length l.text;
  few : l.size ≤ l.byte-index;
}
