use Rattle.std.proofs.Common.{◌≡◌, ◌≤◌, length}
use Rattle.zr_yaml.specs.Scalar.{after_plain}
use Rattle.zr_yaml.proofs.scalar.after_plain.Given as goal

abbrev pub invariant-loop-rest : goal.invariant-loop-rest
invariant-loop-rest l = record {
  same : after_plain l.in_brackets l.before l.rest ≡ after_plain l.in_brackets l.fn.first l.fn.text;
  within : length l.rest ≤ length l.fn.text;
}

abbrev pub decreases-loop-rest : goal.decreases-loop-rest
decreases-loop-rest l = length l.rest
