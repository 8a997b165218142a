use Rattle.std.proofs.Common.{◌≡◌, length}
use Rattle.zr_yaml.specs.Scalar.{single_quoted, with_front}
use Rattle.zr_yaml.proofs.scalar.single_quoted.Given as goal

abbrev pub invariant-loop-rest : goal.invariant-loop-rest
invariant-loop-rest l = with_front l.bytes.items (single_quoted l.rest) ≡ single_quoted l.fn.text

abbrev pub decreases-loop-rest : goal.decreases-loop-rest
decreases-loop-rest l = length l.rest
