use Rattle.std.proofs.Common.{◌≡◌, length, false}
use Rattle.zr_yaml.specs.Scalar.{double_quoted, with_front}
use Rattle.zr_yaml.proofs.scalar.double_quoted.Given as goal

abbrev pub invariant-loop-rest : goal.invariant-loop-rest
invariant-loop-rest l = with_front l.bytes.items (double_quoted l.escaped l.rest) ≡ double_quoted false l.fn.text

abbrev pub decreases-loop-rest : goal.decreases-loop-rest
decreases-loop-rest l = length l.rest
