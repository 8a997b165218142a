use Rattle.std.proofs.Common.{◌≡◌, length}
use Rattle.zr_yaml.specs.Scan.{after_gap}
use Rattle.zr_yaml.proofs.scan.skip_gap.Given as goal

abbrev pub invariant-loop-rest : goal.invariant-loop-rest
invariant-loop-rest l = after_gap l.spaced l.rest ≡ after_gap l.fn.spaced l.fn.text

abbrev pub decreases-loop-rest : goal.decreases-loop-rest
decreases-loop-rest l = length l.rest
