use Rattle.std.proofs.Common.{◌≡◌, length}
use Rattle.zr_grid.specs.Scan.{digits_from}
use Rattle.zr_grid.proofs.scan.leading_digits.Given as goal

abbrev pub invariant-loop-rest : goal.invariant-loop-rest
invariant-loop-rest l = digits_from l.number l.rest ≡ digits_from 0 l.fn.text

abbrev pub decreases-loop-rest : goal.decreases-loop-rest
decreases-loop-rest l = length l.rest
