use Rattle.std.proofs.Common.{◌≡◌, length}
use Rattle.zr_schedule.specs.Words.{skip}
use Rattle.zr_schedule.proofs.read.skip_blanks.Given as goal

abbrev pub invariant-loop-rest : goal.invariant-loop-rest
invariant-loop-rest l = skip l.rest ≡ skip l.fn.text

abbrev pub decreases-loop-rest : goal.decreases-loop-rest
decreases-loop-rest l = length l.rest
