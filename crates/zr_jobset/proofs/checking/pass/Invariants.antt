use Rattle.std.proofs.Common.{◌≡◌, ℕ, ◌<◌, false}
use Rattle.zr_jobset.specs.Checks.{shows}
use Rattle.zr_jobset.proofs.checking.pass.Given as goal

-- the check shows at none of the jobs so far
abbrev pub invariant-loop-number : goal.invariant-loop-number
invariant-loop-number l =
    (earlier : ℕ) → earlier < l.number → shows l.names l.jobs l.check earlier ≡ false
