use Rattle.std.proofs.Common.{◌≡◌, ℕ, ◌<◌, ◌≤◌, false}
use Rattle.zr_schedule.specs.Search.{fires_on}
use Rattle.zr_schedule.proofs.next.first_day_in.Given as goal

abbrev pub invariant-loop-day : goal.invariant-loop-day
invariant-loop-day l = (k : ℕ) → l.from ≤ k → k < l.day → fires_on l.spec k ≡ false
