use Rattle.std.proofs.Common.{◌≡◌, ℕ, ◌-◌, ◌<◌, ◌≤◌, false}
use Rattle.zr_schedule.specs.Search.{fires_on}
use Rattle.zr_schedule.proofs.next.first_day.Given as goal

abbrev pub invariant-loop-month : goal.invariant-loop-month
invariant-loop-month l = (k : ℕ) → l.from ≤ k → k < l.month.first → fires_on l.spec k ≡ false

abbrev pub decreases-loop-month : goal.decreases-loop-month
decreases-loop-month l = 376200 - l.month.first
