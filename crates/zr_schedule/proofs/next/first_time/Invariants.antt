use Rattle.std.proofs.Common.{◌≡◌, ℕ, ◌<◌, ◌≤◌, false}
use Rattle.zr_schedule.specs.Search.{fires_at}
use Rattle.zr_schedule.proofs.next.first_time.Given as goal

abbrev pub invariant-loop-time : goal.invariant-loop-time
invariant-loop-time l = (k : ℕ) → l.from ≤ k → k < l.time → fires_at l.spec k ≡ false
