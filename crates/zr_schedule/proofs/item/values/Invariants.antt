use Rattle.std.proofs.Common.{◌≡◌, ℕ, ◌&&◌, nat_lt}
use Rattle.zr_schedule.specs.Schedule.{has}
use Rattle.zr_schedule.specs.Cron.{item_has}
use Rattle.zr_schedule.proofs.item.values.Given as goal

abbrev pub invariant-loop-value : goal.invariant-loop-value
invariant-loop-value l = (n : ℕ) → has l.set n ≡ (item_has l.item n && nat_lt n l.value)
