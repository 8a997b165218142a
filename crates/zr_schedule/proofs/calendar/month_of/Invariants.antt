use Rattle.std.proofs.Common.{◌+◌, ◌-◌, ◌≤◌}
use Rattle.zr_schedule.proofs.calendar.month_of.Given as goal

abbrev pub invariant-loop-month : goal.invariant-loop-month
invariant-loop-month l = l.month.first ≤ l.day

abbrev pub decreases-loop-month : goal.decreases-loop-month
decreases-loop-month l = l.day + 1 - l.month.first
