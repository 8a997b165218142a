use Rattle.zr_schedule.proofs.Months.{first_day}
use Rattle.zr_schedule.proofs.calendar.Month.epoch.Goals as goal

pub invariant_of-result-clause-begins : goal.invariant_of-result-clause-begins
invariant_of-result-clause-begins c = first_day
