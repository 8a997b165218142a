use Rattle.std.proofs.Common.{◌≡◌, ℕ, ◌+◌, ◌-◌, ◌≤◌, ◌||◌, length}
use Rattle.zr_schedule.specs.Schedule.{has}
use Rattle.zr_schedule.specs.Cron.{IsField, field_has}
use Rattle.zr_schedule.specs.Fault.{IsFieldFault}
use Rattle.zr_schedule.proofs.field.read_field.Given as goal

abbrev pub invariant-items : goal.invariant-items
invariant-items l = record {
  within : length l.rest ≤ length l.text;
  good : IsField l.limits l.rest → IsField l.limits l.text;
  values : (n : ℕ) → field_has l.limits l.text n ≡ (has l.set n || field_has l.limits l.rest n);
  fault : (place : ℕ) → IsFieldFault l.limits l.rest place → IsFieldFault l.limits l.text (length l.text - length l.rest + place);
}

abbrev pub decreases-items : goal.decreases-items
decreases-items l = length l.rest
