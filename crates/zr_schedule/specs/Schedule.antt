-- When a cron spec fires.
use Rattle.std.specs.Prelude.{◌≡◌, ℕ, ◌-◌, ◌%◌, ◌^◌, ◌<◌, ◌≤◌, ◌==◌, Bool, false, not, ◌&&◌, ◌||◌, if◌then◌else◌, IsTrue, Option, Some, None}
use Rattle.std.specs.Int.{bit_at}
use Rattle.zr_names.specs.declared.moment.TheConstants.{END_OF_TIME}
use Rattle.zr_schedule.specs.declared.spec.CronSpec.{CronSpec}
use Rattle.zr_schedule.specs.Calendar.{Fields, fields_of}

-- whether a set has a value: bit n stands for n
abbrev pub has : ℕ → ℕ → Bool
has set value = bit_at set value == 1

-- a set of days of the month that is not all of 1 to 31
abbrev pub is_restricted_day : ℕ → Bool
is_restricted_day days = not (days == 2 ^ 32 - 2)

-- a set of weekdays that is not all of 0 to 6
abbrev pub is_restricted_weekday : ℕ → Bool
is_restricted_weekday weekdays = not (weekdays == 2 ^ 7 - 1)

-- Whether a day matches, by whether each of its day fields does: both have to, but where both are restricted, either is enough.
abbrev pub joined_days : CronSpec → Bool → Bool → Bool
joined_days spec on_day on_weekday =
    if is_restricted_day spec.days && is_restricted_weekday spec.weekdays then (on_day || on_weekday) else (on_day && on_weekday)

abbrev pub day_fields_match : CronSpec → ℕ → ℕ → Bool
day_fields_match spec day weekday = joined_days spec (has spec.days day) (has spec.weekdays weekday)

abbrev pub fields_match : CronSpec → Fields → Bool
fields_match spec fields =
    (has spec.minutes fields.minute && has spec.hours fields.hour) && (has spec.months fields.month && day_fields_match spec fields.day fields.weekday)

-- whether a moment is a whole minute whose UTC fields match
abbrev pub fires : CronSpec → ℕ → Bool
fires spec ms = (ms % 60000 == 0) && fields_match spec (fields_of ms)

-- the least moment after this one at which the spec fires, or none where there is no such moment
abbrev pub IsNextMinute : CronSpec → ℕ → Option ℕ → Type 0
IsNextMinute spec after (Some next) = (after < next) × (next < END_OF_TIME) × IsTrue (fires spec next) × ((other : ℕ) → after < other → IsTrue (fires spec other) → next ≤ other)
IsNextMinute spec after None = (other : ℕ) → after < other → other < END_OF_TIME → fires spec other ≡ false
