-- How the next minute is searched for: by day, and then by time of day.
use Rattle.std.specs.Prelude.{◌≡◌, ℕ, ◌/◌, ◌%◌, ◌<◌, ◌≤◌, Bool, true, false, ◌&&◌, Option, Some, None}
use Rattle.zr_schedule.specs.declared.spec.CronSpec.{CronSpec}
use Rattle.zr_schedule.specs.Calendar.{date_of, weekday_of}
use Rattle.zr_schedule.specs.Schedule.{has, day_fields_match}

-- the least number from here on that passes the test, or none where there is none before the end
abbrev pub IsFirst : (ℕ → Bool) → ℕ → ℕ → Option ℕ → Type 0
IsFirst test from end (Some n) = (from ≤ n) × (test n ≡ true) × ((k : ℕ) → from ≤ k → k < n → test k ≡ false)
IsFirst test from end None = (k : ℕ) → from ≤ k → k < end → test k ≡ false

-- whether a day matches, counted from 1970-01-01
abbrev pub fires_on : CronSpec → ℕ → Bool
fires_on spec day = has spec.months (date_of day).month && day_fields_match spec (date_of day).day (weekday_of day)

-- whether a time of day matches, in minutes since midnight
abbrev pub fires_at : CronSpec → ℕ → Bool
fires_at spec time = has spec.hours (time / 60) && has spec.minutes (time % 60)

-- whether a minute matches, counted from 1970-01-01T00:00: a day has 1,440
abbrev pub fires_in : CronSpec → ℕ → Bool
fires_in spec minute = fires_on spec (minute / 1440) && fires_at spec (minute % 1440)
