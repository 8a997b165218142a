-- What `read_cron` answers.
use Rattle.std.specs.Prelude.{◌≡◌, ℕ, Bool, ◌==◌, ◌&&◌, ◌||◌, nat_lt, List, [], ◌∷◌, Result, Ok, Err}
use Rattle.zr_schedule.specs.declared.spec.CronSpec.{CronSpec}
use Rattle.zr_schedule.specs.declared.item.Limits.{Limits}
use Rattle.zr_schedule.specs.declared.read.CronFault.{CronFault}
use Rattle.zr_schedule.specs.Words.{words}
use Rattle.zr_schedule.specs.Schedule.{has}
use Rattle.zr_schedule.specs.Cron.{IsField, field_has}
use Rattle.zr_schedule.specs.Fault.{IsFaultAt}

abbrev limits : ℕ → ℕ → Limits
limits low high = record { low = low; high = high }

-- minute, hour, day of the month, month, and day of the week, where 0 and 7 are Sunday
abbrev pub minutes : Limits
minutes = limits 0 59

abbrev pub hours : Limits
hours = limits 0 23

abbrev pub days : Limits
days = limits 1 31

abbrev pub months : Limits
months = limits 1 12

abbrev pub weekdays : Limits
weekdays = limits 0 7

abbrev pub five : List Limits
five = minutes ∷ hours ∷ days ∷ months ∷ weekdays ∷ []

-- a set has what the field has
abbrev pub IsSetOf : Limits → List ℕ → ℕ → Type 0
IsSetOf limits text set = (n : ℕ) → has set n ≡ field_has limits text n

-- 7 is kept as 0
abbrev pub weekday_has : List ℕ → ℕ → Bool
weekday_has text n = (nat_lt n 7 && field_has weekdays text n) || ((n == 0) && field_has weekdays text 7)

-- the five words of a text, and their sets
pub record IsCron (text : List ℕ) (spec : CronSpec) : Type 0 where
  pub minute : List ℕ
  pub hour : List ℕ
  pub day : List ℕ
  pub month : List ℕ
  pub weekday : List ℕ
  pub parts : words text ≡ minute ∷ hour ∷ day ∷ month ∷ weekday ∷ []
  pub good : IsField minutes minute × IsField hours hour × IsField days day × IsField months month × IsField weekdays weekday
  pub in_minutes : IsSetOf minutes minute spec.minutes
  pub in_hours : IsSetOf hours hour spec.hours
  pub in_days : IsSetOf days day spec.days
  pub in_months : IsSetOf months month spec.months
  pub in_weekdays : (n : ℕ) → has spec.weekdays n ≡ weekday_has weekday n

-- the text has five good fields, and these are their sets; or this is where it goes wrong
abbrev pub ReadsCron : List ℕ → Result CronSpec CronFault → Type 0
ReadsCron text (Ok spec) = IsCron text spec
ReadsCron text (Err fault) = IsFaultAt five (words text) 1 fault
