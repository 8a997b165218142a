-- The days of a month on which a spec fires, and the specs that fire on no day.
use Rattle.std.proofs.Common.{refl, ◌≡◌, ℕ, ◌+◌, ◌-◌, ◌<◌, ◌≤◌, Bool, true, false, ◌&&◌, ◌||◌, sym, ◌∙◌, ap, arith, if◌then◌else◌}
use Rattle.std.proofs.Math.Bool.{and-false}
use Rattle.zr_schedule.specs.declared.spec.CronSpec.{CronSpec}
use Rattle.zr_schedule.specs.Calendar.{Date, month_length, first_of, date_of, weekday_of}
use Rattle.zr_schedule.specs.Schedule.{has, joined_days, day_fields_match}
use Rattle.zr_schedule.specs.Search.{fires_on}
use Rattle.zr_schedule.proofs.Months.{date_in}

-- whether a date matches on a weekday
abbrev date_fires : CronSpec → ℕ → Date → Bool
date_fires spec weekday date = has spec.months date.month && day_fields_match spec date.day weekday

pub fires_in_month : (spec : CronSpec) (first year month day : ℕ) → date_of first ≡ first_of year month → first ≤ day → day < first + month_length year month → fires_on spec day ≡ (has spec.months month && day_fields_match spec (day - first + 1) (weekday_of day))
fires_in_month spec first year month day begins from within = ap (date_fires spec (weekday_of day)) (date_in first year month day begins from within)

pub other_month : (spec : CronSpec) (first year month day : ℕ) → date_of first ≡ first_of year month → first ≤ day → day < first + month_length year month → has spec.months month ≡ false → fires_on spec day ≡ false
other_month spec first year month day begins from within missing =
    fires_in_month spec first year month day begins from within ∙ ap (λ b. b && day_fields_match spec (day - first + 1) (weekday_of day)) missing

pub as_fields_match : (spec : CronSpec) (first year month day : ℕ) (b : Bool) → date_of first ≡ first_of year month → first ≤ day → day < first + month_length year month → has spec.months month ≡ true → b ≡ day_fields_match spec (day - first + 1) (weekday_of day) → fires_on spec day ≡ b
as_fields_match spec first year month day b begins from within here e =
    fires_in_month spec first year month day begins from within ∙ ap (λ m. m && day_fields_match spec (day - first + 1) (weekday_of day)) here ∙ sym e

-- ---- months of which no day matches

less : (both d w e f : Bool) → (d ≡ false → e ≡ false) → (w ≡ false → f ≡ false) → (if both then (d || w) else (d && w)) ≡ false → (if both then (e || f) else (e && f)) ≡ false
less true false w e f h k none = ap (λ x. x || f) (h refl) ∙ k none
less true true w e f h k none = absurd cc
less false false w e f h k none = ap (λ x. x && f) (h refl)
less false true w e f h k none = ap (λ x. e && x) (k none) ∙ and-false e

-- the set has none of these
abbrev pub NoneOf : ℕ → ℕ → ℕ → Type 0
NoneOf set low high = (n : ℕ) → low ≤ n → n ≤ high → has set n ≡ false

abbrev pub NoDay : CronSpec → ℕ → Type 0
NoDay spec length = (day weekday : ℕ) → 1 ≤ day → day ≤ length → weekday ≤ 6 → day_fields_match spec day weekday ≡ false

-- what no set has cannot match
pub never_joined : (spec : CronSpec) (length : ℕ) (result on_day on_weekday : Bool) → result ≡ joined_days spec on_day on_weekday → (on_day ≡ false → NoneOf spec.days 1 length) → (on_weekday ≡ false → NoneOf spec.weekdays 0 6) → result ≡ false → NoDay spec length
never_joined spec length result on_day on_weekday e days weekdays none day weekday from to week =
    less _ on_day on_weekday (has spec.days day) (has spec.weekdays weekday) (λ h. days h day from to) (λ h. weekdays h weekday (omega arith) week) (sym e ∙ none)

pub no_day_of_month : (spec : CronSpec) (first year month length day : ℕ) → date_of first ≡ first_of year month → length ≡ month_length year month → NoDay spec length → first ≤ day → day < first + month_length year month → fires_on spec day ≡ false
no_day_of_month spec first year month length day begins e none from within =
    fires_in_month spec first year month day begins from within ∙ ap (λ b. has spec.months month && b) (none (day - first + 1) (weekday_of day) (omega arith) (omega (arith, e)) (omega arith)) ∙ and-false (has spec.months month)
