-- The days of a month, and the month after it.
use Rattle.std.proofs.Common.{◌≡◌, ℕ, zero, suc, ◌+◌, ◌-◌, ◌<◌, ◌≤◌, true, false, nat_lt, refl, ◌∙◌, ap, subst, arith, add-zero}
use Rattle.std.proofs.lemmas.Bool.Decides.{nat_tests}
use Rattle.zr_schedule.specs.Calendar.{Date, month_length, first_of, next_date, date_of}

pub first_day : date_of 0 ≡ first_of 1970 1
unfolding date_of
first_day = refl

pub day_after : (day : ℕ) → date_of (suc day) ≡ next_date (date_of day)
unfolding date_of
day_after day = refl

lt_test : (a b : ℕ) → a < b → nat_lt a b ≡ true
lt_test a b h = grind (arith, nat_tests)

ge_test : (a b : ℕ) → b ≤ a → nat_lt a b ≡ false
ge_test a b h = grind (arith, nat_tests)

abbrev pub day_in : ℕ → ℕ → ℕ → Date
day_in year month day = record { year = year; month = month; day = day }

inside : (year month day : ℕ) → day < month_length year month → next_date (day_in year month day) ≡ day_in year month (day + 1)
inside year month day h = rw (lt_test day (month_length year month) h) refl

over : (year month day : ℕ) → month_length year month ≤ day → month < 12 → next_date (day_in year month day) ≡ first_of year (month + 1)
over year month day h early = rw (ge_test day (month_length year month) h, lt_test month 12 early) refl

over_year : (year month day : ℕ) → month_length year month ≤ day → 12 ≤ month → next_date (day_in year month day) ≡ first_of (year + 1) 1
over_year year month day h late = rw (ge_test day (month_length year month) h, ge_test month 12 late) refl

pub in_month : (first year month k : ℕ) → date_of first ≡ first_of year month → k < month_length year month → date_of (first + k) ≡ day_in year month (k + 1)
in_month first year month zero begins within = rw add-zero begins
in_month first year month (suc k) begins within =
    let before : k < month_length year month = omega arith in
    let more : k + 1 < month_length year month = omega arith in
    let e : date_of (first + k) ≡ day_in year month (k + 1) = in_month first year month k begins before in
    let s : first + suc k ≡ suc (first + k) = omega arith in
    let t : (k + 1) + 1 ≡ suc k + 1 = omega arith in
    ap date_of s ∙ day_after (first + k) ∙ ap next_date e ∙ inside year month (k + 1) more ∙ ap (day_in year month) t

last_day : (first year month k : ℕ) → date_of first ≡ first_of year month → k + 1 ≡ month_length year month → date_of (first + month_length year month) ≡ next_date (day_in year month (month_length year month))
last_day first year month k begins e =
    let within : k < month_length year month = omega arith in
    let s : first + month_length year month ≡ suc (first + k) = omega arith in
    ap date_of s ∙ day_after (first + k) ∙ ap next_date (in_month first year month k begins within ∙ ap (day_in year month) e)

before_last : (n : ℕ) → 0 < n → (n - 1) + 1 ≡ n
before_last n h = omega arith

at_least : (n : ℕ) → n ≤ n
at_least n = omega arith

pub next_month : (first year month length : ℕ) → date_of first ≡ first_of year month → length ≡ month_length year month → 0 < length → month < 12 → date_of (first + length) ≡ first_of year (month + 1)
next_month first year month length begins e some early =
    let some : 0 < month_length year month = subst (λ (n : ℕ). 0 < n) e some in
    let last = last_day first year month (month_length year month - 1) begins (before_last (month_length year month) some) in
    ap (λ (n : ℕ). date_of (first + n)) e ∙ last ∙ over year month (month_length year month) (at_least (month_length year month)) early

pub next_year : (first year month length : ℕ) → date_of first ≡ first_of year month → length ≡ month_length year month → 0 < length → 12 ≤ month → date_of (first + length) ≡ first_of (year + 1) 1
next_year first year month length begins e some late =
    let some : 0 < month_length year month = subst (λ (n : ℕ). 0 < n) e some in
    let last = last_day first year month (month_length year month - 1) begins (before_last (month_length year month) some) in
    ap (λ (n : ℕ). date_of (first + n)) e ∙ last ∙ over_year year month (month_length year month) (at_least (month_length year month)) late

pub date_in : (first year month day : ℕ) → date_of first ≡ first_of year month → first ≤ day → day < first + month_length year month → date_of day ≡ day_in year month (day - first + 1)
date_in first year month day begins from within =
    let s : day ≡ first + (day - first) = omega arith in
    let k : day - first < month_length year month = omega arith in
    ap date_of s ∙ in_month first year month (day - first) begins k
