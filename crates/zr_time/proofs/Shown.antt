-- What jiff's datetime of a moment is.
use Rattle.std.proofs.Common.{◌≡◌, ℕ, ◌*◌, ◌/◌, ◌^◌, to_z, of_z, unsigned_abs, ◌<◌, ◌∙◌, ap, sym, subst, arith, ℤ, pos, negsuc, ◌*ℤ◌, ◌≤ℤ◌}
use Rattle.std.proofs.lemmas.Int.{by_lt_z}
use Rattle.std.specs.Int.{Width}
use lib.Signed.{mag}
use mir.Val.{hbits}
use Rattle.jiff_core.specs.declared.civil.datetime.DateTime.{DateTime}
use Rattle.jiff_core.specs.Calendar.{days_from_civil, IsCivilDate, IsDate}
use Rattle.jiff_core.specs.Date.{epoch_day, IsYmd}
use Rattle.jiff_core.specs.Time.{IsHms, IsTime}
use Rattle.jiff_core.specs.DateTime.{civil_nanos}
use Rattle.jiff_core.proofs.SignedLemmas.{signed_arith, back_small}
use Rattle.jiff_core.proofs.CalendarLemmas.{day_count-epoch, days_from_civil-day_count, day_count-lt_year}
use Rattle.jiff_core.proofs.DateLemmas.{civil}
use Rattle.jiff_core.proofs.DateTimeLemmas.{civil_nanos-parts, time_nanos_bound}
use Rattle.zr_time.specs.declared.civil.Civil.{Civil}
use Rattle.zr_time.specs.Stamps.{Shows, millis_of}
use Rattle.zr_time.specs.Reading.{IsCivil}

-- a datetime that shows a moment is no earlier than 1970
pub from_1970 : (shown : DateTime) (ms : ℕ) → civil_nanos shown ≡ pos ms *ℤ pos 1_000_000 → pos 1970 ≤ℤ shown.date.year
from_1970 shown ms at =
    by_lt_z shown.date.year (pos 1970)
    (λ lt. absurd (omega (arith, signed_arith, civil_nanos-parts shown, time_nanos_bound shown.time, days_from_civil-day_count, day_count-epoch, day_count-lt_year shown.date.year shown.date.month shown.date.day (pos 1970) 1 1 (civil shown.date) (omega arith) lt)))
    (λ le. le)

-- the parts of a datetime that shows a moment
pub shows : (shown : DateTime) (ms : ℕ) (c : Civil) → civil_nanos shown ≡ pos ms *ℤ pos 1_000_000
    → pos c.day.year ≡ shown.date.year → c.day.month ≡ shown.date.month → c.day.day ≡ shown.date.day
    → c.clock.hour ≡ shown.time.hour → c.clock.minute ≡ shown.time.minute → c.clock.second ≡ shown.time.second
    → c.clock.milli ≡ shown.time.subsec_nanosecond / 1_000_000 → Shows ms c
shows shown ms c at year month day hour minute second milli =
    let days : days_from_civil (pos c.day.year) c.day.month c.day.day ≡ epoch_day shown.date =
    ap (λ z. days_from_civil z c.day.month c.day.day) year ∙ ap (λ m. days_from_civil shown.date.year m c.day.day) month ∙ ap (days_from_civil shown.date.year shown.date.month) day in
    let of_month : IsCivilDate shown.date.year c.day.month c.day.day = rw (month, day) (civil shown.date) in
    record {
      day = subst (λ z. IsCivilDate z c.day.month c.day.day) (sym year) of_month;
      clock = record { hour = omega arith; minute = omega arith; second = omega arith; milli = omega arith };
      instant = omega (arith, signed_arith, days, civil_nanos-parts shown, at);
    }

-- what `unsigned_abs` gives of a part that is not negative
pub part : (w : Width) (z : ℤ) (n m : ℕ) → m ≡ unsigned_abs (to_z w (of_z w z)) → mag z < 2 ^ hbits w → z ≡ pos n → m ≡ n
part w z n m is small at =
    let fits : n < 2 ^ hbits w = subst (λ k. mag k < 2 ^ hbits w) at small in
    is ∙ ap (λ k. unsigned_abs (to_z w (of_z w k))) at ∙ ap unsigned_abs (back_small w (pos n) fits)

-- and of the year
pub year_part : (w : Width) (z y : ℤ) (m : ℕ) → m ≡ unsigned_abs (to_z w (of_z w z)) → mag z < 2 ^ hbits w → z ≡ y → pos 1970 ≤ℤ y → pos m ≡ y
year_part w z (pos n) m is small at late = ap pos (part w z n m is small at)
year_part w z (negsuc n) m is small at late = absurd (omega (arith, signed_arith))

-- what jiff is handed for a date and time
pub record Passed (civil : Civil) (y m d h i s n : ℤ) : Type 0 where
  pub year : y ≡ pos civil.day.year
  pub month : m ≡ pos civil.day.month
  pub day : d ≡ pos civil.day.day
  pub hour : h ≡ pos civil.clock.hour
  pub minute : i ≡ pos civil.clock.minute
  pub second : s ≡ pos civil.clock.second
  pub subsec : n ≡ pos (civil.clock.milli * 1_000_000)

-- jiff has the datetime exactly where the calendar and a clock have it
pub has_datetime : (civil : Civil) (y m d h i s n : ℤ) → Passed civil y m d h i s n → (IsDate y m d × IsTime h i s n → IsCivil civil) × (IsCivil civil → IsDate y m d × IsTime h i s n)
has_datetime civil y m d h i s n p =
    let forth : IsDate y m d → IsCivilDate (pos civil.day.year) civil.day.month civil.day.day = λ date.
    let in_year = subst (λ k. IsDate k m d) p.year date in
    let in_month = subst (λ k. IsDate (pos civil.day.year) k d) p.month in_year in
    let on_day = subst (λ k. IsDate (pos civil.day.year) (pos civil.day.month) k) p.day in_month in
    (on_day.0, (omega (arith, signed_arith, on_day.1), omega (arith, signed_arith, on_day.1)), (omega (arith, signed_arith, on_day.2), omega (arith, signed_arith, on_day.2))) in
    let back : IsCivilDate (pos civil.day.year) civil.day.month civil.day.day → IsDate y m d = λ date.
    let on_day : IsDate (pos civil.day.year) (pos civil.day.month) (pos civil.day.day) = (date.0, (omega (arith, signed_arith, date.1), omega (arith, signed_arith, date.1)), (omega (arith, signed_arith, date.2), omega (arith, signed_arith, date.2))) in
    let in_month = subst (λ k. IsDate (pos civil.day.year) (pos civil.day.month) k) (sym p.day) on_day in
    let in_year = subst (λ k. IsDate (pos civil.day.year) k d) (sym p.month) in_month in
    subst (λ k. IsDate k m d) (sym p.year) in_year in (
      λ both. (
        forth both.0,
        record {
          hour = omega (arith, signed_arith, both.1.0, p.hour);
          minute = omega (arith, signed_arith, both.1.1, p.minute);
          second = omega (arith, signed_arith, both.1.2, p.second);
          milli = omega (arith, signed_arith, both.1.3, p.subsec);
        },
      ),
      λ is. (
        back is.0,
        (
          (omega (arith, signed_arith, p.hour, is.1), omega (arith, signed_arith, p.hour, is.1)),
          (omega (arith, signed_arith, p.minute, is.1), omega (arith, signed_arith, p.minute, is.1)),
          (omega (arith, signed_arith, p.second, is.1), omega (arith, signed_arith, p.second, is.1)),
          (omega (arith, signed_arith, p.subsec, is.1), omega (arith, signed_arith, p.subsec, is.1)),
        ),
      ),
    )

-- and it lies at the milliseconds of the date and time
pub at_millis : (civil : Civil) (shown : DateTime) (y m d h i s n : ℤ) → Passed civil y m d h i s n → IsYmd y m d shown.date → IsHms h i s n shown.time → civil_nanos shown ≡ millis_of civil *ℤ pos 1_000_000
at_millis civil shown y m d h i s n p date time =
    let month : shown.date.month ≡ civil.day.month = omega (arith, signed_arith, date.1, p.month) in
    let day : shown.date.day ≡ civil.day.day = omega (arith, signed_arith, date.2, p.day) in
    let days : epoch_day shown.date ≡ days_from_civil (pos civil.day.year) civil.day.month civil.day.day =
    ap (λ z. days_from_civil z shown.date.month shown.date.day) (date.0 ∙ p.year) ∙ ap (λ k. days_from_civil (pos civil.day.year) k shown.date.day) month ∙ ap (days_from_civil (pos civil.day.year) civil.day.month) day in
    omega (arith, signed_arith, days, civil_nanos-parts shown, time.0, time.1, time.2, time.3, p.hour, p.minute, p.second, p.subsec)
