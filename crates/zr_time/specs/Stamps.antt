-- Stamps: the UTC date and time of a moment in the Gregorian calendar, as `YYYYMMDD_HHMMSS_mmm`.
use Rattle.std.specs.Prelude.{◌≡◌, ℕ, ◌+◌, ◌*◌, ◌<◌, List, ◌∷◌, ◌++◌, Result, Ok, Err, ℤ, pos, ◌+ℤ◌, ◌*ℤ◌}
use Rattle.jiff_core.specs.Calendar.{IsCivilDate, days_from_civil}
use Rattle.zr_names.specs.declared.moment.TheConstants.{END_OF_TIME}
use Rattle.zr_time.specs.declared.civil.Civil.{Civil}
use Rattle.zr_time.specs.declared.civil.Clock.{Clock}
use Rattle.zr_time.specs.declared.civil.Day.{Day}
use Rattle.zr_time.specs.declared.text.BadStamp.{BadStamp}
use Rattle.zr_time.specs.Digits.{digits}

-- a clock shows this time of day
pub record IsClock (clock : Clock) : Type 0 where
  pub hour : clock.hour < 24
  pub minute : clock.minute < 60
  pub second : clock.second < 60
  pub milli : clock.milli < 1000

-- milliseconds since midnight
abbrev pub since_midnight : Clock → ℕ
since_midnight clock = ((clock.hour * 60 + clock.minute) * 60 + clock.second) * 1000 + clock.milli

-- milliseconds from 1970-01-01T00:00:00Z to a date and time in UTC
abbrev pub millis_of : Civil → ℤ
millis_of civil =
    days_from_civil (pos civil.day.year) civil.day.month civil.day.day *ℤ pos 86_400_000
    +ℤ pos (since_midnight civil.clock)

-- the UTC date and time of a moment: a day of the calendar and a time of day, at so many milliseconds
pub record Shows (moment : ℕ) (civil : Civil) : Type 0 where
  pub day : IsCivilDate (pos civil.day.year) civil.day.month civil.day.day
  pub clock : IsClock civil.clock
  pub instant : pos moment ≡ millis_of civil

-- a day's text: `YYYYMMDD`
abbrev pub day_text : Day → List ℕ
day_text day = digits 4 day.year ++ (digits 2 day.month ++ digits 2 day.day)

-- a time of day's text: `HHMMSS_mmm`
abbrev pub clock_text : Clock → List ℕ
clock_text clock = digits 2 clock.hour ++ (digits 2 clock.minute ++ (digits 2 clock.second ++ 95 ∷ digits 3 clock.milli))

-- the text is the stamp of the moment
pub record IsStamp (moment : ℕ) (text : List ℕ) : Type 0 where
  pub before_the_end : moment < END_OF_TIME
  pub civil : Civil
  pub shows : Shows moment civil
  pub text_is : text ≡ day_text civil.day ++ 95 ∷ clock_text civil.clock

-- a text reads as the moment whose stamp it is, and is refused where it is the stamp of no moment
abbrev pub ReadsStamp : List ℕ → Result ℕ BadStamp → Type 0
ReadsStamp text (Ok moment) = IsStamp moment text
ReadsStamp text (Err bad) = (moment : ℕ) → IsStamp moment text → ⊥
