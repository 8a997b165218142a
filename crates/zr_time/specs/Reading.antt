-- What the parts of a stamp's text read as.
use Rattle.std.specs.Prelude.{◌≡◌, ℕ, ◌<◌, List, ◌∷◌, ◌++◌, Option, Some, None, pos}
use Rattle.jiff_core.specs.Calendar.{IsCivilDate}
use Rattle.zr_names.specs.declared.moment.TheConstants.{END_OF_TIME}
use Rattle.zr_time.specs.declared.civil.Civil.{Civil}
use Rattle.zr_time.specs.declared.civil.Clock.{Clock}
use Rattle.zr_time.specs.declared.civil.Day.{Day}
use Rattle.zr_time.specs.Stamps.{IsClock, Shows, clock_text, day_text}

-- so many as the digits of a day's text can say
pub record DayFits (day : Day) : Type 0 where
  pub year : day.year < 10000
  pub month : day.month < 100
  pub of_month : day.day < 100

-- so many as the digits of a time of day's text can say
pub record ClockFits (clock : Clock) : Type 0 where
  pub hour : clock.hour < 100
  pub minute : clock.minute < 100
  pub second : clock.second < 100
  pub milli : clock.milli < 1000

-- the text has the digits of a day, which need not be in the calendar
abbrev pub IsDayText : List ℕ → Day → Type 0
IsDayText text day = DayFits day × (text ≡ day_text day)

-- the text has the digits of a time of day, which no clock need show
abbrev pub IsClockText : List ℕ → Clock → Type 0
IsClockText text clock = ClockFits clock × (text ≡ clock_text clock)

-- a text reads as what has its digits, if there is such a day
abbrev pub ReadsDay : List ℕ → Option Day → Type 0
ReadsDay text (Some day) = IsDayText text day
ReadsDay text None = (day : Day) → IsDayText text day → ⊥

-- the same of a time of day
abbrev pub ReadsClock : List ℕ → Option Clock → Type 0
ReadsClock text (Some clock) = IsClockText text clock
ReadsClock text None = (clock : Clock) → IsClockText text clock → ⊥

-- the text has the digits of a date and time, with `_` between them
abbrev pub IsCivilText : List ℕ → Civil → Type 0
IsCivilText text civil = DayFits civil.day × ClockFits civil.clock × (text ≡ day_text civil.day ++ 95 ∷ clock_text civil.clock)

-- a text reads as the date and time that has its digits, if there is one
abbrev pub ReadsCivil : List ℕ → Option Civil → Type 0
ReadsCivil text (Some civil) = IsCivilText text civil
ReadsCivil text None = (civil : Civil) → IsCivilText text civil → ⊥

-- the moment at which a clock in UTC shows this, if there is one
abbrev pub MomentOf : Civil → Option ℕ → Type 0
MomentOf civil (Some moment) = (moment < END_OF_TIME) × Shows moment civil
MomentOf civil None = (moment : ℕ) → moment < END_OF_TIME → Shows moment civil → ⊥

-- the calendar has the day, and a clock shows the time
abbrev pub IsCivil : Civil → Type 0
IsCivil civil = IsCivilDate (pos civil.day.year) civil.day.month civil.day.day × IsClock civil.clock
