-- The Gregorian calendar, day by day from 1970-01-01, which is a Thursday.
use Rattle.std.specs.Prelude.{ℕ, zero, suc, ◌+◌, ◌/◌, ◌%◌, ◌==◌, Bool, not, ◌&&◌, ◌||◌, nat_lt, if◌then◌else◌}

-- months and days of the month count from 1
pub record Date : Type 0 where
  pub year : ℕ
  pub month : ℕ
  pub day : ℕ

-- each fourth year, but of the centuries only each fourth
abbrev pub is_leap : ℕ → Bool
is_leap year = (year % 4 == 0) && (not (year % 100 == 0) || (year % 400 == 0))

abbrev pub month_length : ℕ → ℕ → ℕ
month_length year month =
    if month == 2 then (if is_leap year then 29 else 28) else (if (month == 4) || ((month == 6) || ((month == 9) || (month == 11))) then 30 else 31)

-- the first day of a month
abbrev pub first_of : ℕ → ℕ → Date
first_of year month = record { year = year; month = month; day = 1 }

abbrev pub next_date : Date → Date
next_date date =
    if nat_lt date.day (month_length date.year date.month) then (record { year = date.year; month = date.month; day = date.day + 1 }) else (if nat_lt date.month 12 then first_of date.year (date.month + 1) else first_of (date.year + 1) 1)

-- the date of a day, counted from 1970-01-01
unfoldable pub date_of : ℕ → Date
date_of zero = first_of 1970 1
date_of (suc day) = next_date (date_of day)

-- the day of the week, from 0 for Sunday to 6 for Saturday
abbrev pub weekday_of : ℕ → ℕ
weekday_of day = (day + 4) % 7

-- what a clock of UTC shows
pub record Fields : Type 0 where
  pub year : ℕ
  pub month : ℕ
  pub day : ℕ
  pub weekday : ℕ
  pub hour : ℕ
  pub minute : ℕ

-- what it shows at a moment, in milliseconds since 1970-01-01T00:00: a minute has 60,000, an hour 3,600,000, a day 86,400,000
abbrev pub fields_of : ℕ → Fields
fields_of ms = record {
  year = (date_of (ms / 86400000)).year;
  month = (date_of (ms / 86400000)).month;
  day = (date_of (ms / 86400000)).day;
  weekday = weekday_of (ms / 86400000);
  hour = ms / 3600000 % 24;
  minute = ms / 60000 % 60;
}
