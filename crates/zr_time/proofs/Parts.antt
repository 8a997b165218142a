-- The parts of a stamp's text.
use Rattle.std.proofs.Common.{◌≡◌, ℕ, ◌+◌, ◌-◌, ◌^◌, ◌<◌, ◌∙◌, List, [], ◌∷◌, ◌++◌, Option, None, length, get_or, take, drop, ap, sym, subst, arith, length-drop, length-append, nat_cmp, inl, inr}
use Rattle.std.specs.declared.cmp.Ordering.TheVariants.{Less}
use Rattle.std.specs.Cmp.Lexicographic.{slice_cmp}
use Rattle.std.proofs.lemmas.Bool.{cases_order}
use Rattle.std.proofs.Math.Seq.{take-length, take-append_seam, drop-append_seam, drop-append-add, drop-cons, get_or-append_seam}
use Rattle.std.proofs.lemmas.List.{take-append-drop, length-take-le}
use Rattle.zr_time.specs.declared.civil.Civil.{Civil}
use Rattle.zr_time.specs.declared.civil.Clock.{Clock}
use Rattle.zr_time.specs.declared.civil.Day.{Day}
use Rattle.zr_time.specs.Digits.{digits, IsNumber}
use Rattle.zr_time.specs.Stamps.{day_text, clock_text}
use Rattle.zr_time.specs.Reading.{IsDayText, IsClockText, IsCivilText, ReadsDay, ReadsClock, ReadsCivil}
use Rattle.zr_time.proofs.Decimal.{length-digits, digits-lt, slice_cmp-same}

-- a text that begins with the digits of a number
front : (text rest : List ℕ) (width n : ℕ) → n < 10 ^ width → text ≡ digits width n ++ rest → IsNumber (take width text) n × (drop width text ≡ rest)
front text rest width n fits is =
    let long = length-digits width n in
    let taken : take width text ≡ digits width n = ap (take width) is ∙ ap (λ k. take k (digits width n ++ rest)) (sym long) ∙ take-append_seam (digits width n) rest in
    let dropped : drop width text ≡ rest = ap (drop width) is ∙ ap (λ k. drop k (digits width n ++ rest)) (sym long) ∙ drop-append_seam (digits width n) rest in
    let wide : length (take width text) ≡ width = ap length taken ∙ long in
    (record { fits = subst (λ k. n < 10 ^ k) (sym wide) fits; text_is = taken ∙ ap (λ k. digits k n) (sym wide) }, dropped)

-- a text that is the digits of a number
whole : (text : List ℕ) (width n : ℕ) → n < 10 ^ width → text ≡ digits width n → IsNumber text n
whole text width n fits is =
    let wide : length text ≡ width = ap length is ∙ length-digits width n in
    record { fits = subst (λ k. n < 10 ^ k) (sym wide) fits; text_is = is ∙ ap (λ k. digits k n) (sym wide) }

-- the digits of a number of some length
number_of : (text : List ℕ) (width n : ℕ) → length text ≡ width → IsNumber text n → (n < 10 ^ width) × (text ≡ digits width n)
number_of text width n wide is = (subst (λ k. n < 10 ^ k) wide is.fits, is.text_is ∙ ap (λ k. digits k n) wide)

-- the numbers of a day's text
pub day_numbers : (text : List ℕ) (day : Day) → IsDayText text day → IsNumber (take 4 text) day.year × IsNumber (take 2 (drop 4 text)) day.month × IsNumber (drop 2 (drop 4 text)) day.day
day_numbers text day is =
    let years = front text (digits 2 day.month ++ digits 2 day.day) 4 day.year is.0.year is.1 in
    let months = front (drop 4 text) (digits 2 day.day) 2 day.month is.0.month years.1 in
    (years.0, months.0, whole (drop 2 (drop 4 text)) 2 day.day is.0.of_month months.1)

-- the day of these numbers
pub day_of : (text : List ℕ) → length text ≡ 8 → (day : Day) → IsNumber (take 4 text) day.year → IsNumber (take 2 (drop 4 text)) day.month → IsNumber (drop 2 (drop 4 text)) day.day → IsDayText text day
day_of text long day year month of_month =
    let rest : length (drop 4 text) ≡ 4 = omega (arith, length-drop 4 text) in
    let y = number_of (take 4 text) 4 day.year (length-take-le 4 text (omega arith)) year in
    let m = number_of (take 2 (drop 4 text)) 2 day.month (length-take-le 2 (drop 4 text) (omega arith)) month in
    let d = number_of (drop 2 (drop 4 text)) 2 day.day (omega (arith, length-drop 2 (drop 4 text))) of_month in
    let halves : text ≡ take 4 text ++ drop 4 text = sym (take-append-drop 4 text) in
    let quarters : drop 4 text ≡ take 2 (drop 4 text) ++ drop 2 (drop 4 text) = sym (take-append-drop 2 (drop 4 text)) in (
      record { year = y.0; month = m.0; of_month = d.0 },
      halves ∙ ap (λ t. t ++ drop 4 text) y.1 ∙ ap (λ t. digits 4 day.year ++ t) (quarters ∙ ap (λ t. t ++ drop 2 (drop 4 text)) m.1 ∙ ap (λ t. digits 2 day.month ++ t) d.1),
    )

-- the numbers of a time of day's text
pub clock_numbers : (text : List ℕ) (clock : Clock) → IsClockText text clock
    → IsNumber (take 2 text) clock.hour × IsNumber (take 2 (drop 2 text)) clock.minute × IsNumber (take 2 (drop 2 (drop 2 text))) clock.second
    × (get_or (take 1 (drop 2 (drop 2 (drop 2 text)))) 0 0 ≡ 95) × IsNumber (drop 1 (drop 2 (drop 2 (drop 2 text)))) clock.milli
clock_numbers text clock is =
    let hours = front text (digits 2 clock.minute ++ (digits 2 clock.second ++ 95 ∷ digits 3 clock.milli)) 2 clock.hour is.0.hour is.1 in
    let minutes = front (drop 2 text) (digits 2 clock.second ++ 95 ∷ digits 3 clock.milli) 2 clock.minute is.0.minute hours.1 in
    let seconds = front (drop 2 (drop 2 text)) (95 ∷ digits 3 clock.milli) 2 clock.second is.0.second minutes.1 in
    (hours.0, minutes.0, seconds.0, ap (λ t. get_or (take 1 t) 0 0) seconds.1, whole (drop 1 (drop 2 (drop 2 (drop 2 text)))) 3 clock.milli is.0.milli (ap (drop 1) seconds.1))

-- the mark at the front of a text
marked : (text : List ℕ) → get_or (take 1 text) 0 0 ≡ 95 → text ≡ 95 ∷ drop 1 text
marked [] is = absurd (omega arith)
marked (b ∷ text) is = ap (λ k. k ∷ text) is

-- the time of day of these numbers
pub clock_of : (text : List ℕ) → length text ≡ 10 → (clock : Clock)
    → IsNumber (take 2 text) clock.hour → IsNumber (take 2 (drop 2 text)) clock.minute → IsNumber (take 2 (drop 2 (drop 2 text))) clock.second
    → get_or (take 1 (drop 2 (drop 2 (drop 2 text)))) 0 0 ≡ 95 → IsNumber (drop 1 (drop 2 (drop 2 (drop 2 text)))) clock.milli → IsClockText text clock
clock_of text long clock hour minute second mark milli =
    let rest : length (drop 2 text) ≡ 8 = omega (arith, length-drop 2 text) in
    let later : length (drop 2 (drop 2 text)) ≡ 6 = omega (arith, length-drop 2 (drop 2 text)) in
    let last : length (drop 2 (drop 2 (drop 2 text))) ≡ 4 = omega (arith, length-drop 2 (drop 2 (drop 2 text))) in
    let h = number_of (take 2 text) 2 clock.hour (length-take-le 2 text (omega arith)) hour in
    let m = number_of (take 2 (drop 2 text)) 2 clock.minute (length-take-le 2 (drop 2 text) (omega arith)) minute in
    let s = number_of (take 2 (drop 2 (drop 2 text))) 2 clock.second (length-take-le 2 (drop 2 (drop 2 text)) (omega arith)) second in
    let k = number_of (drop 1 (drop 2 (drop 2 (drop 2 text)))) 3 clock.milli (omega (arith, length-drop 1 (drop 2 (drop 2 (drop 2 text))))) milli in
    let behind : drop 2 (drop 2 (drop 2 text)) ≡ 95 ∷ digits 3 clock.milli = marked (drop 2 (drop 2 (drop 2 text))) mark ∙ ap (λ t. 95 ∷ t) k.1 in
    let seconds : drop 2 (drop 2 text) ≡ digits 2 clock.second ++ 95 ∷ digits 3 clock.milli =
    sym (take-append-drop 2 (drop 2 (drop 2 text))) ∙ ap (λ t. t ++ drop 2 (drop 2 (drop 2 text))) s.1 ∙ ap (λ t. digits 2 clock.second ++ t) behind in
    let minutes : drop 2 text ≡ digits 2 clock.minute ++ (digits 2 clock.second ++ 95 ∷ digits 3 clock.milli) =
    sym (take-append-drop 2 (drop 2 text)) ∙ ap (λ t. t ++ drop 2 (drop 2 text)) m.1 ∙ ap (λ t. digits 2 clock.minute ++ t) seconds in (
      record { hour = h.0; minute = m.0; second = s.0; milli = k.0 },
      sym (take-append-drop 2 text) ∙ ap (λ t. t ++ drop 2 text) h.1 ∙ ap (λ t. digits 2 clock.hour ++ t) minutes,
    )

-- a part that reads as no number
pub no_number : (part text : List ℕ) → part ≡ text → ((n : ℕ) → IsNumber part n → ⊥) → (n : ℕ) → IsNumber text n → ⊥
no_number part text same none n is = none n (subst (λ t. IsNumber t n) (sym same) is)

-- a part that reads as a number
pub a_number : (part text : List ℕ) → part ≡ text → (n : ℕ) → IsNumber part n → IsNumber text n
a_number part text same n is = subst (λ t. IsNumber t n) same is

pub no_day : (text : List ℕ) (r : Option Day) → r ≡ None → ((day : Day) → IsDayText text day → ⊥) → ReadsDay text r
no_day text r none gone = subst (ReadsDay text) (sym none) gone

pub no_clock : (text : List ℕ) (r : Option Clock) → r ≡ None → ((clock : Clock) → IsClockText text clock → ⊥) → ReadsClock text r
no_clock text r none gone = subst (ReadsClock text) (sym none) gone

pub no_civil : (text : List ℕ) (r : Option Civil) → r ≡ None → ((civil : Civil) → IsCivilText text civil → ⊥) → ReadsCivil text r
no_civil text r none gone = subst (ReadsCivil text) (sym none) gone

length-day_text : (day : Day) → length (day_text day) ≡ 8
length-day_text day =
    length-append (digits 4 day.year) (digits 2 day.month ++ digits 2 day.day)
    ∙ omega (arith, length-append (digits 2 day.month) (digits 2 day.day), length-digits 4 day.year, length-digits 2 day.month, length-digits 2 day.day)

length-clock_text : (clock : Clock) → length (clock_text clock) ≡ 10
length-clock_text clock =
    omega (arith, length-append (digits 2 clock.hour) (digits 2 clock.minute ++ (digits 2 clock.second ++ 95 ∷ digits 3 clock.milli)), length-append (digits 2 clock.minute) (digits 2 clock.second ++ 95 ∷ digits 3 clock.milli), length-append (digits 2 clock.second) (95 ∷ digits 3 clock.milli), length-digits 2 clock.hour, length-digits 2 clock.minute, length-digits 2 clock.second, length-digits 3 clock.milli)

-- the parts of a date and time's text
pub record CivilParts (text : List ℕ) (civil : Civil) : Type 0 where
  pub long : length text ≡ 19
  pub mark : get_or text 8 0 ≡ 95
  pub day : IsDayText (take 8 text) civil.day
  pub clock : IsClockText (drop 9 text) civil.clock

pub civil_parts : (text : List ℕ) (civil : Civil) → IsCivilText text civil → CivilParts text civil
civil_parts text civil is =
    let wide = length-day_text civil.day in
    let nine : length (day_text civil.day) + 1 ≡ 9 = omega arith in
    record {
      long = ap length is.2 ∙ length-append (day_text civil.day) (95 ∷ clock_text civil.clock) ∙ omega (arith, length-clock_text civil.clock);
      mark = ap (λ t. get_or t 8 0) is.2 ∙ ap (λ k. get_or (day_text civil.day ++ 95 ∷ clock_text civil.clock) k 0) (sym wide) ∙ get_or-append_seam (day_text civil.day) 95 (clock_text civil.clock) 0;
      day = (is.0, ap (take 8) is.2 ∙ ap (λ k. take k (day_text civil.day ++ 95 ∷ clock_text civil.clock)) (sym wide) ∙ take-append_seam (day_text civil.day) (95 ∷ clock_text civil.clock));
      clock = (is.1, ap (drop 9) is.2 ∙ ap (λ k. drop k (day_text civil.day ++ 95 ∷ clock_text civil.clock)) (sym nine) ∙ drop-append-add (day_text civil.day) (95 ∷ clock_text civil.clock) 1);
    }

pub from_parts : (text : List ℕ) (civil : Civil) → CivilParts text civil → IsCivilText text civil
from_parts text civil parts =
    let behind : drop 8 text ≡ 95 ∷ clock_text civil.clock = drop-cons text 8 0 (omega (arith, parts.long)) ∙ ap (λ k. k ∷ drop 9 text) parts.mark ∙ ap (λ t. 95 ∷ t) parts.clock.1 in
    (parts.day.0, parts.clock.0, sym (take-append-drop 8 text) ∙ ap (λ t. t ++ drop 8 text) parts.day.1 ∙ ap (λ t. day_text civil.day ++ t) behind)

-- what lies behind a place
pub behind : (text : List ℕ) (k : ℕ) → take (length text - k) (drop k text) ≡ drop k text
behind text k = ap (λ n. take n (drop k text)) (sym (length-drop k text)) ∙ take-length (drop k text)

pub a_clock : (part text : List ℕ) → part ≡ text → (clock : Clock) → IsClockText part clock → IsClockText text clock
a_clock part text same clock is = subst (λ t. IsClockText t clock) same is

-- a text is the digits of one number
number_unique : (text : List ℕ) (n m : ℕ) → IsNumber text n → IsNumber text m → n ≡ m
number_unique text n m a b =
    elim (cases_order n m) [
      | inl same ↦ same
      | inr (inl lower) ↦ absurd (let less = digits-lt (length text) n m lower b.fits in let e = slice_cmp-same text in let x = a.text_is in let y = b.text_is in apart text (digits (length text) n) (digits (length text) m) x y less)
      | inr (inr higher) ↦ absurd (let less = digits-lt (length text) m n higher a.fits in apart text (digits (length text) m) (digits (length text) n) b.text_is a.text_is less)
    ] where
      apart : (t a b : List ℕ) → t ≡ a → t ≡ b → slice_cmp nat_cmp a b ≡ Less → ⊥
      apart t a b x y less = let e = slice_cmp-same t in let f : slice_cmp nat_cmp t t ≡ Less = ap (λ k. slice_cmp nat_cmp k t) x ∙ ap (slice_cmp nat_cmp a) y ∙ less in cc

abbrev made : ℕ → ℕ → ℕ → ℕ → ℕ → ℕ → ℕ → Civil
made year month day hour minute second milli = record { day = record { year = year; month = month; day = day }; clock = record { hour = hour; minute = minute; second = second; milli = milli } }

-- and of one date and time
pub civil_unique : (text : List ℕ) (a b : Civil) → IsCivilText text a → IsCivilText text b → a ≡ b
civil_unique text a b x y =
    let p = civil_parts text a x in
    let q = civil_parts text b y in
    let d = day_numbers (take 8 text) a.day p.day in
    let e = day_numbers (take 8 text) b.day q.day in
    let f = clock_numbers (drop 9 text) a.clock p.clock in
    let g = clock_numbers (drop 9 text) b.clock q.clock in
    let year = number_unique _ _ _ d.0 e.0 in
    let month = number_unique _ _ _ d.1 e.1 in
    let day = number_unique _ _ _ d.2 e.2 in
    let hour = number_unique _ _ _ f.0 g.0 in
    let minute = number_unique _ _ _ f.1 g.1 in
    let second = number_unique _ _ _ f.2 g.2 in
    let milli = number_unique _ _ _ f.4 g.4 in
    same_civil a b year month day hour minute second milli where
      same_civil : (a b : Civil) → a.day.year ≡ b.day.year → a.day.month ≡ b.day.month → a.day.day ≡ b.day.day → a.clock.hour ≡ b.clock.hour → a.clock.minute ≡ b.clock.minute → a.clock.second ≡ b.clock.second → a.clock.milli ≡ b.clock.milli → a ≡ b
      same_civil a b year month day hour minute second milli =
          ap (λ k. made k a.day.month a.day.day a.clock.hour a.clock.minute a.clock.second a.clock.milli) year
          ∙ ap (λ k. made b.day.year k a.day.day a.clock.hour a.clock.minute a.clock.second a.clock.milli) month
          ∙ ap (λ k. made b.day.year b.day.month k a.clock.hour a.clock.minute a.clock.second a.clock.milli) day
          ∙ ap (λ k. made b.day.year b.day.month b.day.day k a.clock.minute a.clock.second a.clock.milli) hour
          ∙ ap (λ k. made b.day.year b.day.month b.day.day b.clock.hour k a.clock.second a.clock.milli) minute
          ∙ ap (λ k. made b.day.year b.day.month b.day.day b.clock.hour b.clock.minute k a.clock.milli) second
          ∙ ap (λ k. made b.day.year b.day.month b.day.day b.clock.hour b.clock.minute b.clock.second k) milli
