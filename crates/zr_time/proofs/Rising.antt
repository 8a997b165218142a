-- Stamps rise with moments, and each moment has one.
use Rattle.std.proofs.Common.{◌≡◌, ℕ, ◌^◌, ◌<◌, ◌∙◌, inl, inr, List, ◌∷◌, ◌++◌, refl, ap, sym, subst, arith, append_assoc, nat_cmp, ℤ, pos, ◌<ℤ◌}
use Rattle.std.specs.Ordering.{ordering_then, ordering_reverse}
use Rattle.std.specs.declared.cmp.Ordering.TheVariants.{Less, Equal, Greater}
use Rattle.std.specs.Cmp.Lexicographic.{slice_cmp}
use Rattle.std.proofs.lemmas.Bool.{cases_order}
use Rattle.std.proofs.lemmas.Bool.Decides.{nat_tests}
use Rattle.std.proofs.lemmas.Cmp.{nat_list_cmp_total}
use Rattle.std.proofs.lemmas.Int.{by_lt_z}
use Rattle.jiff_core.specs.Calendar.{IsCivilDate, days_from_civil}
use Rattle.jiff_core.proofs.SignedLemmas.{signed_arith}
use Rattle.jiff_core.proofs.CalendarLemmas.{days_from_civil-day_count, day_count-lt_year, day_count-lt_month, day_count-day, days_in_month_bounds}
use Rattle.zr_time.specs.declared.civil.Civil.{Civil}
use Rattle.zr_time.specs.declared.civil.Clock.{Clock}
use Rattle.zr_time.specs.declared.civil.Day.{Day}
use Rattle.zr_time.specs.Digits.{digits}
use Rattle.zr_time.specs.Stamps.{IsClock, IsStamp, Shows, clock_text, day_text, since_midnight}
use Rattle.zr_time.proofs.Decimal.{digits-lt, length-digits, slice_cmp-append, slice_cmp-same}

-- texts that begin with the digits of two numbers
less_here : (width n m : ℕ) (x y : List ℕ) → n < m → m < 10 ^ width → slice_cmp nat_cmp (digits width n ++ x) (digits width m ++ y) ≡ Less
less_here width n m x y below fits =
    let parted = slice_cmp-append (digits width n) (digits width m) x y (length-digits width n ∙ sym (length-digits width m)) in
    parted ∙ ap (λ o. ordering_then o (slice_cmp nat_cmp x y)) (digits-lt width n m below fits)

-- and the same number
less_later : (width n m : ℕ) (x y : List ℕ) → n ≡ m → slice_cmp nat_cmp x y ≡ Less → slice_cmp nat_cmp (digits width n ++ x) (digits width m ++ y) ≡ Less
less_later width n m x y same less =
    let parted = slice_cmp-append (digits width m) (digits width m) x y refl in
    ap (λ k. slice_cmp nat_cmp (digits width k ++ x) (digits width m ++ y)) same ∙ parted ∙ ap (λ o. ordering_then o (slice_cmp nat_cmp x y)) (slice_cmp-same (digits width m)) ∙ less

-- a day of the calendar
abbrev IsDay : Day → Type 0
IsDay day = IsCivilDate (pos day.year) day.month day.day

-- its number
abbrev number_of : Day → ℤ
number_of day = days_from_civil (pos day.year) day.month day.day

by_year : (a b : Day) → IsDay a → IsDay b → a.year < b.year → number_of a <ℤ number_of b
by_year a b p q lt = omega (arith, signed_arith, days_from_civil-day_count, day_count-lt_year (pos a.year) a.month a.day (pos b.year) b.month b.day p q.2.0 (omega (arith, signed_arith)))

by_month : (a b : Day) → IsDay a → IsDay b → a.year ≡ b.year → a.month < b.month → number_of a <ℤ number_of b
by_month a b p q year lt =
    let there : days_from_civil (pos a.year) b.month b.day ≡ number_of b = ap (λ k. days_from_civil (pos k) b.month b.day) year in
    omega (arith, signed_arith, there, days_from_civil-day_count, day_count-lt_month (pos a.year) a.month a.day b.month b.day p q.2.0 lt)

by_day : (a b : Day) → IsDay a → IsDay b → a.year ≡ b.year → a.month ≡ b.month → a.day < b.day → number_of a <ℤ number_of b
by_day a b p q year month lt =
    let there : days_from_civil (pos a.year) a.month b.day ≡ number_of b = ap (λ k. days_from_civil (pos k) a.month b.day) year ∙ ap (λ k. days_from_civil (pos b.year) k b.day) month in
    omega (arith, signed_arith, there, days_from_civil-day_count, day_count-day (pos a.year) a.month a.day b.day p.2.0 q.2.0)

flat_day : (a : Day) (x : List ℕ) → day_text a ++ x ≡ digits 4 a.year ++ (digits 2 a.month ++ (digits 2 a.day ++ x))
flat_day a x = append_assoc (digits 4 a.year) (digits 2 a.month ++ digits 2 a.day) x ∙ ap (λ t. digits 4 a.year ++ t) (append_assoc (digits 2 a.month) (digits 2 a.day) x)

same_number : (a b : Day) → a.year ≡ b.year → a.month ≡ b.month → a.day ≡ b.day → number_of a ≡ number_of b
same_number a b year month day = ap (λ k. days_from_civil (pos k) a.month a.day) year ∙ ap (λ k. days_from_civil (pos b.year) k a.day) month ∙ ap (days_from_civil (pos b.year) b.month) day

-- the text of an earlier day comes first
day_less : (a b : Day) (x y : List ℕ) → IsDay a → IsDay b → number_of a <ℤ number_of b → slice_cmp nat_cmp (day_text a ++ x) (day_text b ++ y) ≡ Less
day_less a b x y p q lt =
    let years : b.year < 10 ^ 4 = omega (arith, signed_arith, q.0) in
    let months : b.month < 10 ^ 2 = omega (arith, q.1) in
    let days : b.day < 10 ^ 2 = omega (arith, q.2, days_in_month_bounds (pos b.year) b.month) in
    ap (λ t. slice_cmp nat_cmp t (day_text b ++ y)) (flat_day a x) ∙ ap (slice_cmp nat_cmp (digits 4 a.year ++ (digits 2 a.month ++ (digits 2 a.day ++ x)))) (flat_day b y) ∙
    elim (cases_order a.year b.year) [
      | inl year ↦ less_later 4 a.year b.year _ _ year (elim (cases_order a.month b.month) [
        | inl month ↦ less_later 2 a.month b.month _ _ month (elim (cases_order a.day b.day) [
          | inl day ↦ absurd (let same = same_number a b year month day in omega (arith, signed_arith))
          | inr (inl below) ↦ less_here 2 a.day b.day x y below days
          | inr (inr above) ↦ absurd (let other = by_day b a q p (sym year) (sym month) above in omega (arith, signed_arith))
        ])
        | inr (inl below) ↦ less_here 2 a.month b.month _ _ below months
        | inr (inr above) ↦ absurd (let other = by_month b a q p (sym year) above in omega (arith, signed_arith))
      ])
      | inr (inl below) ↦ less_here 4 a.year b.year _ _ below years
      | inr (inr above) ↦ absurd (let other = by_year b a q p above in omega (arith, signed_arith))
    ]

abbrev made_day : ℕ → ℕ → ℕ → Day
made_day year month day = record { year = year; month = month; day = day }

-- days of one number are one day
day_same : (a b : Day) → IsDay a → IsDay b → number_of a ≡ number_of b → a ≡ b
day_same a b p q same =
    elim (cases_order a.year b.year) [
      | inl year ↦ elim (cases_order a.month b.month) [
        | inl month ↦ elim (cases_order a.day b.day) [
          | inl day ↦ ap (λ k. made_day k a.month a.day) year ∙ ap (λ k. made_day b.year k a.day) month ∙ ap (made_day b.year b.month) day
          | inr (inl below) ↦ absurd (let other = by_day a b p q year month below in omega (arith, signed_arith))
          | inr (inr above) ↦ absurd (let other = by_day b a q p (sym year) (sym month) above in omega (arith, signed_arith))
        ]
        | inr (inl below) ↦ absurd (let other = by_month a b p q year below in omega (arith, signed_arith))
        | inr (inr above) ↦ absurd (let other = by_month b a q p (sym year) above in omega (arith, signed_arith))
      ]
      | inr (inl below) ↦ absurd (let other = by_year a b p q below in omega (arith, signed_arith))
      | inr (inr above) ↦ absurd (let other = by_year b a q p above in omega (arith, signed_arith))
    ]

-- the text of an earlier time of day comes first
clock_less : (a b : Clock) → IsClock a → IsClock b → since_midnight a < since_midnight b → slice_cmp nat_cmp (clock_text a) (clock_text b) ≡ Less
clock_less a b p q lt =
    let hours : b.hour < 10 ^ 2 = omega arith in
    let minutes : b.minute < 10 ^ 2 = omega arith in
    let seconds : b.second < 10 ^ 2 = omega arith in
    let millis : b.milli < 10 ^ 3 = omega arith in
    elim (cases_order a.hour b.hour) [
      | inl hour ↦ less_later 2 a.hour b.hour _ _ hour (elim (cases_order a.minute b.minute) [
        | inl minute ↦ less_later 2 a.minute b.minute _ _ minute (elim (cases_order a.second b.second) [
          | inl second ↦ less_later 2 a.second b.second _ _ second (
              let behind : a.milli < b.milli = omega arith in
              digits-lt 3 a.milli b.milli behind millis)
          | inr (inl below) ↦ less_here 2 a.second b.second _ _ below seconds
          | inr (inr above) ↦ absurd (omega arith)
        ])
        | inr (inl below) ↦ less_here 2 a.minute b.minute _ _ below minutes
        | inr (inr above) ↦ absurd (omega arith)
      ])
      | inr (inl below) ↦ less_here 2 a.hour b.hour _ _ below hours
      | inr (inr above) ↦ absurd (omega arith)
    ]

abbrev made_clock : ℕ → ℕ → ℕ → ℕ → Clock
made_clock hour minute second milli = record { hour = hour; minute = minute; second = second; milli = milli }

clock_same : (a b : Clock) → IsClock a → IsClock b → since_midnight a ≡ since_midnight b → a ≡ b
clock_same a b p q same =
    let hour : a.hour ≡ b.hour = omega arith in
    let minute : a.minute ≡ b.minute = omega arith in
    let second : a.second ≡ b.second = omega arith in
    let milli : a.milli ≡ b.milli = omega arith in
    ap (λ k. made_clock k a.minute a.second a.milli) hour ∙ ap (λ k. made_clock b.hour k a.second a.milli) minute ∙ ap (λ k. made_clock b.hour b.minute k a.milli) second ∙ ap (made_clock b.hour b.minute b.second) milli

abbrev made_civil : Day → Clock → Civil
made_civil day clock = record { day = day; clock = clock }

-- a moment has one date and time
pub shown_once : (moment : ℕ) (a b : Civil) → Shows moment a → Shows moment b → a ≡ b
shown_once moment a b p q =
    let days : number_of a.day ≡ number_of b.day = omega (arith, signed_arith, p.instant, q.instant, p.clock, q.clock) in
    let clocks : since_midnight a.clock ≡ since_midnight b.clock = omega (arith, signed_arith, p.instant, q.instant, days) in
    ap (λ k. made_civil k a.clock) (day_same a.day b.day p.day q.day days) ∙ ap (made_civil b.day) (clock_same a.clock b.clock p.clock q.clock clocks)

-- a later moment has a later text
pub stamps_rise : (earlier later : ℕ) (x y : List ℕ) → IsStamp earlier x → IsStamp later y → earlier < later → slice_cmp nat_cmp x y ≡ Less
stamps_rise earlier later x y p q lt =
    let texts : slice_cmp nat_cmp x y ≡ slice_cmp nat_cmp (day_text p.civil.day ++ 95 ∷ clock_text p.civil.clock) (day_text q.civil.day ++ 95 ∷ clock_text q.civil.clock) = ap (λ t. slice_cmp nat_cmp t y) p.text_is ∙ ap (slice_cmp nat_cmp (day_text p.civil.day ++ 95 ∷ clock_text p.civil.clock)) q.text_is in
    texts ∙ by_lt_z (number_of p.civil.day) (number_of q.civil.day)
    (λ below. day_less p.civil.day q.civil.day _ _ p.shows.day q.shows.day below)
    (λ reached.
    let days : number_of p.civil.day ≡ number_of q.civil.day = omega (arith, signed_arith, p.shows.instant, q.shows.instant, p.shows.clock, q.shows.clock) in
    let clocks : since_midnight p.civil.clock < since_midnight q.civil.clock = omega (arith, signed_arith, p.shows.instant, q.shows.instant, days) in
    ap (λ d. slice_cmp nat_cmp (day_text d ++ 95 ∷ clock_text p.civil.clock) (day_text q.civil.day ++ 95 ∷ clock_text q.civil.clock)) (day_same p.civil.day q.civil.day p.shows.day q.shows.day days)
    ∙ slice_cmp-append (day_text q.civil.day) (day_text q.civil.day) (95 ∷ clock_text p.civil.clock) (95 ∷ clock_text q.civil.clock) refl
    ∙ ap (λ o. ordering_then o (slice_cmp nat_cmp (95 ∷ clock_text p.civil.clock) (95 ∷ clock_text q.civil.clock))) (slice_cmp-same (day_text q.civil.day))
    ∙ clock_less p.civil.clock q.civil.clock p.shows.clock q.shows.clock clocks)

-- a moment has one stamp
pub one_stamp : (moment : ℕ) (x y : List ℕ) → IsStamp moment x → IsStamp moment y → x ≡ y
one_stamp moment x y p q =
    p.text_is ∙ ap (λ c. day_text c.day ++ 95 ∷ clock_text c.clock) (shown_once moment p.civil q.civil p.shows q.shows) ∙ sym q.text_is

-- a stamp is that of one moment
pub one_moment : (a b : ℕ) (text : List ℕ) → IsStamp a text → IsStamp b text → a ≡ b
one_moment a b text p q =
    elim (cases_order a b) [
      | inl same ↦ same
      | inr (inl below) ↦ absurd (let less = stamps_rise a b text text p q below in let same = slice_cmp-same text in cc)
      | inr (inr above) ↦ absurd (let less = stamps_rise b a text text q p above in let same = slice_cmp-same text in cc)
    ]

-- stamps compare as their moments
pub stand_as_moments : (a b : ℕ) (x y : List ℕ) → IsStamp a x → IsStamp b y → slice_cmp nat_cmp x y ≡ nat_cmp a b
stand_as_moments a b x y p q =
    elim (cases_order a b) [
      | inl same ↦
          let text : x ≡ y = one_stamp b x y (subst (λ k. IsStamp k x) same p) q in
          let level : nat_cmp a b ≡ Equal = grind (arith, nat_tests) in
          ap (λ t. slice_cmp nat_cmp t y) text ∙ slice_cmp-same y ∙ sym level
      | inr (inl below) ↦
          let level : nat_cmp a b ≡ Less = grind (arith, nat_tests) in
          stamps_rise a b x y p q below ∙ sym level
      | inr (inr above) ↦
          let level : nat_cmp a b ≡ Greater = grind (arith, nat_tests) in
          nat_list_cmp_total.antisymm x y ∙ ap ordering_reverse (stamps_rise b a y x q p above) ∙ sym level
    ]
