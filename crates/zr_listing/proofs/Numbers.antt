use Rattle.std.proofs.Common.{◌≡◌, ◌≢◌, ℕ, zero, suc, ◌<◌, ◌^◌, ◌⊎◌, true, false, inl, inr, List, [], ◌∷◌, Result, Ok, Err, IfSome, IfNone, length, get_or, refl, arith, sym}
use Rattle.zr_listing.specs.Columns.{has_printed_front}
use Rattle.std.proofs.lemmas.Bool.Decides.{nat_tests}
use Rattle.std.specs.Fmt.{decimal}
use Rattle.std.specs.Result.{result_ok}
use Rattle.std.specs.Str.{IsUtf8}
use Rattle.std.specs.Str.Parse.{ParsesUnsigned, AllDigits, digits_value}
use Rattle.std.proofs.lemmas.Fmt.{decimal-digits_value, decimal_digit, first_decimal, parse-decimal, IsAscii-decimal}
use Rattle.std.proofs.lemmas.Str.{IsUtf8-from_ascii}
use Rattle.std.proofs.lemmas.Str.Parse.{IsNumeralModel, numerals_by_value, tells_digits, parse_plain}

digit_texts : IsNumeralModel (AllDigits 10) (digits_value 10)
digit_texts = numerals_by_value (AllDigits 10) tells_digits

-- the first byte of a printed number is a digit, and 0 only of 0
decimal-first : (n : ℕ) → n < 2 ^ 64 → ((get_or (decimal n) 0 0 ≡ 48) × (length (decimal n) ≡ 1)) ⊎ (48 < get_or (decimal n) 0 0)
decimal-first zero small = inl (rw (decimal_digit 0 (omega arith)) (refl, refl))
decimal-first (suc n) small = inr (first_decimal (suc n) (omega arith) small)

-- the form of a printed number
pub record Printed (text : List ℕ) : Type 0 where
  pub not_empty : 0 < length text
  pub no_plus : get_or text 0 0 ≢ 43
  pub no_zero : get_or text 0 0 ≡ 48 → length text ≡ 1
  pub utf8 : IsUtf8 text

printed-cases : (text : List ℕ) → ((get_or text 0 0 ≡ 48) × (length text ≡ 1)) ⊎ (48 < get_or text 0 0) → IsUtf8 text → Printed text
printed-cases text (inl alone) utf8 = record { not_empty = omega arith; no_plus = λ plus. absurd (omega arith); no_zero = λ _. alone.1; utf8 = utf8 }
printed-cases [] (inr more) utf8 = absurd (omega arith)
printed-cases (b ∷ bs) (inr more) utf8 = record { not_empty = omega arith; no_plus = λ plus. absurd (omega arith); no_zero = λ alone. absurd (omega arith); utf8 = utf8 }

pub printed : (text : List ℕ) (n : ℕ) → n < 2 ^ 64 → text ≡ decimal n → Printed text
printed text n small is =
    rw is (printed-cases (decimal n) (decimal-first n small) (IsUtf8-from_ascii (decimal n) (IsAscii-decimal n small)))

-- a printed number has such a front
front-or : (text : List ℕ) → 0 < length text → get_or text 0 0 ≢ 43 → (get_or text 0 0 ≡ 48 → length text ≡ 1) → has_printed_front text ≡ false → ⊥
front-or text some no_plus no_zero bad = grind (arith, nat_tests)

pub front-printed : (text : List ℕ) (n : ℕ) → n < 2 ^ 64 → text ≡ decimal n → has_printed_front text ≡ false → ⊥
front-printed text n small is bad =
    let p = printed text n small is in
    front-or text p.not_empty p.no_plus p.no_zero bad

front-no_plus : (text : List ℕ) → has_printed_front text ≡ true → get_or text 0 0 ≢ 43
front-no_plus text front plus = grind (arith, nat_tests)

front-no_zero : (text : List ℕ) → has_printed_front text ≡ true → get_or text 0 0 ≡ 48 → length text ≡ 1
front-no_zero text front alone = grind (arith, nat_tests)

-- what a parser answers at a text with such a front
pub parsed-some : {E : Type 0} (text : List ℕ) (r : Result ℕ E) → ParsesUnsigned 64 10 text r → has_printed_front text ≡ true → IfSome (result_ok r) (λ n. text ≡ decimal n)
parsed-some {E} text (Ok n) parses front =
    let plain = parse_plain digit_texts {E = E} 64 text (Ok n) parses (front-no_plus text front) in
    let is : decimal (digits_value 10 text) ≡ text = decimal-digits_value digit_texts text plain.0.0 plain.0.1 (front-no_zero text front) plain.0.2 in
    rw plain.1 (sym is)
parsed-some text (Err e) parses front = tt

pub parsed-none : {E : Type 0} (text : List ℕ) (r : Result ℕ E) → ParsesUnsigned 64 10 text r → IfNone (result_ok r) ((n : ℕ) → n < 2 ^ 64 → text ≡ decimal n → ⊥)
parsed-none text (Ok n) parses = tt
parsed-none {E} text (Err e) parses = λ n small is. let read = parse-decimal {E = E} 64 n text (Err e) small small is parses in cc
