use Rattle.std.proofs.Common.{◌≡◌, ◌≢◌, ◌≤◌, ◌<◌, ◌^◌, ℕ, zero, suc, true, List, [], ◌∷◌, Result, Ok, Err, IfNone, arith, length, get_or, slice_index, lit<}
use Rattle.std.specs.Char.{digit_value}
use Rattle.std.specs.Result.{result_ok}
use Rattle.std.specs.Str.{IsUtf8}
use Rattle.std.specs.Str.Parse.{AllDigits, ParsesUnsigned, digits_value}
use Rattle.std.proofs.Math.Nat.{pow-le-pow_right}
use Rattle.std.proofs.lemmas.Bool.Decides.{nat_tests}
use Rattle.std.proofs.lemmas.Int.Digits.{digits_value-lt}
use Rattle.std.proofs.lemmas.Str.{IsUtf8-from_ascii}
use Rattle.std.proofs.lemmas.Str.Parse.{without_leading_plus_none}
use Rattle.zr_listing.specs.Token.{IsHexNumber}
use Rattle.zr_listing.specs.TokenSteps.{is_hex_long}

digit-ascii : (c : ℕ) → digit_value c < 16 → c < 128
digit-ascii c small = grind (arith, nat_tests)

digits-ascii : (text : List ℕ) → AllDigits 16 text → (i : ℕ) → slice_index text i < 128
digits-ascii [] h i = lit< tt
digits-ascii (c ∷ cs) h zero = digit-ascii c h.0
digits-ascii (c ∷ cs) h (suc i) = digits-ascii cs h.1 i

-- digits are text
pub hex-utf8 : (text : List ℕ) (n : ℕ) → IsHexNumber text n → IsUtf8 text
hex-utf8 text n is = IsUtf8-from_ascii text (digits-ascii text is.digits.1)

-- 16 digits fit in 64 bits
pub hex-fits : (text : List ℕ) (n : ℕ) → IsHexNumber text n → digits_value 16 text < 2 ^ 64
hex-fits text n is =
    let below = digits_value-lt 16 text is.digits.1 in
    let most : 16 ^ length text ≤ 16 ^ 16 = pow-le-pow_right {n = 16} (lit< tt) {i = length text} {j = 16} is.short in
    omega arith

no-plus : (text : List ℕ) → is_hex_long text ≡ true → get_or text 0 0 ≢ 43
no-plus text long plus = grind (arith, nat_tests)

-- what a parser refuses, where the text is long enough and has no sign, is no number
pub hex-none : {E : Type 0} (text : List ℕ) (r : Result ℕ E) → ParsesUnsigned 64 16 text r → is_hex_long text ≡ true → IfNone (result_ok r) ((n : ℕ) → IsHexNumber text n → ⊥)
hex-none text (Ok n) parses long = tt
hex-none text (Err e) parses long = λ n is.
    let refused = rw (without_leading_plus_none text (no-plus text long)) at parses in
    refused (is.digits, hex-fits text n is)
