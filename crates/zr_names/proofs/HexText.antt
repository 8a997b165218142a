use Rattle.std.proofs.Common.{◌≡◌, ◌≢◌, ◌≤◌, ℕ, zero, suc, ◌+◌, ◌-◌, ◌*◌, ◌<◌, ◌/◌, ◌%◌, ◌^◌, ◌==◌, true, List, [], ◌∷◌, ◌++◌, length, take, drop, get_or, subst, lit<, refl, sym, ◌∙◌, arith, ap, length-append}
use Rattle.std.proofs.lemmas.Bool.{agree_below_at, eqb-true}
use Rattle.std.proofs.lemmas.Grind.{pow_more}
use Rattle.std.proofs.lemmas.List.{take_at, drop_at, take_more}
use Rattle.std.proofs.lemmas.List.Elements.{All-get_or, All-nil, All-push}
use Rattle.std.proofs.Math.Nat.{pow-le-pow_right}
use Rattle.std.specs.List.{All}
use Rattle.zr_names.specs.Hex.{digit_number, hex_digit, hex_text}

-- no digits are no text
pub hex_text-none : (digits n : ℕ) → digits ≡ 0 → hex_text digits n ≡ []
unfolding hex_text
hex_text-none zero n e = refl
hex_text-none (suc digits) n e = absurd (omega arith)

-- the last of some digits
pub hex_text-more : (digits n : ℕ) → 0 < digits → hex_text digits n ≡ hex_text (digits - 1) (n / 16) ++ hex_digit (n % 16) ∷ []
unfolding hex_text
hex_text-more zero n some = absurd (omega arith)
hex_text-more (suc digits) n some =
    let e : digits ≡ suc digits - 1 = omega arith in
    ap (λ k. hex_text k (n / 16) ++ hex_digit (n % 16) ∷ []) e

-- as many bytes as digits
pub length-hex_text : (digits n : ℕ) → length (hex_text digits n) ≡ digits
unfolding hex_text
length-hex_text zero n = refl
length-hex_text (suc digits) n =
    let shorter = length-hex_text digits (n / 16) in
    let both = length-append (hex_text digits (n / 16)) (hex_digit (n % 16) ∷ []) in
    omega (arith, shorter, both)

-- a digit is read as it was written
pub number-of_digit : (n : ℕ) → n < 16 → digit_number (hex_digit n) ≡ n
number-of_digit n small =
    eqb-true (digit_number (hex_digit n)) n (agree_below_at (λ k. digit_number (hex_digit k) == k) (λ k. true) 16 n refl small)

-- different digits are written differently
pub same-hex_digit : (m n : ℕ) → m < 16 → n < 16 → hex_digit m ≡ hex_digit n → m ≡ n
same-hex_digit m n m_small n_small same =
    sym (number-of_digit m m_small) ∙ ap digit_number same ∙ number-of_digit n n_small

-- one more digit
pub hex_text-push : (digits n d : ℕ) → d < 16 → hex_text (digits + 1) (n * 16 + d) ≡ hex_text digits n ++ hex_digit d ∷ []
hex_text-push digits n d small =
    let more = hex_text-more (digits + 1) (n * 16 + d) (omega arith) in
    let count : digits + 1 - 1 ≡ digits = omega arith in
    let front : (n * 16 + d) / 16 ≡ n = omega arith in
    let last : (n * 16 + d) % 16 ≡ d = omega arith in
    cc

-- one more power of 16
pub pow_suc : (digits : ℕ) → 16 ^ suc digits ≡ 16 ^ digits * 16
pow_suc digits = let e : suc digits ≡ digits + 1 = omega arith in ap (λ k. 16 ^ k) e ∙ pow_more 16 digits

-- different numbers of so many digits are written differently
pub same-hex_text : (digits m n : ℕ) → m < 16 ^ digits → n < 16 ^ digits → hex_text digits m ≡ hex_text digits n → m ≡ n
unfolding hex_text
same-hex_text zero m n m_small n_small same = omega arith
same-hex_text (suc digits) m n m_small n_small same =
    let more = pow_suc digits in
    let m_front = hex_text digits (m / 16) in
    let n_front = hex_text digits (n / 16) in
    let m_last : List ℕ = hex_digit (m % 16) ∷ [] in
    let n_last : List ℕ = hex_digit (n % 16) ∷ [] in
    let m_length = length-hex_text digits (m / 16) in
    let n_length = length-hex_text digits (n / 16) in
    let fronts : m_front ≡ n_front = sym (take_at m_front m_last digits m_length) ∙ ap (take digits) same ∙ take_at n_front n_last digits n_length in
    let lasts : m_last ≡ n_last = sym (drop_at m_front m_last digits m_length) ∙ ap (drop digits) same ∙ drop_at n_front n_last digits n_length in
    let last : hex_digit (m % 16) ≡ hex_digit (n % 16) = cc in
    let rest = same-hex_digit (m % 16) (n % 16) (omega arith) (omega arith) last in
    let whole = same-hex_text digits (m / 16) (n / 16) (omega arith) (omega arith) fronts in
    omega arith

-- so many digits are those of a number
pub record IsRead (text : List ℕ) (count n : ℕ) : Type 0 where
  pub small : n < 16 ^ count
  pub same : take count text ≡ hex_text count n

pub read-none : (text : List ℕ) → IsRead text 0 0
read-none text = record { small = lit< tt; same = sym (hex_text-none 0 0 refl) }

-- one more digit that was read
pub read-more : (text : List ℕ) (i n d : ℕ) → i < length text → d < 16 → get_or text i 0 ≡ hex_digit d → IsRead text i n → IsRead text (i + 1) (n * 16 + d)
read-more text i n d inside small is so_far =
    let power = pow_more 16 i in
    let below = so_far.small in
    record {
      small = omega arith;
      same = let more = take_more text i 0 inside in let front = so_far.same in let pushed = hex_text-push i n d small in cc;
    }

-- 16 digits fit in 64 bits
pub read-fits : (text : List ℕ) (i n d : ℕ) → i < 16 → d < 16 → IsRead text i n → n * 16 + d < 2 ^ 64
read-fits text i n d inside small so_far =
    let most : 16 ^ i ≤ 16 ^ 15 = pow-le-pow_right {n = 16} (lit< tt) {i = i} {j = 15} (omega arith) in
    let below = so_far.small in
    omega arith

-- a byte is a lower-case hexadecimal digit
abbrev IsDigit : ℕ → Type 0
IsDigit b = (d : ℕ) × (d < 16) × (b ≡ hex_digit d)

all_digits : (digits n : ℕ) → All IsDigit (hex_text digits n)
unfolding hex_text
all_digits zero n = All-nil IsDigit
all_digits (suc digits) n =
    All-push IsDigit (hex_text digits (n / 16)) (hex_digit (n % 16)) (all_digits digits (n / 16)) (n % 16, omega arith, refl)

-- a text with a byte that is no digit is that of no number
pub no_digit : (text : List ℕ) (i n : ℕ) → i < length text → ((d : ℕ) → d < 16 → get_or text i 0 ≢ hex_digit d) → text ≢ hex_text (length text) n
no_digit text i n inside none = λ same.
    let at : IsDigit (get_or text i 0) = All-get_or IsDigit text i 0 inside (subst (All IsDigit) (sym same) (all_digits (length text) n)) in
    none at.0 at.1 at.2
