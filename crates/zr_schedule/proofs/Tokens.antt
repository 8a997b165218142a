-- Tokens and the bytes that they are made of.
use Rattle.std.proofs.Common.{◌≡◌, ℕ, zero, suc, take, ◌≤◌, ◌+◌, ◌-◌, ◌*◌, Bool, ◌==◌, true, false, ◌&&◌, List, [], ◌∷◌, length, refl, sym, arith, if◌then◌else◌}
use Rattle.zr_schedule.specs.Tokens.{Token, number, star, dash, slash, other, is_digit, token_of, tokens, width, widths}

width_one_by : (digit a d s : Bool) (n : ℕ) → width (if digit then number n 1 else (if a then star else (if d then dash else (if s then slash else other)))) ≡ 1
width_one_by true a d s n = refl
width_one_by false true d s n = refl
width_one_by false false true s n = refl
width_one_by false false false true n = refl
width_one_by false false false false n = refl

width_one : (b : ℕ) → width (token_of b) ≡ 1
width_one b = width_one_by (is_digit b) (b == 42) (b == 45) (b == 47) (b - 48)

two : (both : Bool) (b c n : ℕ) (text : List ℕ) → widths (tokens text) ≡ length text → widths (tokens (c ∷ text)) ≡ suc (length text) → widths (if both then (number n 2 ∷ tokens text) else (token_of b ∷ tokens (c ∷ text))) ≡ suc (suc (length text))
two true b c n text e f = omega (arith, e)
two false b c n text e f = let w = width_one b in omega (arith, w, f)

-- the tokens of a text have its bytes
pub widths-tokens : (text : List ℕ) → widths (tokens text) ≡ length text
widths-tokens [] = refl
widths-tokens (b ∷ []) = let w = width_one b in omega (arith, w)
widths-tokens (b ∷ c ∷ text) = two (is_digit b && is_digit c) b c ((b - 48) * 10 + (c - 48)) text (widths-tokens text) (widths-tokens (c ∷ text))

pub tokens_width : (text : List ℕ) → length text ≡ widths (tokens text)
tokens_width text = sym (widths-tokens text)

front_within : (n : ℕ) (all : List Token) → widths (take n all) ≤ widths all
front_within zero all = omega arith
front_within (suc n) [] = omega arith
front_within (suc n) (t ∷ all) = let h = front_within n all in omega (arith, h)

pub front_of_text : (n : ℕ) (text : List ℕ) → widths (take n (tokens text)) ≤ length text
front_of_text n text = let h = front_within n (tokens text) in let e = widths-tokens text in omega (arith, h, e)
