-- The tokens of an item of a cron field.
use Rattle.std.specs.Prelude.{ℕ, ◌+◌, ◌-◌, ◌*◌, Bool, ◌==◌, ◌&&◌, nat_le, if◌then◌else◌, List, [], ◌∷◌}

-- a number with its digits, or a byte that is none
pub data Token : Type 0 where
  number : ℕ → ℕ → Token
  star : Token
  dash : Token
  slash : Token
  other : Token

-- 0 to 9
abbrev pub is_digit : ℕ → Bool
is_digit b = nat_le 48 b && nat_le b 57

-- a byte alone: a digit, *, -, / or any other
abbrev pub token_of : ℕ → Token
token_of b =
    if is_digit b then number (b - 48) 1 else (if b == 42 then star else (if b == 45 then dash else (if b == 47 then slash else other)))

-- two digits together are one number
abbrev pub tokens : List ℕ → List Token
tokens [] = []
tokens (b ∷ []) = token_of b ∷ []
tokens (b ∷ c ∷ text) = if is_digit b && is_digit c then (number ((b - 48) * 10 + (c - 48)) 2 ∷ tokens text) else (token_of b ∷ tokens (c ∷ text))

-- how many bytes a token has
abbrev pub width : Token → ℕ
width (number value digits) = digits
width star = 1
width dash = 1
width slash = 1
width other = 1

abbrev pub widths : List Token → ℕ
widths [] = 0
widths (token ∷ others) = width token + widths others
