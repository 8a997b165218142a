use Rattle.std.specs.Prelude.{◌≡◌, ℕ, zero, suc, ◌+◌, ◌/◌, ◌%◌, ◌^◌, ◌<◌, List, [], ◌∷◌, ◌++◌, Option, Some, None, length}

-- so many decimal digits of a number, the highest first
unfoldable pub digits : ℕ → ℕ → List ℕ
digits zero n = []
digits (suc width) n = digits width (n / 10) ++ (48 + n % 10) ∷ []

-- the text has the digits of the number, and no more than they can say
pub record IsNumber (text : List ℕ) (n : ℕ) : Type 0 where
  pub fits : n < 10 ^ length text
  pub text_is : text ≡ digits (length text) n

-- a text reads as the number whose digits it has, if there is one
abbrev pub ReadsNumber : List ℕ → Option ℕ → Type 0
ReadsNumber text (Some n) = IsNumber text n
ReadsNumber text None = (n : ℕ) → IsNumber text n → ⊥
