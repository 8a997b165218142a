use Rattle.std.specs.Prelude.{ℕ, zero, suc, ◌+◌, ◌-◌, ◌*◌, ◌/◌, ◌%◌, List, [], ◌∷◌, ◌++◌, if◌then◌else◌, nat_lt, fold}

-- a lower-case hexadecimal digit
abbrev pub hex_digit : ℕ → ℕ
hex_digit n = if nat_lt n 10 then 48 + n else (87 + n)

-- so many hexadecimal digits of a number, the highest first
unfoldable pub hex_text : ℕ → ℕ → List ℕ
hex_text zero n = []
hex_text (suc digits) n = hex_text digits (n / 16) ++ hex_digit (n % 16) ∷ []

-- the value of a hexadecimal digit
abbrev pub digit_number : ℕ → ℕ
digit_number b = if nat_lt b 58 then b - 48 else (b - 87)

-- the number that hexadecimal digits write
unfoldable pub hex_number : List ℕ → ℕ
hex_number digits = fold (λ before b. before * 16 + digit_number b) 0 digits
