-- Scalars: plain ones, and those in quotes.
use Rattle.std.specs.Prelude.{ℕ, suc, ◌+◌, ◌-◌, ◌*◌, Bool, true, false, not, ◌==◌, ◌&&◌, ◌||◌, nat_le, nat_lt, if◌then◌else◌, List, [], ◌∷◌, ◌++◌, length, take, drop, slice_index, codes, Option, Some, None}
use Rattle.std.specs.List.{list_all, list_any}
use Rattle.std.specs.Str.{bytes_eq}
use Rattle.zr_names.specs.Tree.{Tree, null, flag, number, text}
use Rattle.zr_yaml.specs.declared.scalar.Scalar.{Scalar}
use Rattle.zr_yaml.specs.Scan.{is_blank, ends_part}

-- ---- in quotes

-- the text so far, before what comes of the rest
abbrev pub with_front : List ℕ → Option (List ℕ × List ℕ) → Option (List ℕ × List ℕ)
with_front front None = None
with_front front (Some x) = Some (front ++ x.0, x.1)

-- what a letter behind a backslash stands for: a backslash, a quote, a newline, a tab
abbrev pub escape_of : ℕ → Option ℕ
escape_of b =
    if b == 92 then Some 92 else
    (if b == 34 then Some 34 else (if b == 110 then Some 10 else (if b == 116 then Some 9 else None)))

abbrev pub after_escape : Option ℕ → Option (List ℕ × List ℕ) → Option (List ℕ × List ℕ)
after_escape None rest = None
after_escape (Some b) rest = with_front (b ∷ []) rest

-- what stands before the closing double quote, and what comes after it; escaped: a backslash stands before the text
abbrev pub double_quoted : Bool → List ℕ → Option (List ℕ × List ℕ)
double_quoted escaped [] = None
double_quoted true (b ∷ bs) = after_escape (escape_of b) (double_quoted false bs)
double_quoted false (b ∷ bs) =
    if b == 34 then Some ([], bs)
    else (if b == 92 then double_quoted true bs else with_front (b ∷ []) (double_quoted false bs))

-- what stands before the closing single quote, and what comes after it; two quotes are one
abbrev pub single_quoted : List ℕ → Option (List ℕ × List ℕ)
single_quoted [] = None
single_quoted (b ∷ []) = if b == 39 then Some ([], []) else None
single_quoted (b ∷ c ∷ bs) =
    if b == 39
    then (if c == 39 then with_front (39 ∷ []) (single_quoted bs) else Some ([], c ∷ bs))
    else with_front (b ∷ []) (single_quoted (c ∷ bs))

-- ---- plain

-- what no plain scalar begins with: a space, and the marks - ? : , [ ] { } # & * ! | > ' " % @ `
abbrev pub is_mark : ℕ → Bool
is_mark b =
    is_blank b || (b == 45) || (b == 63) || (b == 58) || (b == 44) || (b == 91) || (b == 93) || (b == 123) ||
    (b == 125) || (b == 35)
    || (b == 38) || (b == 42) || (b == 33) || (b == 124) || (b == 62) || (b == 39) || (b == 34) || (b == 37) ||
    (b == 64) || (b == 96)

-- what no plain scalar in brackets has in it: , [ ] { }
abbrev pub is_bracket_mark : ℕ → Bool
is_bracket_mark b = (b == 44) || (b == 91) || (b == 93) || (b == 123) || (b == 125)

-- A plain scalar ends before this byte: at a `:` that ends a part, at a comment, and in brackets at a mark of theirs.
abbrev pub ends_plain : Bool → ℕ → ℕ → List ℕ → Bool
ends_plain in_brackets before b bs =
    (b == 58 && ends_part bs) || (b == 35 && is_blank before) || (in_brackets && is_bracket_mark b)

-- what is left where a plain scalar ends
abbrev pub after_plain : Bool → ℕ → List ℕ → List ℕ
after_plain in_brackets before [] = []
after_plain in_brackets before (b ∷ bs) =
    if ends_plain in_brackets before b bs then b ∷ bs else after_plain in_brackets b bs

-- a byte before the rest of a text without its blanks at the end, where a blank goes away too if nothing is left
abbrev pub before_trimmed : ℕ → List ℕ → List ℕ
before_trimmed b [] = if is_blank b then [] else b ∷ []
before_trimmed b (c ∷ cs) = b ∷ c ∷ cs

-- a text without the blanks at its end
abbrev pub trimmed : List ℕ → List ℕ
trimmed [] = []
trimmed (b ∷ bs) = before_trimmed b (trimmed bs)

-- how long a plain scalar is that begins with this byte: up to where it ends, without the blanks there
abbrev pub plain_length : Bool → ℕ → List ℕ → ℕ
plain_length in_brackets first bs =
    suc (length (trimmed (take (length bs - length (after_plain in_brackets first bs)) bs)))

-- whether the last byte is this one
abbrev pub ends_with : ℕ → List ℕ → Bool
ends_with c bytes = nat_lt 0 (length bytes) && slice_index bytes (length bytes - 1) == c

-- a plain scalar has no tab in it and no `:` at its end
abbrev pub is_plain : List ℕ → Bool
is_plain bytes = not (list_any (λ b. b == 9) bytes) && not (ends_with 58 bytes)

abbrev pub plain_found : ℕ → List ℕ → Option (Scalar × List ℕ)
plain_found size bytes =
    if is_plain (take size bytes) then Some (
      record { bytes = take size bytes; quoted = false },
      drop size bytes,
    ) else None

-- ---- either

abbrev pub quoted_found : Option (List ℕ × List ℕ) → Option (Scalar × List ℕ)
quoted_found None = None
quoted_found (Some x) = Some (record { bytes = x.0; quoted = true }, x.1)

-- the scalar at the front, and what comes after it
abbrev pub scalar_at : Bool → List ℕ → Option (Scalar × List ℕ)
scalar_at in_brackets [] = None
scalar_at in_brackets (b ∷ bs) =
    if b == 34 then quoted_found (double_quoted false bs)
    else (if b == 39 then quoted_found (single_quoted bs)
    else (if is_mark b then None else plain_found (plain_length in_brackets b bs) (b ∷ bs)))

-- ---- what a scalar stands for

abbrev pub is_digit : ℕ → Bool
is_digit b = nat_le 48 b && nat_le b 57

-- 1 to 18 digits
abbrev pub is_number : List ℕ → Bool
is_number bytes = nat_lt 0 (length bytes) && nat_le (length bytes) 18 && list_all is_digit bytes

-- the number that digits stand for, after those that make n
abbrev pub number_from : ℕ → List ℕ → ℕ
number_from n [] = n
number_from n (b ∷ bs) = number_from (n * 10 + (b - 48)) bs

-- a plain scalar: a flag, Null, a number, or else a text
abbrev pub plain_tree : List ℕ → Tree
plain_tree bytes =
    if bytes_eq bytes (codes "true") then flag true
    else (if bytes_eq bytes (codes "false") then flag false
    else (if bytes_eq bytes (codes "null") || bytes_eq bytes (codes "~") then null
    else (if is_number bytes then number (number_from 0 bytes) else text bytes)))

-- one in quotes is a text, whatever it says
abbrev pub scalar_tree : Scalar → Tree
scalar_tree s = if s.quoted then text s.bytes else plain_tree s.bytes
