-- The lines of a text.
use Rattle.std.specs.Prelude.{ℕ, suc, Bool, true, false, ◌-◌, ◌==◌, if◌then◌else◌, List, [], ◌∷◌, length, take, codes, Option, Some, None}
use Rattle.std.specs.Str.{bytes_eq}
use Rattle.std.specs.Str.Lossy.{utf8_valid_len}
use Rattle.zr_yaml.specs.Scalar.{ends_with}
use Rattle.zr_yaml.specs.Symbols.{Read, line_symbols, with_symbols}

-- a byte before the first of the lines
abbrev pub on_first : ℕ → List (List ℕ) → List (List ℕ)
on_first b [] = (b ∷ []) ∷ []
on_first b (line ∷ others) = (b ∷ line) ∷ others

-- the lines of a text: each ends with a newline or with the text
abbrev pub lines_of : List ℕ → List (List ℕ)
lines_of [] = []
lines_of (b ∷ bs) = if b == 10 then [] ∷ lines_of bs else on_first b (lines_of bs)

-- how long the first line is
abbrev pub first_length : List ℕ → ℕ
first_length [] = 0
first_length (b ∷ bs) = if b == 10 then 0 else suc (first_length bs)

-- a line without a carriage return at its end
abbrev pub without_return : List ℕ → List ℕ
without_return line = if ends_with 13 line then take (length line - 1) line else line

-- a first line `---` says nothing
abbrev pub heading : List ℕ → List ℕ
heading line = if bytes_eq line (codes "---") then [] else line

abbrev pub content_from : Bool → List ℕ → List ℕ
content_from true line = heading (without_return line)
content_from false line = without_return line

-- what the lines of a text have in them; first: the first of them is the text's first line
abbrev pub contents_from : Bool → List (List ℕ) → List (List ℕ)
contents_from first [] = []
contents_from first (line ∷ others) = content_from first line ∷ contents_from false others

abbrev pub contents : List (List ℕ) → List (List ℕ)
contents lines = contents_from true lines

-- a line is UTF-8
abbrev pub is_text : List ℕ → Bool
is_text line = utf8_valid_len line == length line

-- what comes after a line
abbrev pub after_line : (ℕ → Option Read) → Option Read → Option Read
after_line go None = None
after_line go (Some x) = with_symbols x.0 (go x.1)

-- what lines say, where so many brackets are open before them, and how many are open behind them
abbrev pub lines_symbols : ℕ → List (List ℕ) → Option Read
lines_symbols unclosed [] = Some ([], unclosed)
lines_symbols unclosed (line ∷ others) =
    if is_text line then after_line (λ o. lines_symbols o others) (line_symbols unclosed line) else None
