-- How a text is cut into words.
use Rattle.std.specs.Prelude.{ℕ, ◌+◌, Bool, ◌==◌, ◌||◌, false, true, if◌then◌else◌, List, [], ◌∷◌, length, Option, Some, None}
use Rattle.std.specs.List.{filter}

abbrev pub begun_with : ℕ → List (List ℕ) → List (List ℕ)
begun_with b [] = []
begun_with b (part ∷ parts) = (b ∷ part) ∷ parts

-- what stands before, between and behind the bytes that pass the test
abbrev pub parted : (ℕ → Bool) → List ℕ → List (List ℕ)
parted test [] = [] ∷ []
parted test (b ∷ text) = if test b then ([] ∷ parted test text) else begun_with b (parted test text)

-- a space or a tab
abbrev pub is_blank : ℕ → Bool
is_blank b = b == 32 || b == 9

abbrev pub is_comma : ℕ → Bool
is_comma b = b == 44

abbrev pub is_word : List ℕ → Bool
is_word [] = false
is_word (b ∷ text) = true

-- what stands between blanks, where it is not empty
abbrev pub words : List ℕ → List (List ℕ)
words text = filter is_word (parted is_blank text)

-- what comes after blanks
abbrev pub skip : List ℕ → List ℕ
skip [] = []
skip (b ∷ text) = if is_blank b then skip text else b ∷ text

-- the parts of what comes after a comma, if there is one
abbrev pub parts_after : Option (List ℕ) → List (List ℕ)
parts_after None = []
parts_after (Some text) = parted is_comma text

abbrev pub length_after : Option (List ℕ) → ℕ
length_after None = 0
length_after (Some text) = 1 + length text
