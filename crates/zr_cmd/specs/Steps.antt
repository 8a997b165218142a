use Rattle.std.specs.Prelude.{◌≡◌, ◌-◌, ◌<◌, ◌≤◌, ℕ, List, ◌∷◌, Option, Some, None, flat_map, length, map, slice_index_or, String}
use Rattle.std.specs.String.{string_bytes}
use Rattle.zr_cmd.specs.Forms.{Suits, Pattern, a_path, names_in, word_at}
use Rattle.zr_cmd.specs.Words.{IsGroup, IsVersion}

-- the bytes of words
abbrev pub texts : {Z : Type 0} → List (String Z) → List (List ℕ)
texts words = map string_bytes words

-- texts, each behind a comma
abbrev pub with_commas : List (List ℕ) → List ℕ
with_commas texts = flat_map (λ text. 44 ∷ text) texts

-- the text is that of the names of a group, or of none
abbrev pub ReadsGroup : List ℕ → Option (List (List ℕ)) → Type 0
ReadsGroup text (Some names) = (names ≡ names_in text) × IsGroup names
ReadsGroup text None = IsGroup (names_in text) → ⊥

-- the word at this place is as the pattern there has it
abbrev pub SuitsAt : List Pattern → List (List ℕ) → ℕ → Type 0
SuitsAt patterns words place =
    Suits (slice_index_or patterns place a_path) (word_at words (place - 1)) (word_at words place)

-- so many words at the front are as the patterns have them, and no more
pub record IsFront (patterns : List Pattern) (words : List (List ℕ)) (count : ℕ) : Type 0 where
  pub in_words : count ≤ length words
  pub in_patterns : count ≤ length patterns
  pub fits : (place : ℕ) → place < count → SuitsAt patterns words place
  pub other : count < length words → count < length patterns → SuitsAt patterns words count → ⊥
