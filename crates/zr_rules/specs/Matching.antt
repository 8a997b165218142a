-- Where the pattern of a text matches a name.
use Rattle.std.specs.Prelude.{◌≡◌, ℕ, ◌<◌, Bool, false, List, slice_index, Option, Some, None, is_some, chars}
use Rattle.std.specs.Option.{option_map}
use Rattle.regex.specs.Patterns.{Re, find_str, default_config}
use Rattle.regex_syntax.specs.Grammar.{read}

-- what the grammar of `regex` reads in a text, with the default options
abbrev pub pattern_of : List ℕ → Option Re
pattern_of text = option_map (λ found. found.0.value) (read default_config (chars text))

-- the text is a pattern
abbrev pub is_readable : List ℕ → Bool
is_readable text = is_some (pattern_of text)

-- the pattern, if there is one, matches somewhere in a name
abbrev pub finds_some : List ℕ → Option Re → Bool
finds_some name None = false
finds_some name (Some re) = is_some (find_str re name 0)

-- the pattern of the text matches somewhere in a name
abbrev pub finds : List ℕ → List ℕ → Bool
finds text name = finds_some name (pattern_of text)

-- a search for this pattern finds what the pattern of the text matches
abbrev pub FindsAs : Re → List ℕ → Type 0
FindsAs re text = (name : List ℕ) → ((k : ℕ) → slice_index name k < 256) → is_some (find_str re name 0) ≡ finds text name
