use Rattle.std.specs.Prelude.{ℕ, Bool, List}
use Rattle.zr_names.specs.declared.reading.Alphabet.{Alphabet}
use Rattle.zr_names.specs.declared.reading.Alphabet.TheVariants.{Path, Name, Tag, Token}
use Rattle.zr_names.specs.Names.{path_is_bad, name_is_bad, tag_is_bad, token_is_bad}

-- the rule that an alphabet stands for
abbrev pub is_bad_in : Alphabet → List ℕ → ℕ → Bool
is_bad_in Path = path_is_bad
is_bad_in Name = name_is_bad
is_bad_in Tag = tag_is_bad
is_bad_in Token = token_is_bad
