-- A pattern that `regex` built matches as the pattern of its text.
use Rattle.std.proofs.Common.{◌≡◌, true, Option, Some, None, IsSomeAnd, is_some, refl, sym, ap, ◌∙◌, option_map}
use Rattle.std.specs.Prelude.{chars}
use Rattle.regex.specs.Patterns.{Re, default_config, Reads}
use Rattle.regex.specs.Strings.{regex_pattern, regex_source, regex_config, IsReadFromSource}
use Rattle.regex.specs.declared.string.regex.Regex.{Regex}
use Rattle.regex.proofs.OnLiterals.{IsReadAs, same_refl, is_match_as_written}
use Rattle.regex_syntax.specs.Brackets.{Nested}
use Rattle.regex_syntax.specs.Grammar.{Names, read}
use Rattle.regex_syntax.specs.Same.{SameTree}
use Rattle.zr_rules.specs.Matching.{pattern_of, is_readable, finds_some, FindsAs}

-- what was read is a pattern
value-read : (o : Option (Nested Re × Names)) (P : Nested Re × Names → Type 0) → IsSomeAnd o P →
    (re : Re) × (option_map (λ found. found.0.value) o ≡ Some re) × IsSomeAnd o (λ (found, _). SameTree found.value re)
value-read None P h = absurd h
value-read (Some found) P h = (found.0.value, refl, same_refl found.0.value)

read-pattern : (r : Regex) → regex_config r ≡ default_config → IsReadFromSource r →
    (re : Re) × (pattern_of (regex_source r) ≡ Some re) × IsReadAs default_config (regex_source r) re
unfolding Reads
read-pattern r options read_from = value-read (read default_config (chars (regex_source r))) _ (rw options at read_from)

pub finds-as : (r : Regex) → regex_config r ≡ default_config → IsReadFromSource r → FindsAs (regex_pattern r) (regex_source r)
finds-as r options read_from =
    let found = read-pattern r options read_from in
    λ name bytes. is_match_as_written r (regex_source r) found.0 refl options read_from found.2 name bytes 0
    ∙ sym (ap (finds_some name) found.1)

pub readable : (r : Regex) → regex_config r ≡ default_config → IsReadFromSource r → is_readable (regex_source r) ≡ true
readable r options read_from = ap is_some (read-pattern r options read_from).1
