-- Rules as a job file spells them, and why they were not compiled.
use Rattle.std.specs.Prelude.{⊤, ◌≡◌, ℕ, true, List, take, slice_get, All, Option, Some, None, IfSome}
use Rattle.std.specs.Option.{option_and_then}
use Rattle.zr_base.specs.Count.{Rose}
use Rattle.zr_grid.specs.Grid.{IsGrid}
use Rattle.zr_rules.specs.declared.rule.RuleSpec.{RuleSpec}
use Rattle.zr_rules.specs.declared.rule.RuleSpec.TheVariants.{Grid, LastN, NotReplicated, Regex}
use Rattle.zr_rules.specs.declared.patterns.BuildFault.{BuildFault}
use Rattle.zr_rules.specs.declared.patterns.BuildFault.TheVariants as build
use Rattle.zr_rules.specs.declared.compiling.RuleFault.{RuleFault}
use Rattle.zr_rules.specs.declared.compiling.RuleFault.TheVariants.{BadRegex, NoMemory}
use Rattle.zr_rules.specs.Matching.{is_readable}

-- the text of a rule's pattern, if it has one
abbrev pub pattern_in : RuleSpec → Option (List ℕ)
pattern_in (Grid spec pattern) = pattern
pattern_in (LastN count pattern) = pattern
pattern_in (NotReplicated at_cursor) = None
pattern_in (Regex pattern negate) = Some pattern

-- the grid of a rule, if it has one, is one that `read_grid` can give
abbrev pub HasGrid : RuleSpec → Type 0
HasGrid (Grid spec pattern) = IsGrid spec.intervals
HasGrid (LastN count pattern) = ⊤
HasGrid (NotReplicated at_cursor) = ⊤
HasGrid (Regex pattern negate) = ⊤

-- the text of a rule's pattern, if it has one, is a pattern
abbrev pub IsReadable : RuleSpec → Type 0
IsReadable spec = IfSome (pattern_in spec) (λ text. is_readable text ≡ true)

-- A builder with this count of refusals and this text refused last has then those. A pattern that was refused is
-- counted and told; where memory was refused both are as before.
abbrev pub BuildCause : Option (List ℕ) → ℕ → Option (List ℕ) → ℕ → Option (List ℕ) → BuildFault → Type 0
BuildCause pattern count last count' last' build.Refused = Rose count count' × ((text : List ℕ) × (pattern ≡ Some text) × (last' ≡ Some text))
BuildCause pattern count last count' last' build.NoMemory = (count' ≡ count) × (last' ≡ last)

-- the rule at this place has a pattern, which was refused, and each rule before it has none or one that is a pattern
pub record IsFirstRefused (specs : List RuleSpec) (place count count' : ℕ) (last' : Option (List ℕ)) : Type 0 where
  pub text : List ℕ
  pub pattern : option_and_then pattern_in (slice_get specs place) ≡ Some text
  pub rose : Rose count count'
  pub told : last' ≡ Some text
  pub before : All IsReadable (take place specs)

-- why rules were not compiled
abbrev pub RuleCause : List RuleSpec → ℕ → Option (List ℕ) → ℕ → Option (List ℕ) → RuleFault → Type 0
RuleCause specs count last count' last' (BadRegex place) = IsFirstRefused specs place count count' last'
RuleCause specs count last count' last' NoMemory = (count' ≡ count) × (last' ≡ last)
