-- The rules by which snapshots are kept (zrepl's documentation, "Pruning Policies").
use Rattle.std.specs.Prelude.{◌≡◌, ◌⊎◌, ℕ, Bool, true, false, List, [], ◌∷◌, Option, None, codes}
use Rattle.zr_names.specs.Tree.{Tree, Members}
use Rattle.zr_grid.specs.Grammar.{Grid}
use Rattle.zr_grid.specs.Grid.{IsGrid}
use Rattle.zr_grid.specs.declared.grid.GridSpec.{GridSpec}
use Rattle.zr_rules.specs.declared.rule.RuleSpec.{RuleSpec}
use Rattle.zr_rules.specs.declared.rule.RuleSpec.TheVariants as spec
use Rattle.zr_jobwalk.specs.declared.fault.JobFault.{JobFault}
use Rattle.zr_jobwalk.specs.declared.fault.Many.TheVariants as many
use Rattle.zr_jobwalk.specs.declared.field.Field.{Field}
use Rattle.zr_jobwalk.specs.declared.field.Field.TheVariants as field
use Rattle.zr_jobwalk.specs.Arrays.{InArray, IsArray}
use Rattle.zr_jobwalk.specs.Faults.{HasFault, InTable, IsBad, May, MayBe, Must, MustBe, Only, field_of}
use Rattle.zr_jobwalk.specs.Fields.{strangers, value_of}
use Rattle.zr_jobwalk.specs.Tables.{Section}
use Rattle.zr_jobwalk.specs.Values.{Has, HasOr, IsFlag, IsNumber, IsTable, IsText}
use Rattle.zr_jobrules.specs.declared.rule.RuleType.{RuleType}
use Rattle.zr_jobrules.specs.declared.rule.RuleType.TheVariants as kinds
use Rattle.zr_jobrules.specs.declared.rule.TheConstants.{MAX_COUNT}
use Rattle.zr_jobrules.specs.declared.rules.TheConstants.{MAX_RULES}
use Rattle.zr_jobrules.specs.Patterns.{Asked, IsPattern, IsSomePattern, PatternFault}

-- the types of rules
abbrev pub IsRuleType : List ℕ → RuleType → Type 0
IsRuleType text kinds.Grid = text ≡ codes "grid"
IsRuleType text kinds.LastN = text ≡ codes "last_n"
IsRuleType text kinds.NotReplicated = text ≡ codes "not_replicated"
IsRuleType text kinds.Regex = text ≡ codes "regex"

abbrev pub fields_of : RuleType → List Field
fields_of kinds.Grid = field.Type ∷ field.Grid ∷ field.Regex ∷ []
fields_of kinds.LastN = field.Type ∷ field.Count ∷ field.Regex ∷ []
fields_of kinds.NotReplicated = field.Type ∷ field.KeepSnapshotAtCursor ∷ []
fields_of kinds.Regex = field.Type ∷ field.Regex ∷ field.Negate ∷ []

-- the text of a grid, with no number above its limit
abbrev pub SpellsGrid : List ℕ → GridSpec → Type 0
SpellsGrid text grid = Grid grid.intervals text × IsGrid grid.intervals

-- `grid`: a grid, for the snapshots whose names match
pub record IsGridRule (members : Members) (rule : RuleSpec) : Type 0 where
  pub grid : GridSpec
  pub pattern : Option (List ℕ)
  pub spelled : Has (IsText SpellsGrid) (value_of members field.Grid) grid
  pub matching : HasOr None (IsText IsSomePattern) (value_of members field.Regex) pattern
  pub is : rule ≡ spec.Grid grid pattern

abbrev pub GridFault : Asked → Section → JobFault → Type 0
GridFault asked table fault =
    Must (IsText SpellsGrid) field.Grid table fault
    (MayBe None (IsText IsSomePattern) (PatternFault asked) field.Regex table fault ⊥)

-- `last_n`: how many, of the snapshots whose names match
pub record IsLastRule (members : Members) (rule : RuleSpec) : Type 0 where
  pub count : ℕ
  pub pattern : Option (List ℕ)
  pub counted : Has (IsNumber 1 MAX_COUNT) (value_of members field.Count) count
  pub matching : HasOr None (IsText IsSomePattern) (value_of members field.Regex) pattern
  pub is : rule ≡ spec.LastN count pattern

abbrev pub LastFault : Asked → Section → JobFault → Type 0
LastFault asked table fault =
    Must (IsNumber 1 MAX_COUNT) field.Count table fault
    (MayBe None (IsText IsSomePattern) (PatternFault asked) field.Regex table fault ⊥)

-- `not_replicated`: with the snapshot at the cursor, unless that is false
pub record IsNotReplicated (members : Members) (rule : RuleSpec) : Type 0 where
  pub at_cursor : Bool
  pub keeps : HasOr true IsFlag (value_of members field.KeepSnapshotAtCursor) at_cursor
  pub is : rule ≡ spec.NotReplicated at_cursor

abbrev pub NotReplicatedFault : Section → JobFault → Type 0
NotReplicatedFault table fault = May true IsFlag field.KeepSnapshotAtCursor table fault ⊥

-- `regex`: the snapshots whose names match, or with `negate` the others
pub record IsRegexRule (members : Members) (rule : RuleSpec) : Type 0 where
  pub pattern : List ℕ
  pub negate : Bool
  pub matching : Has (IsText IsPattern) (value_of members field.Regex) pattern
  pub negated : HasOr false IsFlag (value_of members field.Negate) negate
  pub is : rule ≡ spec.Regex pattern negate

abbrev pub RegexFault : Asked → Section → JobFault → Type 0
RegexFault asked table fault =
    MustBe (IsText IsPattern) (PatternFault asked) field.Regex table fault
    (May false IsFlag field.Negate table fault ⊥)

-- a rule: its type, and the fields of that type and no others
abbrev pub IsRuleOf : RuleType → Members → RuleSpec → Type 0
IsRuleOf kinds.Grid members rule = IsGridRule members rule
IsRuleOf kinds.LastN members rule = IsLastRule members rule
IsRuleOf kinds.NotReplicated members rule = IsNotReplicated members rule
IsRuleOf kinds.Regex members rule = IsRegexRule members rule

pub record IsRule (members : Members) (rule : RuleSpec) : Type 0 where
  pub kind : RuleType
  pub typed : Has (IsText IsRuleType) (value_of members field.Type) kind
  pub only : strangers (fields_of kind) members ≡ []
  pub keeps : IsRuleOf kind members rule

abbrev pub RuleFaultOf : Asked → RuleType → Section → JobFault → Type 0
RuleFaultOf asked kinds.Grid table fault = GridFault asked table fault
RuleFaultOf asked kinds.LastN table fault = LastFault asked table fault
RuleFaultOf asked kinds.NotReplicated table fault = NotReplicatedFault table fault
RuleFaultOf asked kinds.Regex table fault = RegexFault asked table fault

-- the type comes first, then what is none of its fields, and then those
abbrev pub RuleFault : Asked → Section → JobFault → Type 0
RuleFault asked table fault =
    HasFault (IsBad (IsText IsRuleType)) table field.Type fault
    ⊎ ((kind : RuleType) × Has (IsText IsRuleType) (field_of table field.Type) kind
    × Only (fields_of kind) table fault (RuleFaultOf asked kind table fault))

-- the rules of a side: an array of at most 64
abbrev pub AreRules : Tree → List RuleSpec → Type 0
AreRules tree rules = IsArray MAX_RULES (IsTable IsRule) tree rules

abbrev pub RulesFault : Asked → List ℕ → Tree → JobFault → Type 0
RulesFault asked name tree fault =
    InArray many.Rules MAX_RULES (IsTable IsRule) (InTable (RuleFault asked)) name tree fault
