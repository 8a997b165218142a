-- Which snapshots are kept, the field `pruning` (zrepl's documentation, "Pruning Policies").
use Rattle.std.specs.Prelude.{◌≡◌, List, [], ◌∷◌}
use Rattle.zr_names.specs.Tree.{Members}
use Rattle.zr_rules.specs.declared.rule.RuleSpec.{RuleSpec}
use Rattle.zr_jobwalk.specs.declared.fault.JobFault.{JobFault}
use Rattle.zr_jobwalk.specs.declared.field.Field.{Field}
use Rattle.zr_jobwalk.specs.declared.field.Field.TheVariants as field
use Rattle.zr_jobwalk.specs.Faults.{MustBe, Only}
use Rattle.zr_jobwalk.specs.Fields.{strangers, value_of}
use Rattle.zr_jobwalk.specs.Tables.{Section}
use Rattle.zr_jobwalk.specs.Values.{Has}
use Rattle.zr_jobrules.specs.declared.pruning.Pruning.{Pruning}
use Rattle.zr_jobrules.specs.Patterns.{Asked}
use Rattle.zr_jobrules.specs.Rules.{AreRules, RulesFault}

-- of a push or pull job: the rules of both sides
abbrev pub pruning_fields : List Field
pruning_fields = field.KeepSender ∷ field.KeepReceiver ∷ []

pub record IsPruning (members : Members) (pruning : Pruning) : Type 0 where
  pub only : strangers pruning_fields members ≡ []
  pub sender : Has AreRules (value_of members field.KeepSender) pruning.sender
  pub receiver : Has AreRules (value_of members field.KeepReceiver) pruning.receiver

abbrev pub PruningFault : Asked → Section → JobFault → Type 0
PruningFault asked table fault =
    Only pruning_fields table fault
    (MustBe AreRules (RulesFault asked) field.KeepSender table fault
    (MustBe AreRules (RulesFault asked) field.KeepReceiver table fault ⊥))

-- of a snap job: the rules
abbrev pub keep_fields : List Field
keep_fields = field.Keep ∷ []

pub record IsKeep (members : Members) (rules : List RuleSpec) : Type 0 where
  pub only : strangers keep_fields members ≡ []
  pub keep : Has AreRules (value_of members field.Keep) rules

abbrev pub KeepFault : Asked → Section → JobFault → Type 0
KeepFault asked table fault =
    Only keep_fields table fault (MustBe AreRules (RulesFault asked) field.Keep table fault ⊥)
