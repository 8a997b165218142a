use Rattle.std.specs.Prelude.{◌≡◌, ◌<◌, ℕ, false, List, [], ◌∷◌, ◌++◌, All, Contains, length}
use Rattle.zr_names.specs.declared.unit.Unit.{Unit}
use Rattle.zr_names.specs.declared.unit.Work.{Work}
use Rattle.zr_names.specs.declared.unit.Work.TheVariants as work
use Rattle.zr_command.specs.declared.command.Answer.{Answer}
use Rattle.zr_command.specs.declared.command.Answer.TheVariants as answer
use Rattle.zr_command.specs.declared.command.Cmd.TheVariants as cmd
use Rattle.zr_command.specs.declared.command.Reply.TheVariants as reply
use Rattle.zr_command.specs.declared.version.VersionName.TheVariants.{Snap}
use Rattle.zr_command.specs.declared.version.VersionRow.{VersionRow}
use Rattle.zr_jobset.specs.Sets.{Jobs}
use Rattle.zr_rules.specs.declared.rule.RuleSpec.{RuleSpec}
use Rattle.zr_rules.specs.Keeps.{retained}
use Rattle.zr_jobset.specs.Units.{name_of, rules_of}
use Rattle.zr_permit.specs.Keep.{cursor_txg, rule_row, snaps_of}
use Rattle.zr_permit.specs.Transcript.{Transcript}

-- a listing shows a snapshot of this name that has no holds and that none of the rules of a job keeps; there is at
-- least one rule
pub record MayGo (job : List ℕ) (rules : List RuleSpec) (rows : List VersionRow) (name : List ℕ) : Type 0 where
  pub some_rule : 0 < length rules
  pub earlier : List VersionRow
  pub row : VersionRow
  pub later : List VersionRow
  pub listed : rows ≡ earlier ++ row ∷ later
  pub named : row.name ≡ Snap name
  pub no_holds : row.refs ≡ 0
  pub kept_by_none :
      retained rules (snaps_of rows) (cursor_txg job rows) (length (snaps_of earlier)) (rule_row row) ≡ false

-- a unit has listed a dataset before, and by that listing the snapshot of this name may be destroyed
pub record WasListed (job : List ℕ) (rules : List RuleSpec) (past : Transcript) (path name : List ℕ) : Type 0 where
  pub rows : List VersionRow
  pub told : Contains past (cmd.Versions path, answer.Done (reply.Versions rows))
  pub may_go : MayGo job rules rows name

-- the rules by which a unit may destroy snapshots, those of its side: a job has rules for its source, and a unit that prunes
-- something else, or nothing, has none
abbrev pub rules_by : Jobs → ℕ → Work → List RuleSpec
rules_by jobs number (work.PruneSource path) = rules_of jobs number
rules_by jobs number other = []

-- honest destruction: each snapshot that a unit gave for destruction stood in a listing of its dataset that
-- the unit had taken before, with no holds and kept by no rule of the unit's side
abbrev pub IsHonest : Jobs → Unit → Transcript → Type 0
IsHonest jobs unit turns =
    (past later : Transcript) (path : List ℕ) (names : List (List ℕ)) (given : Answer) →
    turns ≡ past ++ (cmd.DestroySnaps path names, given) ∷ later →
    All (WasListed (name_of jobs unit.job) (rules_by jobs unit.job unit.work) past path) names
