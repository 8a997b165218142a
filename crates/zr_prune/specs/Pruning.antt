use Rattle.std.specs.Prelude.{⊤, ◌≡◌, ◌≢◌, ℕ, List, [], ◌∷◌, Some, All, AllPairs, map, sum_by}
use Rattle.zr_names.specs.declared.outcome.Outcome.{Outcome}
use Rattle.zr_names.specs.declared.outcome.Outcome.TheVariants as outcome
use Rattle.zr_names.specs.declared.unit.Unit.{Unit}
use Rattle.zr_names.specs.declared.unit.Work.{Work}
use Rattle.zr_names.specs.declared.unit.Work.TheVariants as work
use Rattle.zr_command.specs.declared.command.Answer.TheVariants as answer
use Rattle.zr_command.specs.declared.command.Cmd.TheVariants as cmd
use Rattle.zr_command.specs.declared.command.Reply.TheVariants as reply
use Rattle.zr_command.specs.declared.version.VersionRow.{VersionRow}
use Rattle.zr_jobset.specs.Sets.{Jobs}
use Rattle.zr_jobset.specs.Units.{name_of, rules_of}
use Rattle.zr_permit.specs.Keep.{doomed}
use Rattle.zr_permit.specs.Result.{capped, failed_names}
use Rattle.zr_permit.specs.Sight.{Sight}
use Rattle.zr_permit.specs.Transcript.{doomed_in, GoesOn, listed, Transcript, Turn}
use Rattle.zr_prune.specs.Groups.{destroy_of, groups}

-- the work is to prune a source dataset
abbrev pub IsPruneSource : Work → Type 0
IsPruneSource (work.PruneSource path) = ⊤
IsPruneSource other = ⊥

-- the unit has listed its dataset and done nothing else
pub record IsListed (turns : Transcript) (path : List ℕ) : Type 0 where
  pub rows : List VersionRow
  pub turns_are : turns ≡ (cmd.Versions path, answer.Done (reply.Versions rows)) ∷ []

-- a prune unit at work: its dataset was listed, these snapshots are doomed by the listing, and these groups of
-- them were given for destruction, each by one destroy
pub record Pruning (jobs : Jobs) (unit : Unit) (path : List ℕ) (names : List (List ℕ))
    (given : List (List (List ℕ))) (turns : Transcript) : Type 0 where
  pub work_is : unit.work ≡ work.PruneSource path
  pub goes_on : All (λ turn. GoesOn unit.work turn.0 turn.1) turns
  pub rows : List VersionRow
  pub told : listed path turns ≡ Some rows
  pub names_are : names ≡ doomed (name_of jobs unit.job) (rules_of jobs unit.job) rows
  pub names_differ : AllPairs (λ a b. a ≢ b) names
  pub commands : map (λ (turn : Turn). turn.0) turns ≡ cmd.Versions path ∷ map (destroy_of path) given

-- the same, of what is seen of the unit
abbrev pub IsPruning : Sight → List ℕ → List (List ℕ) → List (List (List ℕ)) → Type 0
IsPruning now path names given = Pruning now.jobs now.unit path names given now.turns

-- the unit has listed its dataset once and given each group of doomed snapshots once for destruction, by destroys
-- of which those that failed name so many
pub record HasGivenAll (now : Sight) (busy : ℕ) : Type 0 where
  pub path : List ℕ
  pub names : List (List ℕ)
  pub pruning : IsPruning now path names (groups names)
  pub busy_are : busy ≡ capped (sum_by (λ (turn : Turn). failed_names turn.0 turn.1) now.turns)

-- so it ends where it has finished
abbrev pub IsPruned : Sight → Outcome → Type 0
IsPruned now (outcome.Pruned destroyed busy) = HasGivenAll now busy
IsPruned now other = ⊤

-- the commands of a prune that has finished: the listing of its dataset, and then a destroy of each group of the
-- snapshots that the listing dooms, in the order of the listing
abbrev pub DestroysInGroups : Sight → Outcome → Type 0
DestroysInGroups now (outcome.Pruned destroyed busy) =
    (path : List ℕ) → now.unit.work ≡ work.PruneSource path →
    map (λ (turn : Turn). turn.0) now.turns
    ≡ cmd.Versions path ∷ map (destroy_of path) (groups (doomed_in now.jobs now.unit.job (listed path now.turns)))
DestroysInGroups now other = ⊤
