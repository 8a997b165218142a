use Rattle.std.specs.Prelude.{⊤, ◌≡◌, ℕ, List, [], ◌∷◌, ◌++◌, Option, Some, None, All, Contains, if◌then◌else◌, nat_eq}
use Rattle.std.specs.Cmp.Lexicographic.{pointwise}
use Rattle.zr_names.specs.declared.unit.Unit.{Unit}
use Rattle.zr_names.specs.declared.unit.Work.{Work}
use Rattle.zr_names.specs.declared.unit.Work.TheVariants as work
use Rattle.zr_command.specs.declared.command.Answer.{Answer}
use Rattle.zr_command.specs.declared.command.Answer.TheVariants as answer
use Rattle.zr_command.specs.declared.command.Cmd.{Cmd}
use Rattle.zr_command.specs.declared.command.Cmd.TheVariants as cmd
use Rattle.zr_command.specs.declared.command.Reply.TheVariants as reply
use Rattle.zr_command.specs.declared.version.VersionRow.{VersionRow}
use Rattle.zr_jobset.specs.Sets.{Jobs}
use Rattle.zr_jobset.specs.Units.{name_of, pair_of, rules_of}
use Rattle.zr_permit.specs.Keep.{doomed}
use Rattle.zr_jobs.specs.declared.pair.Pair.{Pair}
use Rattle.zr_known.specs.Known.{known_of}
use Rattle.zr_known.specs.Replication.{MayGive}

-- one command of a unit, and how it was answered
abbrev pub Turn : Type 0
Turn = Cmd × Answer

-- what a unit asked and was told, in order
abbrev pub Transcript : Type 0
Transcript = List Turn

-- the rows that a turn listed of a dataset
abbrev pub rows_told : List ℕ → Cmd → Answer → Option (List VersionRow)
rows_told path (cmd.Versions other) (answer.Done (reply.Versions rows)) =
    if pointwise nat_eq other path then Some rows else None
rows_told path command given = None

-- the later of two listings, where it was taken
abbrev pub later_of : Option (List VersionRow) → Option (List VersionRow) → Option (List VersionRow)
later_of earlier None = earlier
later_of earlier (Some rows) = Some rows

-- the rows of a unit's last listing of a dataset's versions
abbrev pub listed : List ℕ → Transcript → Option (List VersionRow)
listed path [] = None
listed path (turn ∷ turns) = later_of (rows_told path turn.0 turn.1) (listed path turns)

-- the dataset whose versions a unit may always list
abbrev pub own_path : Work → Option (List ℕ)
own_path work.Scan = None
own_path work.Parents = None
own_path (work.Snap path prefix) = Some path
own_path (work.Replicate path) = Some path
own_path (work.PruneSource path) = Some path
own_path (work.PruneTarget path) = None

-- a unit goes on after a turn that was done; a prune unit also after a destroy that failed
abbrev pub GoesOn : Work → Cmd → Answer → Type 0
GoesOn unit_work command (answer.Done given) = ⊤
GoesOn (work.PruneSource path) (cmd.DestroySnaps other names) answer.Failed = ⊤
GoesOn (work.PruneTarget path) (cmd.DestroySnaps other names) answer.Failed = ⊤
GoesOn unit_work command given = ⊥

-- the command destroys the snapshot of this name of the dataset at this path
abbrev pub Destroys : List ℕ → List ℕ → Cmd → Type 0
Destroys path name (cmd.DestroySnaps other names) = (other ≡ path) × Contains names name
Destroys path name command = ⊥

-- no snapshot is given for destruction twice
abbrev pub IsNew : Transcript → Cmd → Type 0
IsNew past (cmd.DestroySnaps path names) = All (λ name. All (λ turn. Destroys path name turn.0 → ⊥) past) names
IsNew past command = ⊤

-- the snapshots that a unit's own listing dooms
abbrev pub doomed_in : Jobs → ℕ → Option (List VersionRow) → List (List ℕ)
doomed_in jobs number None = []
doomed_in jobs number (Some rows) = doomed (name_of jobs number) (rules_of jobs number) rows

-- what a replication unit may give after its turns: a line a command, by what they told it
abbrev pub Replicates : Option Pair → Transcript → Cmd → Type 0
Replicates None past command = ⊥
Replicates (Some pair) past command = MayGive pair (known_of pair past) command

-- when a unit may give a command, beside what its answers allow: the datasets may be listed by any unit,
-- the versions of the unit's own dataset by that unit, and snapshots are destroyed by a prune unit of their
-- dataset alone, where the unit's own listing shows each with no holds and no rule keeps it; a replication unit
-- may give what `Replicates` says, and nothing else is given
abbrev pub Permits : Jobs → ℕ → Work → Transcript → Cmd → Type 0
Permits jobs number (work.Replicate source) past command =
    Replicates (pair_of jobs number source) past command
Permits jobs number unit_work past cmd.Sets = ⊤
Permits jobs number unit_work past (cmd.Versions path) = own_path unit_work ≡ Some path
Permits jobs number (work.PruneSource own) past (cmd.DestroySnaps path names) =
    (path ≡ own) × All (Contains (doomed_in jobs number (listed own past))) names
Permits jobs number unit_work past command = ⊥

-- the permission rule: a unit may give a command after a transcript
pub record Allowed (jobs : Jobs) (unit : Unit) (past : Transcript) (command : Cmd) : Type 0 where
  pub goes_on : All (λ turn. GoesOn unit.work turn.0 turn.1) past
  pub is_new : IsNew past command
  pub permits : Permits jobs unit.job unit.work past command

-- each of some turns was allowed after those before it
abbrev pub LegalAfter : Jobs → Unit → Transcript → Transcript → Type 0
LegalAfter jobs unit past [] = ⊤
LegalAfter jobs unit past (turn ∷ turns) =
    Allowed jobs unit past turn.0 × LegalAfter jobs unit (past ++ turn ∷ []) turns

-- a legal transcript
abbrev pub Legal : Jobs → Unit → Transcript → Type 0
Legal jobs unit turns = LegalAfter jobs unit [] turns
