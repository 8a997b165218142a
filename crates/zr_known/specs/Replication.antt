use Rattle.std.specs.Prelude.{⊤, ◌≡◌, ◌≢◌, ◌⊎◌, ℕ, Bool, true, false, List, [], ◌∷◌, ◌++◌, Option, Some, None, Contains, filter, is_none, option_map}
use Rattle.std.specs.List.{list_any}
use Rattle.std.specs.Option.{option_map_or}
use Rattle.zr_names.specs.Marks.{cursor_text}
use Rattle.zr_names.specs.declared.marks.TagKind.TheVariants.{Step, Last}
use Rattle.zr_names.specs.declared.policy.Initial.TheVariants.{MostRecent}
use Rattle.zr_command.specs.declared.command.Base.TheVariants as base
use Rattle.zr_command.specs.declared.command.Cmd.{Cmd}
use Rattle.zr_command.specs.declared.command.Cmd.TheVariants as cmd
use Rattle.zr_command.specs.declared.command.Transfer.{Transfer}
use Rattle.zr_command.specs.declared.version.VersionName.{VersionName}
use Rattle.zr_command.specs.declared.version.VersionName.TheVariants.{Snap, Mark}
use Rattle.zr_command.specs.declared.version.VersionRow.{VersionRow}
use Rattle.zr_command.specs.Names.{same_text}
use Rattle.zr_command.specs.Kinds.{is_cursor_of, is_snap, is_snap_of, is_tentative_of, newest}
use Rattle.zr_plan.specs.Plan.{plan_of}
use Rattle.zr_plan.specs.Sides.{Onto, rows_of_source}
use Rattle.zr_plan.specs.declared.target.Planned.{Planned}
use Rattle.zr_plan.specs.declared.target.Planned.TheVariants.{Steps}
use Rattle.zr_plan.specs.declared.target.Step.{Step as OneStep}
use Rattle.zr_known.specs.declared.known.Known.{Known}
use Rattle.zr_jobs.specs.declared.pair.Pair.{Pair}
use Rattle.zr_known.specs.declared.known.Presence.{Presence}
use Rattle.zr_known.specs.declared.known.Presence.TheVariants.{Unlisted, Absent, There}
use Rattle.zr_known.specs.declared.known.Receiving.{Receiving}
use Rattle.zr_known.specs.declared.known.Receiving.TheVariants.{Nothing}
use Rattle.zr_known.specs.Known.{is_among, is_row_of, rows_of, source_row, target_rows}

-- the target's newest snapshot, where its versions are known
abbrev pub newest_known : Known → Option VersionRow
newest_known known = newest (rows_of (target_rows known))

-- the target is known to have no snapshot
pub record HasNone (known : Known) : Type 0 where
  pub rows : List VersionRow
  pub are_known : target_rows known ≡ Some rows
  pub none : is_none (newest rows) ≡ true

-- the target's newest snapshot is this one, with its cursor on the source and its last-received hold known
pub record IsSettled (pair : Pair) (known : Known) (last : VersionRow) (name : List ℕ) : Type 0 where
  pub is_newest : newest_known known ≡ Some last
  pub named : last.name ≡ Snap name
  pub cursor : list_any (is_cursor_of pair.job last.guid) known.marks ≡ true
  pub held : is_among known.target.held name ≡ true

-- what a plan knows of the target, where it is known to be absent, or to be there with its versions
abbrev pub planned_onto : Presence → Option (List VersionRow) → Option Onto
planned_onto Unlisted rows = None
planned_onto Absent rows = Some (record { there = false; placeholder = false; rows = []; partial = None })
planned_onto (There flag) None = None
planned_onto (There flag) (Some rows) =
    Some (record { there = true; placeholder = flag; rows = rows; partial = None })

abbrev pub plan_between : Pair → Known → Option (List VersionRow) → Option Onto → Receiving → Option Planned
plan_between pair known (Some rows) (Some target) Nothing =
    Some (plan_of pair.job (rows_of_source rows known.marks) target MostRecent)
plan_between pair known rows target receiving = None

-- the plan over what is known: it stands where the source was listed, the target is known to be absent or is there with
-- its flag and versions known, and the partial receive is known
abbrev pub plan_known : Pair → Known → Option Planned
plan_known pair known =
    plan_between pair known known.source.listing (planned_onto known.presence (target_rows known)) known.receiving

abbrev pub is_there : Presence → Bool
is_there Unlisted = false
is_there Absent = false
is_there (There flag) = true

-- the transfer of a step: in full, forced onto a target that is there, or from the cursor of the target's newest snapshot
abbrev pub transfer_of_step : Pair → Known → OneStep → Bool → Option Transfer
transfer_of_step pair known step true =
    Some (record {
      source = pair.source;
      to = step.to;
      guid = step.guid;
      base = base.Full;
      target = pair.target;
      force = is_there known.presence;
    })
transfer_of_step pair known step false =
    option_map (λ last. record {
      source = pair.source;
      to = step.to;
      guid = step.guid;
      base = base.From (cursor_text last.guid.0 pair.job) last.guid;
      target = pair.target;
      force = false;
    }) (newest_known known)

abbrev pub transfer_of_plan : Pair → Known → Option Planned → Option Transfer
transfer_of_plan pair known (Some (Steps (step ∷ steps))) = transfer_of_step pair known step step.full
transfer_of_plan pair known other = None

-- the one transfer that may come next: the first step of the plan
abbrev pub next_transfer : Pair → Known → Option Transfer
next_transfer pair known = transfer_of_plan pair known (plan_known pair known)

-- the last listing of the datasets shows this one
abbrev pub ShowsSet : Known → List ℕ → Type 0
ShowsSet known path =
    option_map_or (λ sets. list_any (λ row. same_text row.path path) sets) known.sets false ≡ true

-- a snapshot stands in a listing, if it was taken
pub record IsListed (listing : Option (List VersionRow)) (name : List ℕ) (row : VersionRow) : Type 0 where
  pub rows : List VersionRow
  pub are_listed : listing ≡ Some rows
  pub among : Contains rows row
  pub named : row.name ≡ Snap name

-- a job's hold may be put on a snapshot whose holds are known: it was listed with none, or they were listed
abbrev pub HoldsKnown : VersionRow → List (List ℕ) → List ℕ → Type 0
HoldsKnown row asked name = (row.refs ≡ 0) ⊎ (is_among asked name ≡ true)

-- the step hold: on a listed source snapshot whose holds are known, where it is not there
pub record MayHoldStep (known : Known) (name : List ℕ) : Type 0 where
  pub row : VersionRow
  pub listed : IsListed known.source.listing name row
  pub holds : HoldsKnown row known.source.asked name
  pub free : is_among known.source.held name ≡ false

-- the cursor: of the target's newest snapshot, made from a listed source snapshot with its guid or from the job's
-- tentative cursor of it, where it is not there
pub record MayMark (pair : Pair) (known : Known) (version : VersionName) (name : List ℕ) : Type 0 where
  pub last : VersionRow
  pub is_newest : newest_known known ≡ Some last
  pub named : name ≡ cursor_text last.guid.0 pair.job
  pub row : VersionRow
  pub found : source_row version known ≡ Some row
  pub of_guid : (is_snap_of last.guid row ≡ true) ⊎ (is_tentative_of pair.job last.guid row ≡ true)
  pub new : list_any (is_row_of (Mark name)) known.marks ≡ false

-- the last-received hold: on the target's newest snapshot, once its cursor is there, where its holds are known and this
-- one is not among them
pub record MayHoldLast (pair : Pair) (known : Known) (name : List ℕ) : Type 0 where
  pub last : VersionRow
  pub is_newest : newest_known known ≡ Some last
  pub named : last.name ≡ Snap name
  pub cursor : list_any (is_cursor_of pair.job last.guid) known.marks ≡ true
  pub holds : HoldsKnown last known.target.asked name
  pub free : is_among known.target.held name ≡ false

-- its release: on another snapshot than the newest, once the newest has it
pub record MayReleaseLast (known : Known) (name : List ℕ) : Type 0 where
  pub held : is_among known.target.held name ≡ true
  pub last : VersionRow
  pub last_name : List ℕ
  pub is_newest : newest_known known ≡ Some last
  pub named : last.name ≡ Snap last_name
  pub other : name ≢ last_name
  pub moved : is_among known.target.held last_name ≡ true

-- cleaning up: no partial receive needs anything; and the target has no snapshot, where the last listing of the datasets
-- shows the job's root (a pool that is not imported looks as if nothing were there), or its newest snapshot has its
-- cursor, which is not what goes, and its last-received hold
pub record MayClear (pair : Pair) (known : Known) (goes : Option (List ℕ)) : Type 0 where
  pub no_partial : known.receiving ≡ Nothing
  pub settled :
      (HasNone known × ShowsSet known pair.root)
      ⊎ ((last : VersionRow) × (name : List ℕ) × IsSettled pair known last name
      × (goes ≢ Some (cursor_text last.guid.0 pair.job)))

-- the destruction of one of the job's own marks on the source
pub record MayDestroyMark (pair : Pair) (known : Known) (name : List ℕ) : Type 0 where
  pub is_known : list_any (is_row_of (Mark name)) known.marks ≡ true
  pub clear : MayClear pair known (Some name)

-- the release of a step hold on the source
pub record MayReleaseStep (pair : Pair) (known : Known) (name : List ℕ) : Type 0 where
  pub held : is_among known.source.held name ≡ true
  pub clear : MayClear pair known None

-- the target has nothing to settle: it has no snapshot, or its newest one has its cursor and its last-received hold
abbrev pub NewestIsSafe : Pair → Known → Type 0
NewestIsSafe pair known =
    (newest_known known ≡ None) ⊎ ((last : VersionRow) × (name : List ℕ) × IsSettled pair known last name)

-- the transfer: the first step of the plan, of a snapshot with the job's step hold, onto a target whose newest snapshot
-- is safe
pub record MayTransfer (pair : Pair) (known : Known) (transfer : Transfer) : Type 0 where
  pub next : next_transfer pair known ≡ Some transfer
  pub held : is_among known.source.held transfer.to ≡ true
  pub safe : NewestIsSafe pair known

-- a listing shows a snapshot
abbrev pub Shows : Option (List VersionRow) → List ℕ → Type 0
Shows listing name = option_map_or (λ rows. list_any (is_row_of (Snap name)) rows) listing false ≡ true

-- the command is the job's
abbrev pub IsOf : Pair → List ℕ → List ℕ → List ℕ → Type 0
IsOf pair job path at = (job ≡ pair.job) × (path ≡ at)

-- what a replication unit may give, by what it knows: a line a command
abbrev pub MayGive : Pair → Known → Cmd → Type 0
MayGive pair known cmd.Sets = ⊤
MayGive pair known (cmd.Versions path) = (path ≡ pair.source) ⊎ ((path ≡ pair.target) × ShowsSet known pair.target)
MayGive pair known (cmd.Holds path name) =
    ((path ≡ pair.source) × Shows known.source.listing name)
    ⊎ ((path ≡ pair.target) × Shows known.target.listing name)
MayGive pair known (cmd.Hold Step job path name) = IsOf pair job path pair.source × MayHoldStep known name
MayGive pair known (cmd.Hold Last job path name) = IsOf pair job path pair.target × MayHoldLast pair known name
MayGive pair known (cmd.Release Step job path name) = IsOf pair job path pair.source × MayReleaseStep pair known name
MayGive pair known (cmd.Release Last job path name) = IsOf pair job path pair.target × MayReleaseLast known name
MayGive pair known (cmd.Bookmark path version name) = (path ≡ pair.source) × MayMark pair known version name
MayGive pair known (cmd.DestroyMark path name) = (path ≡ pair.source) × MayDestroyMark pair known name
MayGive pair known (cmd.Transfer transfer) = MayTransfer pair known transfer
MayGive pair known (cmd.DestroySnaps path names) = ⊥
MayGive pair known (cmd.Token token) = ⊥
MayGive pair known (cmd.Snapshot path name) = ⊥
MayGive pair known (cmd.Create path) = ⊥
MayGive pair known (cmd.Abort path) = ⊥
