use Rattle.std.specs.Prelude.{◌==◌, ◌&&◌, ◌||◌, ℕ, Bool, true, false, not, if◌then◌else◌, List, [], ◌∷◌, Option, Some, None, find, filter, flat_map, is_none, is_some, nat_lt, option_to_list, reverse}
use Rattle.std.specs.List.{list_all}
use Rattle.std.specs.Option.{option_or}
use Rattle.zr_names.specs.declared.policy.Initial.{Initial}
use Rattle.zr_names.specs.declared.policy.Initial.TheVariants as initially
use Rattle.zr_names.specs.declared.unit.Guid.{Guid}
use Rattle.zr_command.specs.Kinds.{is_cursor_of, is_snap, is_snap_of, is_tentative_of, newest}
use Rattle.zr_command.specs.declared.version.VersionName.{VersionName}
use Rattle.zr_command.specs.declared.version.VersionName.TheVariants.{Snap, Mark}
use Rattle.zr_command.specs.declared.version.VersionRow.{VersionRow}
use Rattle.zr_plan.specs.declared.target.Conflict.{Conflict as TheConflict}
use Rattle.zr_plan.specs.declared.target.Conflict.TheVariants.{NoSenderSnapshots, NoCommon, Diverged, TargetInUse, InitialRefused}
use Rattle.zr_plan.specs.declared.target.Planned.{Planned}
use Rattle.zr_plan.specs.declared.target.Planned.TheVariants.{UpToDate, Steps, Resume, Abandon, Conflict}
use Rattle.zr_plan.specs.declared.target.Step.{Step}
use Rattle.zr_plan.specs.declared.target.TokenInfo.{TokenInfo}
use Rattle.zr_plan.specs.Sides.{Onto}

-- the number of a conflict
abbrev pub conflict_number : TheConflict → ℕ
conflict_number NoSenderSnapshots = 1
conflict_number NoCommon = 2
conflict_number (Diverged common newer) = 3
conflict_number TargetInUse = 4
conflict_number InitialRefused = 5

-- the own version of a guid: the job's cursor of it, else a snapshot with it, else the job's tentative
-- cursor of it
abbrev pub own_version : List ℕ → List VersionRow → Guid → Option VersionRow
own_version job source guid =
    option_or (find (is_cursor_of job guid) source)
    (option_or (find (is_snap_of guid) source) (find (is_tentative_of job guid) source))

-- a row is of a snapshot that the source has an own version of
abbrev pub is_common : List ℕ → List VersionRow → VersionRow → Bool
is_common job source row = is_snap row && is_some (own_version job source row.guid)

-- the last such snapshot of the target
abbrev pub newest_common : List ℕ → List VersionRow → List VersionRow → Option VersionRow
newest_common job source rows = find (is_common job source) (reverse rows)

-- a row is later than each snapshot with this guid
abbrev pub is_after_snaps : List VersionRow → Guid → VersionRow → Bool
is_after_snaps source guid row =
    list_all (λ other. not (is_snap_of guid other) || nat_lt other.txg row.txg) source

-- a row is later than the own version of a guid, and than each snapshot with this guid
abbrev pub is_later : List VersionRow → Guid → VersionRow → VersionRow → Bool
is_later source guid own row = nat_lt own.txg row.txg && is_after_snaps source guid row

abbrev pub step_to : VersionRow → VersionName → List Step
step_to row (Snap name) = record { to = name; guid = row.guid; full = false } ∷ []
step_to row (Mark name) = []

-- an increment to each snapshot among the rows, in their order
abbrev pub steps_of : List VersionRow → List Step
steps_of rows = flat_map (λ row. step_to row row.name) rows

-- the first of the steps is sent in full
abbrev pub in_full : List Step → List Step
in_full [] = []
in_full (step ∷ steps) = record step { full = true } ∷ steps

-- onto a target that has nothing
abbrev pub initial_plan : List VersionRow → Initial → Planned
initial_plan source initially.Fail = Conflict InitialRefused
initial_plan source initially.MostRecent = Steps (in_full (steps_of (option_to_list (newest source))))
initial_plan source initially.All = Steps (in_full (steps_of source))

abbrev pub resume : Guid → VersionName → Planned
resume guid (Snap name) = Resume name guid
resume guid (Mark name) = Abandon

-- a partial receive can go on where it is in full and the target has no snapshot, or where it is an
-- increment from the target's last snapshot and the source has an own version of that
abbrev pub can_go_on : List ℕ → List VersionRow → Option Guid → Option VersionRow → Bool
can_go_on job source None None = true
can_go_on job source (Some from) (Some last) =
    (from.0 == last.guid.0) && is_some (own_version job source from)
can_go_on job source from last = false

abbrev pub resume_if : Bool → Option VersionRow → Planned
resume_if true (Some row) = resume row.guid row.name
resume_if can found = Abandon

-- onto a target with a partial receive: of the first source snapshot with its guid
abbrev pub partial_plan : List ℕ → List VersionRow → Option VersionRow → TokenInfo → Planned
partial_plan job source last partial =
    resume_if (can_go_on job source partial.from last) (find (is_snap_of partial.to) source)

abbrev pub steps_plan : List Step → Planned
steps_plan [] = UpToDate
steps_plan (step ∷ steps) = Steps (step ∷ steps)

abbrev pub conflict_plan : Option VersionRow → VersionRow → Planned
conflict_plan None last = Conflict NoCommon
conflict_plan (Some common) last = Conflict (Diverged common.guid last.guid)

-- onto a target whose last snapshot has this own version, or none
abbrev pub plan_from : List ℕ → List VersionRow → List VersionRow → VersionRow → Option VersionRow → Planned
plan_from job source rows last None = conflict_plan (newest_common job source rows) last
plan_from job source rows last (Some own) =
    steps_plan (steps_of (filter (is_later source last.guid own) source))

-- onto a target with this last snapshot, or none
abbrev pub plan_after : List ℕ → List VersionRow → List VersionRow → Option VersionRow → Planned
plan_after job source rows None = Conflict TargetInUse
plan_after job source rows (Some last) =
    plan_from job source rows last (own_version job source last.guid)

-- a target that is not there, or is a placeholder without snapshots, has nothing
abbrev pub has_nothing : Onto → Bool
has_nothing target = not target.there || (target.placeholder && is_none (newest target.rows))

-- the plan onto a target with this partial receive, or none
abbrev pub plan_with : List ℕ → List VersionRow → Onto → Initial → Option TokenInfo → Planned
plan_with job source target initial (Some partial) =
    partial_plan job source (newest target.rows) partial
plan_with job source target initial None =
    if is_none (newest source) then Conflict NoSenderSnapshots
    else (if has_nothing target then initial_plan source initial
    else plan_after job source target.rows (newest target.rows))

-- what a replication does next, by a job's rows of the source and what is known of the target
unfoldable pub plan_of : List ℕ → List VersionRow → Onto → Initial → Planned
plan_of job source target initial = plan_with job source target initial target.partial
