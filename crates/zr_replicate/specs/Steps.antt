use Rattle.std.specs.Prelude.{◌≡◌, ◌<◌, ◌⊎◌, ℕ, List, [], Option, Some, Contains, is_some, length, true}
use Rattle.std.specs.List.{list_all}
use Rattle.zr_command.specs.declared.command.Transfer.{Transfer}
use Rattle.zr_command.specs.declared.version.VersionName.TheVariants.{Snap}
use Rattle.zr_command.specs.declared.version.VersionRow.{VersionRow}
use Rattle.zr_command.specs.Listings.{IsVersionList}
use Rattle.zr_command.specs.Kinds.{newest}
use Rattle.zr_plan.specs.declared.target.Planned.{Planned}
use Rattle.zr_plan.specs.declared.target.Planned.TheVariants.{Steps}
use Rattle.zr_known.specs.declared.known.Known.{Known}
use Rattle.zr_jobs.specs.declared.pair.Pair.{Pair}
use Rattle.zr_known.specs.declared.known.Presence.TheVariants.{Absent}
use Rattle.zr_known.specs.Known.{target_rows}
use Rattle.zr_known.specs.declared.known.Receiving.TheVariants.{Nothing}
use Rattle.zr_known.specs.Replication.{is_there, plan_known}
use Rattle.zr_known.specs.Straight.{has_known_holds}
use Rattle.zr_replicate.specs.declared.settlement.Newest.{Newest}
use Rattle.zr_replicate.specs.Settlement.{IsAlone, IsSafe}

-- the source was listed, with the holds of each of its snapshots, and it has one
pub record HasSource (known : Known) : Type 0 where
  pub rows : List VersionRow
  pub are_listed : known.source.listing ≡ Some rows
  pub in_list : IsVersionList rows
  pub holds : list_all (has_known_holds known.source.asked) rows ≡ true
  pub some : is_some (newest rows) ≡ true

-- nothing was replicated yet
pub record IsUntouched (known : Known) : Type 0 where
  pub source : HasSource known
  pub absent : known.presence ≡ Absent
  pub no_rows : target_rows known ≡ Some []
  pub no_marks : known.marks ≡ []
  pub no_step_holds : known.source.held ≡ []
  pub no_partial : known.receiving ≡ Nothing

-- the target rests on this snapshot: there is nothing to settle
pub record RestsOn (pair : Pair) (known : Known) (newest : Newest) : Type 0 where
  pub source : HasSource known
  pub there : is_there known.presence ≡ true
  pub safe : IsSafe pair known newest
  pub alone : IsAlone pair known newest

pub record IsAtRest (pair : Pair) (known : Known) : Type 0 where
  pub newest : Newest
  pub rests : RestsOn pair known newest

-- what a transfer makes the newest snapshot of its target
abbrev pub newest_by : Transfer → Newest
newest_by transfer = record { name = transfer.to; guid = transfer.guid }

-- a step may begin
abbrev pub IsReady : Pair → Known → Type 0
IsReady pair known = IsUntouched known ⊎ IsAtRest pair known

-- the steps that are planned
abbrev pub step_count : Option Planned → ℕ
step_count (Some (Steps steps)) = length steps
step_count other = 0

-- fewer steps are planned than were, where nothing was to settle before
abbrev pub AreFewerSteps : Pair → Known → Known → Type 0
AreFewerSteps pair before now =
    IsAtRest pair before → step_count (plan_known pair now) < step_count (plan_known pair before)

-- a transfer sends a snapshot that the source was listed with
pub record SendsRow (known : Known) (pair : Pair) (transfer : Transfer) (rows : List VersionRow) : Type 0 where
  pub row : VersionRow
  pub among : Contains rows row
  pub named : row.name ≡ Snap transfer.to
  pub of_guid : row.guid ≡ transfer.guid
  pub onto : transfer.target ≡ pair.target

-- what was listed stays as it was
pub record SameListings (before now : Known) : Type 0 where
  pub sets : now.sets ≡ before.sets
  pub source : now.source.listing ≡ before.source.listing
  pub source_asked : now.source.asked ≡ before.source.asked
  pub target : now.target.listing ≡ before.target.listing
  pub target_asked : now.target.asked ≡ before.target.asked
