use Rattle.std.specs.Prelude.{◌≡◌, ◌&&◌, Bool, false, ℕ, List, Some, ⊤}
use Rattle.std.specs.List.{list_any}
use Rattle.zr_names.specs.declared.unit.Guid.{Guid}
use Rattle.zr_command.specs.declared.version.VersionRow.{VersionRow}
use Rattle.zr_plan.specs.Plan.{is_later, own_version}
use Rattle.zr_command.specs.Kinds.{is_snap, newest}
use Rattle.zr_plan.specs.declared.target.Conflict.TheVariants.{NoSenderSnapshots}
use Rattle.zr_plan.specs.declared.target.Planned.{Planned}
use Rattle.zr_plan.specs.declared.target.Planned.TheVariants.{Resume, Conflict}

-- a plan is no conflict, save that the source has no snapshot to send
abbrev pub GoesOn : Planned → Type 0
GoesOn (Conflict NoSenderSnapshots) = ⊤
GoesOn (Conflict conflict) = ⊥
GoesOn planned = ⊤

-- a plan resumes the partial receive of this guid
abbrev pub IsResumeOf : Guid → Planned → Type 0
IsResumeOf guid (Resume to own) = own.0 ≡ guid.0
IsResumeOf guid planned = ⊥

-- a row is a snapshot that is later than the own version of a guid and than each snapshot with it
abbrev pub is_owed : List VersionRow → Guid → VersionRow → VersionRow → Bool
is_owed source guid own row = is_later source guid own row && is_snap row

-- the source has an own version of the target's last snapshot, and no snapshot later than that
pub record IsCaughtUp (job : List ℕ) (source rows : List VersionRow) : Type 0 where
  pub last : VersionRow
  pub own : VersionRow
  pub is_last : newest rows ≡ Some last
  pub is_own : own_version job source last.guid ≡ Some own
  pub none_owed : list_any (is_owed source last.guid own) source ≡ false
