-- When snapshots are taken, the field `snapshotting` (zrepl's documentation, "Taking Snapshots").
use Rattle.std.specs.Prelude.{◌≡◌, ◌⊎◌, ℕ, List, [], ◌∷◌, Option, Some, None, codes}
use Rattle.zr_names.specs.Tree.{Members}
use Rattle.zr_schedule.specs.declared.schedule.When.{When}
use Rattle.zr_schedule.specs.declared.schedule.When.TheVariants as whens
use Rattle.zr_jobwalk.specs.declared.snapshotting.Taking.{Taking}
use Rattle.zr_jobwalk.specs.declared.snapshotting.Occasion.{Occasion}
use Rattle.zr_jobwalk.specs.declared.snapshotting.Occasion.TheVariants.{Periodic, Cron, Manual}
use Rattle.zr_jobwalk.specs.declared.fault.JobFault.{JobFault}
use Rattle.zr_jobwalk.specs.declared.field.Field.{Field}
use Rattle.zr_jobwalk.specs.declared.field.Field.TheVariants as field
use Rattle.zr_jobwalk.specs.Fields.{strangers, value_of}
use Rattle.zr_jobwalk.specs.Faults.{HasFault, IsBad, Must, Only, field_of}
use Rattle.zr_jobwalk.specs.Tables.{Section}
use Rattle.zr_jobwalk.specs.Texts.{IsEvery, IsMinutes, IsPrefix}
use Rattle.zr_jobwalk.specs.Values.{Has, IsText}

-- the types of snapshotting
abbrev pub IsOccasion : List ℕ → Occasion → Type 0
IsOccasion text Periodic = text ≡ codes "periodic"
IsOccasion text Cron = text ≡ codes "cron"
IsOccasion text Manual = text ≡ codes "manual"

abbrev pub fields_of : Occasion → List Field
fields_of Periodic = field.Type ∷ field.Prefix ∷ field.Interval ∷ []
fields_of Cron = field.Type ∷ field.Prefix ∷ field.Cron ∷ []
fields_of Manual = field.Type ∷ []

-- a prefix and an interval, a prefix and the minutes of a cron text, or nothing
abbrev pub IsTakenOn : Occasion → Members → Taking → Type 0
IsTakenOn Periodic table taking =
    Has (IsText IsPrefix) (value_of table field.Prefix) taking.prefix
    × Has (IsText IsEvery) (value_of table field.Interval) taking.when
IsTakenOn Cron table taking =
    Has (IsText IsPrefix) (value_of table field.Prefix) taking.prefix
    × Has (IsText IsMinutes) (value_of table field.Cron) taking.when
IsTakenOn Manual table taking = (taking.prefix ≡ None) × (taking.when ≡ whens.Never)

-- `snapshotting`: its type, and the fields of that type and no others
pub record IsTaking (members : Members) (taking : Taking) : Type 0 where
  pub occasion : Occasion
  pub typed : Has (IsText IsOccasion) (value_of members field.Type) occasion
  pub only : strangers (fields_of occasion) members ≡ []
  pub taken : IsTakenOn occasion members taking

-- the faults of the fields that a type has
abbrev pub OccasionFault : Occasion → Section → JobFault → Type 0
OccasionFault Periodic table fault =
    Must (IsText IsPrefix) field.Prefix table fault
    (Must (IsText IsEvery) field.Interval table fault ⊥)
OccasionFault Cron table fault =
    Must (IsText IsPrefix) field.Prefix table fault
    (Must (IsText IsMinutes) field.Cron table fault ⊥)
OccasionFault Manual table fault = ⊥

-- the type comes first, then what is none of its fields, and then those
abbrev pub TakingFault : Section → JobFault → Type 0
TakingFault table fault =
    HasFault (IsBad (IsText IsOccasion)) table field.Type fault
    ⊎ ((occasion : Occasion) × Has (IsText IsOccasion) (field_of table field.Type) occasion
    × Only (fields_of occasion) table fault (OccasionFault occasion table fault))
