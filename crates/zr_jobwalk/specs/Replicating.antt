-- How a job replicates, the fields `replication` and `conflict_resolution` (zrepl's documentation, "Replication Options"
-- and "Conflict Resolution").
use Rattle.std.specs.Prelude.{◌≡◌, ℕ, false, List, [], ◌∷◌}
use Rattle.zr_names.specs.Tree.{Members}
use Rattle.zr_names.specs.declared.policy.Initial.{Initial}
use Rattle.zr_names.specs.declared.policy.Initial.TheVariants as initial
use Rattle.zr_names.specs.declared.policy.Protection.TheVariants as protection
use Rattle.zr_jobset.specs.declared.fields.TheConstants.{MAX_STEPS}
use Rattle.zr_jobwalk.specs.declared.replicating.Guarantees.{Guarantees}
use Rattle.zr_jobwalk.specs.declared.replicating.Replication.{Replication}
use Rattle.zr_jobwalk.specs.declared.fault.JobFault.{JobFault}
use Rattle.zr_jobwalk.specs.declared.field.Field.{Field}
use Rattle.zr_jobwalk.specs.declared.field.Field.TheVariants as field
use Rattle.zr_jobwalk.specs.Fields.{strangers, value_of}
use Rattle.zr_jobwalk.specs.Faults.{May, MayTable, Only}
use Rattle.zr_jobwalk.specs.Tables.{Section}
use Rattle.zr_jobwalk.specs.Texts.{IsInitial, IsProtection}
use Rattle.zr_jobwalk.specs.Values.{HasOr, IsFlag, IsNumber, IsTable, IsText}

-- `protection`: what is guaranteed of the first replication and of the later ones; resumability, where it is left out
abbrev pub guarantee_fields : List Field
guarantee_fields = field.Initial ∷ field.Incremental ∷ []

pub record AreGuarantees (members : Members) (guarantees : Guarantees) : Type 0 where
  pub only : strangers guarantee_fields members ≡ []
  pub first : HasOr protection.Resumability (IsText IsProtection) (value_of members field.Initial) guarantees.first
  pub later : HasOr protection.Resumability (IsText IsProtection) (value_of members field.Incremental) guarantees.later

abbrev pub GuaranteesFault : Section → JobFault → Type 0
GuaranteesFault table fault =
    Only guarantee_fields table fault
    (May protection.Resumability (IsText IsProtection) field.Initial table fault
    (May protection.Resumability (IsText IsProtection) field.Incremental table fault ⊥))

-- `concurrency`: how many steps may run at once; one, where it is left out
abbrev pub concurrency_fields : List Field
concurrency_fields = field.Steps ∷ []

pub record IsConcurrency (members : Members) (steps : ℕ) : Type 0 where
  pub only : strangers concurrency_fields members ≡ []
  pub within : HasOr 1 (IsNumber 1 MAX_STEPS) (value_of members field.Steps) steps

abbrev pub ConcurrencyFault : Section → JobFault → Type 0
ConcurrencyFault table fault =
    Only concurrency_fields table fault (May 1 (IsNumber 1 MAX_STEPS) field.Steps table fault ⊥)

abbrev pub default_guarantees : Guarantees
default_guarantees = record { first = protection.Resumability; later = protection.Resumability }

-- `replication`
abbrev pub replication_fields : List Field
replication_fields = field.Protection ∷ field.Concurrency ∷ field.MigrateOldCursor ∷ []

pub record IsReplication (members : Members) (replication : Replication) : Type 0 where
  pub only : strangers replication_fields members ≡ []
  pub guarantees : HasOr default_guarantees (IsTable AreGuarantees) (value_of members field.Protection) replication.guarantees
  pub steps : HasOr 1 (IsTable IsConcurrency) (value_of members field.Concurrency) replication.steps
  pub migrate : HasOr false IsFlag (value_of members field.MigrateOldCursor) replication.migrate

abbrev pub ReplicationFault : Section → JobFault → Type 0
ReplicationFault table fault =
    Only replication_fields table fault
    (MayTable default_guarantees AreGuarantees GuaranteesFault field.Protection table fault
    (MayTable 1 IsConcurrency ConcurrencyFault field.Concurrency table fault
    (May false IsFlag field.MigrateOldCursor table fault ⊥)))

abbrev pub default_replication : Replication
default_replication = record { guarantees = default_guarantees; steps = 1; migrate = false }

-- `conflict_resolution`: which snapshots are replicated first; the most recent one, where it is left out
abbrev pub resolution_fields : List Field
resolution_fields = field.InitialReplication ∷ []

pub record IsResolution (members : Members) (first : Initial) : Type 0 where
  pub only : strangers resolution_fields members ≡ []
  pub replicates : HasOr initial.MostRecent (IsText IsInitial) (value_of members field.InitialReplication) first

abbrev pub ResolutionFault : Section → JobFault → Type 0
ResolutionFault table fault =
    Only resolution_fields table fault
    (May initial.MostRecent (IsText IsInitial) field.InitialReplication table fault ⊥)
