-- How a client replicates (zrepl's documentation, "Replication Options" and "Conflict Resolution").
use Rattle.zr_names.specs.Tree.{Members}
use Rattle.zr_names.specs.declared.policy.Initial.TheVariants as initial
use Rattle.zr_jobwalk.specs.declared.fault.JobFault.{JobFault}
use Rattle.zr_jobwalk.specs.declared.field.Field.TheVariants as field
use Rattle.zr_jobwalk.specs.Faults.{First, MayTable}
use Rattle.zr_jobwalk.specs.Fields.{value_of}
use Rattle.zr_jobwalk.specs.Replicating.{IsReplication, IsResolution, ReplicationFault, ResolutionFault, default_replication}
use Rattle.zr_jobwalk.specs.Tables.{Section}
use Rattle.zr_jobwalk.specs.Values.{HasOr, IsTable}
use Rattle.zr_jobtree.specs.declared.copying.Copying.{Copying}

-- `replication` and `conflict_resolution`, with the defaults of what is left out
pub record IsCopying (members : Members) (copying : Copying) : Type 0 where
  pub replicates : HasOr default_replication (IsTable IsReplication) (value_of members field.Replication) copying.replication
  pub resolves : HasOr initial.MostRecent (IsTable IsResolution) (value_of members field.ConflictResolution) copying.first

abbrev pub CopyingFault : Section → JobFault → Type 0
CopyingFault table fault =
    MayTable default_replication IsReplication ReplicationFault field.Replication table fault
    (MayTable initial.MostRecent IsResolution ResolutionFault field.ConflictResolution table fault ⊥)

-- the faults of both with those after them
abbrev pub Copies : Section → JobFault → Type 0 → Type 0
Copies table fault Later =
    First (CopyingFault table fault) ((copying : Copying) × IsCopying table.members copying) Later
