-- The kinds of jobs and the fields of each (zrepl's documentation, "Job Types").
use Rattle.std.specs.Prelude.{◌≡◌, ℕ, List, [], ◌∷◌, codes}
use Rattle.zr_jobset.specs.declared.job.JobKind.{JobKind}
use Rattle.zr_jobset.specs.declared.job.JobKind.TheVariants as kinds
use Rattle.zr_jobwalk.specs.declared.field.Field.{Field}
use Rattle.zr_jobwalk.specs.declared.field.Field.TheVariants as field

abbrev pub IsKind : List ℕ → JobKind → Type 0
IsKind text kinds.Push = text ≡ codes "push"
IsKind text kinds.Pull = text ≡ codes "pull"
IsKind text kinds.Sink = text ≡ codes "sink"
IsKind text kinds.Source = text ≡ codes "source"
IsKind text kinds.Snap = text ≡ codes "snap"

abbrev pub fields_of : JobKind → List Field
fields_of kinds.Push =
    field.Name ∷ field.Type ∷ field.Connect ∷ field.Filesystems ∷ field.Snapshotting
    ∷ field.Replication ∷ field.ConflictResolution ∷ field.Pruning ∷ []
fields_of kinds.Pull =
    field.Name ∷ field.Type ∷ field.Connect ∷ field.RootFs ∷ field.Interval
    ∷ field.Replication ∷ field.ConflictResolution ∷ field.Pruning ∷ []
fields_of kinds.Sink = field.Name ∷ field.Type ∷ field.Serve ∷ field.RootFs ∷ []
fields_of kinds.Source =
    field.Name ∷ field.Type ∷ field.Serve ∷ field.Filesystems ∷ field.Snapshotting ∷ []
fields_of kinds.Snap =
    field.Name ∷ field.Type ∷ field.Filesystems ∷ field.Snapshotting ∷ field.Pruning ∷ []
