use Rattle.std.specs.Prelude.{⊤, ◌≡◌, ℕ, Bool, List, [], Some, filter, map, not}
use Rattle.std.specs.List.{list_any}
use Rattle.std.specs.Option.{option_map_or}
use Rattle.zr_names.specs.declared.outcome.Outcome.{Outcome}
use Rattle.zr_names.specs.declared.outcome.Outcome.TheVariants as outcome
use Rattle.zr_names.specs.declared.unit.Work.TheVariants as work
use Rattle.zr_command.specs.declared.version.VersionName.TheVariants.{Snap}
use Rattle.zr_command.specs.declared.version.VersionRow.{VersionRow}
use Rattle.zr_world.specs.declared.pools.Dataset.{Dataset}
use Rattle.zr_world.specs.declared.pools.Pools.{Pools}
use Rattle.zr_world.specs.declared.pools.Version.{Version}
use Rattle.zr_world.specs.Effect.{with_set}
use Rattle.zr_world.specs.Lookup.{dataset_at, has_name}
use Rattle.zr_world.specs.Rows.{row_of_version}
use Rattle.zr_permit.specs.Transcript.{doomed_in}
use Rattle.zr_permit.specs.Sight.{Sight}

-- the rows that a listing of a dataset shows
abbrev pub rows_at : Pools → List ℕ → List VersionRow
rows_at pools path =
    map row_of_version (option_map_or (λ (set : Dataset). set.versions) (dataset_at pools path) [])

abbrev pub is_snap_among : List (List ℕ) → Version → Bool
is_snap_among names version = list_any (λ name. has_name (Snap name) version) names

-- a dataset without the snapshots of these names
abbrev pub without_snaps : List (List ℕ) → Dataset → Dataset
without_snaps names set =
    record set { versions = filter (λ version. not (is_snap_among names version)) set.versions }

-- where the runner tells its pools, and nothing else changes them, a prune whose commands were all done leaves its dataset with
-- the versions that were there before without the doomed snapshots, and all else as it was
abbrev pub PrunesAlone : Sight → Sight → Outcome → Type 0
PrunesAlone before now (outcome.Pruned destroyed busy) =
    busy ≡ 0 → (path : List ℕ) (pools after : Pools) → before.unit.work ≡ work.PruneSource path → before.pools ≡ Some pools →
    now.pools ≡ Some after →
    after ≡ with_set pools path (without_snaps (doomed_in before.jobs before.unit.job (Some (rows_at pools path))))
PrunesAlone before now other = ⊤
