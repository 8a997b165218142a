use Rattle.std.specs.Prelude.{◌==◌, ◌&&◌, ℕ, Bool, true, false, not, List, [], Option, Some, None, ◌∷◌, find, is_some, is_none, drop, length, nat_lt, reverse, take}
use Rattle.std.specs.List.{list_any}
use Rattle.std.specs.Option.{option_and_then, option_map_or}
use Rattle.zr_names.specs.declared.unit.Guid.{Guid}
use Rattle.zr_world.specs.declared.pools.Dataset.{Dataset}
use Rattle.zr_world.specs.declared.pools.Partial.{Partial}
use Rattle.zr_world.specs.declared.pools.Pools.{Pools}
use Rattle.zr_world.specs.declared.pools.Version.{Version}
use Rattle.zr_command.specs.declared.version.VersionName.{VersionName}
use Rattle.zr_command.specs.Kinds.{names_snap}
use Rattle.zr_command.specs.Names.{same_name, same_text}

-- the version has this name
abbrev pub has_name : VersionName → Version → Bool
has_name name version = same_name name version.name

abbrev pub is_snapshot : Version → Bool
is_snapshot version = names_snap version.name

-- the dataset has this path
abbrev pub is_at : List ℕ → Dataset → Bool
is_at path set = same_text set.path path

abbrev pub dataset_at : Pools → List ℕ → Option Dataset
dataset_at pools path = find (is_at path) pools.sets

-- the version of this name of the dataset at this path
abbrev pub version_at : Pools → List ℕ → VersionName → Option Version
version_at pools path name = option_and_then (λ set. find (has_name name) set.versions) (dataset_at pools path)

-- the tags of its holds
abbrev pub tags_at : Pools → List ℕ → VersionName → List (List ℕ)
tags_at pools path name = option_map_or (λ version. version.tags) (version_at pools path name) []

abbrev pub has_guid : Guid → Version → Bool
has_guid guid version = version.guid.0 == guid.0

-- a version of this name and guid stands in the dataset at this path
abbrev pub stands : Pools → List ℕ → VersionName → Guid → Bool
stands pools path name guid = option_map_or (has_guid guid) (version_at pools path name) false

-- a dataset's newest snapshot is its last one
abbrev pub newest : Dataset → Option Version
newest set = find is_snapshot (reverse set.versions)

-- behind a parent's path stand a slash and one component
abbrev pub is_component : List ℕ → Bool
is_component [] = false
is_component (b ∷ name) = (b == 47) && not (list_any (λ c. c == 47) name)

-- the dataset is the parent of this path
abbrev pub is_parent : List ℕ → Dataset → Bool
is_parent path set =
    nat_lt (length set.path) (length path)
    && same_text (take (length set.path) path) set.path
    && is_component (drop (length set.path) path)

abbrev pub parent_at : Pools → List ℕ → Option Dataset
parent_at pools path = find (is_parent path) pools.sets

-- a dataset is in its first receive: it has a partial receive, no snapshot and no placeholder flag
abbrev pub in_first_receive : Dataset → Bool
in_first_receive set = is_some set.partial && is_none (newest set) && not set.placeholder

-- the partial receive of the dataset at this path
abbrev pub partial_at : Pools → List ℕ → Option Partial
partial_at pools path = option_and_then (λ set. set.partial) (dataset_at pools path)

-- the versions of the dataset at this path
abbrev pub versions_at : Pools → List ℕ → List Version
versions_at pools path = option_map_or (λ set. set.versions) (dataset_at pools path) []

-- a version of this guid, if one is asked for, stands in the dataset at this path
abbrev pub has_source : Pools → List ℕ → Option Guid → Bool
has_source pools path None = true
has_source pools path (Some guid) = list_any (has_guid guid) (versions_at pools path)

-- the first snapshot of this guid of the dataset at this path
abbrev pub first_of_guid : Pools → List ℕ → Guid → Option Version
first_of_guid pools path guid = find (λ version. is_snapshot version && has_guid guid version) (versions_at pools path)
