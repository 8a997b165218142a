use Rattle.std.specs.Prelude.{◌≡◌, ◌≢◌, ℕ, ◌<◌, true, [], All, AllPairs}
use Rattle.zr_world.specs.declared.pools.Dataset.{Dataset}
use Rattle.zr_world.specs.declared.pools.Pools.{Pools}
use Rattle.zr_world.specs.declared.pools.Version.{Version}
use Rattle.zr_command.specs.Listings.{stands_before}
use Rattle.zr_command.specs.Names.{is_below, is_mark}

-- a bookmark has no holds
abbrev pub MarkIsFree : Version → Type 0
MarkIsFree version = is_mark version.name ≡ true → version.tags ≡ []

-- the versions of a well-formed dataset: in order, names and tags differ, bookmarks have no holds, and
-- each was made in an earlier transaction group than the next one
pub record IsWellFormedSet (next_txg : ℕ) (set : Dataset) : Type 0 where
  pub in_order : AllPairs (λ a b. stands_before a.txg a.name b.txg b.name ≡ true) set.versions
  pub names_differ : AllPairs (λ a b. a.name ≢ b.name) set.versions
  pub tags_differ : All (λ v. AllPairs (λ a b. a ≢ b) v.tags) set.versions
  pub marks_free : All MarkIsFree set.versions
  pub made_before : All (λ v. v.txg < next_txg) set.versions

-- pools are well formed where their datasets stand in strictly rising byte order of path and each is
-- well formed
pub record IsWellFormed (pools : Pools) : Type 0 where
  pub rising : AllPairs (λ a b. is_below a.path b.path ≡ true) pools.sets
  pub each : All (IsWellFormedSet pools.next_txg) pools.sets
