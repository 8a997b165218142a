use Rattle.std.specs.Prelude.{◌≡◌, ◌≢◌, ◌==◌, ◌&&◌, ◌||◌, ℕ, Bool, true, List, AllPairs, nat_lt}
use Rattle.zr_command.specs.Names.{name_is_below}
use Rattle.zr_command.specs.declared.version.SetRow.{SetRow}
use Rattle.zr_command.specs.declared.version.VersionName.{VersionName}
use Rattle.zr_command.specs.declared.version.VersionRow.{VersionRow}

-- versions stand in order of their transaction group, then of their name
abbrev pub stands_before : ℕ → VersionName → ℕ → VersionName → Bool
stands_before txg name txg' name' =
    nat_lt txg txg' || ((txg == txg') && name_is_below name name')

-- the rows of a listing of versions: in order, and no name twice
pub record IsVersionList (rows : List VersionRow) : Type 0 where
  pub in_order : AllPairs (λ a b. stands_before a.txg a.name b.txg b.name ≡ true) rows
  pub names_differ : AllPairs (λ a b. a.name ≢ b.name) rows

-- the rows of a listing of datasets: no path twice
abbrev pub IsSetList : List SetRow → Type 0
IsSetList rows = AllPairs (λ a b. a.path ≢ b.path) rows
