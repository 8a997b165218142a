use Rattle.std.specs.Prelude.{◌≢◌, List, ℕ, Result, Ok, Err, AllPairs, IsPermutation, ⊤}
use Rattle.zr_listing.specs.Columns.{IsSetLine, IsVersionLine, IsHoldLine}
use Rattle.zr_listing.specs.Lines.{Lines}
use Rattle.zr_listing.specs.declared.faults.ListFault.{ListFault}
use Rattle.zr_listing.specs.declared.faults.ListFault.TheVariants as fault
use Rattle.zr_command.specs.Listings.{IsSetList, IsVersionList}
use Rattle.zr_command.specs.declared.version.SetRow.{SetRow}
use Rattle.zr_command.specs.declared.version.VersionRow.{VersionRow}

-- a listing is refused for its bytes, and not for want of memory
abbrev pub IsGarbled : {X : Type 0} → Result X ListFault → Type 0
IsGarbled (Ok rows) = ⊥
IsGarbled (Err (fault.Garbled line)) = ⊤
IsGarbled (Err fault.NoMemory) = ⊥

-- the bytes list these datasets, in this order: a line for each, and no path twice
pub record IsSetListing (bytes : List ℕ) (rows : List SetRow) : Type 0 where
  pub lines : Lines IsSetLine bytes rows
  pub paths_differ : IsSetList rows

-- the bytes list these versions of the dataset at this path: a line for each, in whatever order, and the rows stand in
-- order of txg, then snapshots before bookmarks, then of name, no name twice
pub record IsVersionListing (path : List ℕ) (bytes : List ℕ) (rows : List VersionRow) : Type 0 where
  pub listed : List VersionRow
  pub lines : Lines (IsVersionLine path) bytes listed
  pub same_rows : IsPermutation listed rows
  pub in_order : IsVersionList rows

-- the bytes list the holds of the snapshot of this name at this path, in this order: a line for each, and no tag twice
pub record IsHoldListing (path name : List ℕ) (bytes : List ℕ) (tags : List (List ℕ)) : Type 0 where
  pub lines : Lines (IsHoldLine path name) bytes tags
  pub tags_differ : AllPairs (λ a b. a ≢ b) tags
