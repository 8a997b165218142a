use Rattle.std.specs.Prelude.{◌≡◌, ◌≢◌, ◌&&◌, ◌||◌, ◌⊎◌, ℕ, Bool, true, false, List, Option, Some, find, option_map}
use Rattle.std.specs.Option.{option_map_or, option_or}
use Rattle.zr_names.specs.Marks.{cursor_text}
use Rattle.zr_names.specs.declared.unit.Guid.{Guid}
use Rattle.zr_command.specs.declared.version.VersionName.{VersionName}
use Rattle.zr_command.specs.declared.version.VersionRow.{VersionRow}
use Rattle.zr_command.specs.Kinds.{is_snap_of, is_tentative_of}
use Rattle.zr_known.specs.declared.known.Known.{Known}
use Rattle.zr_jobs.specs.declared.pair.Pair.{Pair}
use Rattle.zr_known.specs.Known.{rows_of, source_row}
use Rattle.zr_known.specs.Replication.{HoldsKnown, IsListed, IsSettled}

-- a source snapshot is listed, and its holds are known
pub record ListsHolds (known : Known) (name : List ℕ) : Type 0 where
  pub row : VersionRow
  pub listed : IsListed known.source.listing name row
  pub holds : HoldsKnown row known.source.asked name

-- the target's newest snapshot has its cursor, which is not what goes, and its last-received hold
abbrev pub IsSettledBeside : Pair → Known → Option (List ℕ) → Type 0
IsSettledBeside pair known goes =
    (last : VersionRow) × (name : List ℕ) × IsSettled pair known last name
    × (goes ≢ Some (cursor_text last.guid.0 pair.job))

-- the cursor of a guid may be made from a version: it is known, as a snapshot with the guid or as the job's tentative
-- cursor of it
pub record MakesCursor (pair : Pair) (known : Known) (guid : Guid) (version : VersionName) : Type 0 where
  pub row : VersionRow
  pub found : source_row version known ≡ Some row
  pub of_guid : (is_snap_of guid row ≡ true) ⊎ (is_tentative_of pair.job guid row ≡ true)

-- the same as a test
abbrev pub makes_cursor : Pair → Known → Guid → VersionName → Bool
makes_cursor pair known guid version =
    option_map_or (λ row. is_snap_of guid row || is_tentative_of pair.job guid row) (source_row version known) false

-- what the cursor of a guid is made from: the first listed snapshot that has the guid, else the job's tentative cursor of it
abbrev pub cursor_source : Pair → Known → Guid → Option VersionName
cursor_source pair known guid =
    option_map (λ (row : VersionRow). row.name)
    (option_or
    (find (λ row. is_snap_of guid row && makes_cursor pair known guid row.name)
    (rows_of known.source.listing))
    (find (λ row. makes_cursor pair known guid row.name) known.marks))
