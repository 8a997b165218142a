use Rattle.std.specs.Prelude.{◌==◌, ◌&&◌, ℕ, Bool, true, false, List, Option, find, reverse}
use Rattle.zr_names.specs.Marks.{mark_kind}
use Rattle.zr_names.specs.declared.marks.MarkKind.{MarkKind}
use Rattle.zr_names.specs.declared.marks.MarkKind.TheVariants as mark
use Rattle.zr_names.specs.declared.unit.Guid.{Guid}
use Rattle.zr_command.specs.declared.version.VersionName.{VersionName}
use Rattle.zr_command.specs.declared.version.VersionName.TheVariants.{Snap, Mark}
use Rattle.zr_command.specs.declared.version.VersionRow.{VersionRow}

abbrev pub names_snap : VersionName → Bool
names_snap (Snap name) = true
names_snap (Mark name) = false

-- a row of a listing is a snapshot
abbrev pub is_snap : VersionRow → Bool
is_snap row = names_snap row.name

-- a row is a snapshot with this guid
abbrev pub is_snap_of : Guid → VersionRow → Bool
is_snap_of guid row = is_snap row && (row.guid.0 == guid.0)

-- what a version is to a job, by its name; a snapshot is no mark
abbrev pub kind_in : List ℕ → VersionName → MarkKind
kind_in job (Snap name) = mark.Other
kind_in job (Mark name) = mark_kind name job

abbrev pub is_cursor : Guid → MarkKind → Bool
is_cursor guid (mark.Cursor own) = own.0 == guid.0
is_cursor guid kind = false

abbrev pub is_tentative : Guid → MarkKind → Bool
is_tentative guid (mark.Tentative own) = own.0 == guid.0
is_tentative guid kind = false

-- a row is the job's cursor of this guid
abbrev pub is_cursor_of : List ℕ → Guid → VersionRow → Bool
is_cursor_of job guid row = is_cursor guid (kind_in job row.name)

-- a row is the job's tentative cursor of this guid
abbrev pub is_tentative_of : List ℕ → Guid → VersionRow → Bool
is_tentative_of job guid row = is_tentative guid (kind_in job row.name)

-- the last snapshot of a listing
abbrev pub newest : List VersionRow → Option VersionRow
newest rows = find is_snap (reverse rows)
