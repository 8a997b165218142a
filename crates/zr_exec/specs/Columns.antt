use Rattle.std.specs.Prelude.{◌==◌, ◌&&◌, ◌||◌, ℕ, zero, suc, ◌^◌, Bool, false, not, if◌then◌else◌, List, [], ◌∷◌, Option, Some, None, codes, drop, length, nat_le, nat_lt, take}
use Rattle.std.specs.Fmt.{decimal}
use Rattle.std.specs.Str.Parse.{digits_value}
use Rattle.zr_names.specs.Names.{name_is_bad, path_is_bad, tag_is_bad, token_is_bad}
use Rattle.zr_names.specs.declared.names.TheConstants.{NAME_LIMIT, PATH_LIMIT, TOKEN_LIMIT}
use Rattle.zr_listing.specs.Columns.{columns, full_name}
use Rattle.zr_command.specs.Names.{same_text}
use Rattle.zr_command.specs.declared.version.SetRow.{SetRow}
use Rattle.zr_command.specs.declared.version.VersionName.{VersionName}
use Rattle.zr_command.specs.declared.version.VersionName.TheVariants.{Snap, Mark}
use Rattle.zr_command.specs.declared.version.VersionRow.{VersionRow}

-- one of the first places is bad
abbrev pub has_bad_place : (List ℕ → ℕ → Bool) → List ℕ → ℕ → Bool
has_bad_place is_bad text zero = false
has_bad_place is_bad text (suc place) = is_bad text place || has_bad_place is_bad text place

-- a test for names
abbrev pub is_name : (List ℕ → ℕ → Bool) → ℕ → List ℕ → Bool
is_name is_bad limit text =
    not (same_text text []) && nat_le (length text) limit && not (has_bad_place is_bad text (length text))

-- the column is a resume token, or `-` none
abbrev pub is_token_column : List ℕ → Bool
is_token_column column = same_text column (codes "-") || is_name token_is_bad TOKEN_LIMIT column

abbrev pub token_in : List ℕ → Option (List ℕ)
token_in column = if same_text column (codes "-") then None else Some column

-- the row of the columns of a dataset
abbrev pub set_of : List (List ℕ) → Option SetRow
set_of (path ∷ flag ∷ token ∷ []) =
    if is_name path_is_bad PATH_LIMIT path && not (same_text flag []) && is_token_column token
    then Some (record { path = path; placeholder = same_text flag (codes "on"); token = token_in token })
    else None
set_of other = None

-- the row that a line of a listing of datasets spells
abbrev pub set_row_of : List ℕ → Option SetRow
set_row_of line = set_of (columns line)

-- the name of a version, behind its dataset's path
abbrev pub name_behind : List ℕ → Option VersionName
name_behind [] = None
name_behind (kind ∷ name) =
    if is_name name_is_bad NAME_LIMIT name
    then (if kind == 64 then Some (Snap name) else (if kind == 35 then Some (Mark name) else None))
    else None

-- the name that a full name of a version of the dataset at this path has
abbrev pub name_in : List ℕ → List ℕ → Option VersionName
name_in path column =
    if same_text (take (length path) column) path then name_behind (drop (length path) column) else None

abbrev pub number_in : List ℕ → ℕ
number_in column = digits_value 10 column

-- the column is a printed number of 64 bits
abbrev pub is_number : List ℕ → Bool
is_number column = same_text column (decimal (number_in column)) && nat_lt (number_in column) (2 ^ 64)

abbrev pub is_refs : VersionName → List ℕ → Bool
is_refs (Snap name) column = is_number column
is_refs (Mark name) column = same_text column (codes "-")

abbrev pub refs_in : VersionName → List ℕ → ℕ
refs_in (Snap name) column = number_in column
refs_in (Mark name) column = 0

-- the row of the columns of a version whose name is read
abbrev pub version_named : Option VersionName → List ℕ → List ℕ → List ℕ → List ℕ → Option VersionRow
version_named None guid txg creation refs = None
version_named (Some name) guid txg creation refs =
    if is_number guid && is_number txg && is_number creation && is_refs name refs
    then Some (record {
      name = name;
      guid = record { 0 = number_in guid };
      txg = number_in txg;
      creation = number_in creation;
      refs = refs_in name refs;
    })
    else None

-- the row of the columns of a version of the dataset at this path
abbrev pub version_of : List ℕ → List (List ℕ) → Option VersionRow
version_of path (name ∷ guid ∷ txg ∷ creation ∷ refs ∷ []) =
    version_named (name_in path name) guid txg creation refs
version_of path other = None

-- the row that a line of a listing of the versions of the dataset at this path spells
abbrev pub version_row_of : List ℕ → List ℕ → Option VersionRow
version_row_of path line = version_of path (columns line)

-- the tag of the columns of a hold of the snapshot of this name at this path
abbrev pub hold_in : List ℕ → List ℕ → List (List ℕ) → Option (List ℕ)
hold_in path name (full ∷ tag ∷ date ∷ []) =
    if same_text full (full_name path (Snap name)) && is_name tag_is_bad NAME_LIMIT tag && not (same_text date [])
    then Some tag
    else None
hold_in path name other = None

-- the tag that a line of a listing of the holds of the snapshot of this name at this path spells
abbrev pub hold_of : List ℕ → List ℕ → List ℕ → Option (List ℕ)
hold_of path name line = hold_in path name (columns line)
