use Rattle.std.specs.Prelude.{◌≡◌, ℕ, ◌<◌, ◌^◌, Bool, true, false, List, [], ◌∷◌, ◌++◌, Option, Some, None, IfSome, All, codes}
use Rattle.std.specs.Fmt.{decimal}
use Rattle.std.specs.List.{join_with_byte}
use Rattle.zr_names.specs.Names.{IsName, path_is_bad, name_is_bad, token_is_bad}
use Rattle.zr_names.specs.declared.names.TheConstants.{PATH_LIMIT, NAME_LIMIT, TOKEN_LIMIT}
use Rattle.zr_command.specs.Names.{is_mark}
use Rattle.zr_command.specs.declared.version.SetRow.{SetRow}
use Rattle.zr_command.specs.declared.version.VersionName.{VersionName}
use Rattle.zr_command.specs.declared.version.VersionName.TheVariants.{Snap, Mark}
use Rattle.zr_command.specs.declared.version.VersionRow.{VersionRow}
use Rattle.zr_listing.specs.Columns.{full_name}
use Rattle.zr_listing.specs.Order.{bare_name}

-- columns in a row, with a tab between each two
abbrev pub with_tabs : List (List ℕ) → List ℕ
with_tabs columns = join_with_byte 9 columns

abbrev pub flag_text : Bool → List ℕ
flag_text true = codes "on"
flag_text false = codes "-"

abbrev pub token_text : Option (List ℕ) → List ℕ
token_text None = codes "-"
token_text (Some token) = token

-- how a row of a listing of datasets is printed
abbrev pub set_line : SetRow → List ℕ
set_line row = with_tabs (row.path ∷ flag_text row.placeholder ∷ token_text row.token ∷ [])

abbrev pub refs_text : VersionName → ℕ → List ℕ
refs_text (Snap name) refs = decimal refs
refs_text (Mark name) refs = codes "-"

-- how a row of a listing of versions is printed
abbrev pub version_line : List ℕ → VersionRow → List ℕ
version_line path row =
    with_tabs (full_name path row.name ∷ decimal row.guid.0 ∷ decimal row.txg ∷ decimal row.creation
    ∷ refs_text row.name row.refs ∷ [])

-- how a hold of the snapshot of this name at this path is printed
abbrev pub hold_line : List ℕ → List ℕ → List ℕ → List ℕ
hold_line path name tag = with_tabs (full_name path (Snap name) ∷ tag ∷ codes "0" ∷ [])

-- with a newline at the end
abbrev pub ended : List ℕ → List ℕ
ended line = line ++ 10 ∷ []

-- bookmarks count no holds, as a listing shows none
abbrev pub MarksAreFree : List VersionRow → Type 0
MarksAreFree rows = All (λ row. is_mark row.name ≡ true → row.refs ≡ 0) rows

-- a row whose names are names, as those of the program are
pub record IsSetRow (row : SetRow) : Type 0 where
  pub path : IsName path_is_bad PATH_LIMIT row.path
  pub token : IfSome row.token (IsName token_is_bad TOKEN_LIMIT)

-- a row whose name is a name and whose numbers are those of 64 bits
pub record IsVersionRow (row : VersionRow) : Type 0 where
  pub name : IsName name_is_bad NAME_LIMIT (bare_name row.name)
  pub guid : row.guid.0 < 2 ^ 64
  pub txg : row.txg < 2 ^ 64
  pub creation : row.creation < 2 ^ 64
  pub refs : row.refs < 2 ^ 64
