use Rattle.std.specs.Prelude.{◌≡◌, ◌==◌, ◌&&◌, ◌||◌, ℕ, ◌<◌, ◌^◌, Bool, not, slice_index, List, [], ◌∷◌, ◌++◌, Option, Some, None, codes, length, nat_eq}
use Rattle.std.specs.List.{slice_split}
use Rattle.std.specs.Cmp.Lexicographic.{pointwise}
use Rattle.std.specs.Fmt.{decimal}
use Rattle.zr_names.specs.Names.{IsName, path_is_bad, name_is_bad, tag_is_bad, token_is_bad}
use Rattle.zr_names.specs.declared.names.TheConstants.{PATH_LIMIT, NAME_LIMIT, TOKEN_LIMIT}
use Rattle.zr_command.specs.declared.version.SetRow.{SetRow}
use Rattle.zr_command.specs.declared.version.VersionName.{VersionName}
use Rattle.zr_command.specs.declared.version.VersionName.TheVariants.{Snap, Mark}
use Rattle.zr_command.specs.declared.version.VersionRow.{VersionRow}

-- the parts of a text between the places of a byte
abbrev pub parted : ℕ → List ℕ → List (List ℕ)
parted byte text = slice_split (λ b. b == byte) text

-- the columns of a line, parted by one tab
abbrev pub columns : List ℕ → List (List ℕ)
columns line = parted 9 line

-- no sign stands in front, and a zero only alone: what `parse` accepts beyond that is no printed number
abbrev pub has_printed_front : List ℕ → Bool
has_printed_front text =
    not (length text == 0) && not (slice_index text 0 == 43)
    && (not (slice_index text 0 == 48) || (length text == 1))

-- the column spells the path
abbrev pub IsPath : List ℕ → List ℕ → Type 0
IsPath column path = (column ≡ path) × IsName path_is_bad PATH_LIMIT path

-- the column spells a resume token, or `-` none
abbrev pub IsToken : List ℕ → Option (List ℕ) → Type 0
IsToken column None = column ≡ codes "-"
IsToken column (Some token) = (column ≡ token) × IsName token_is_bad TOKEN_LIMIT token

-- a line of a listing of datasets: the path; a column that is not empty, and is `on` where the dataset is a placeholder;
-- the resume token
pub record IsSetLine (line : List ℕ) (row : SetRow) : Type 0 where
  pub path : List ℕ
  pub flag : List ℕ
  pub token : List ℕ
  pub spelled : columns line ≡ path ∷ flag ∷ token ∷ []
  pub is_path : IsPath path row.path
  pub not_empty : 0 < length flag
  pub placeholder : row.placeholder ≡ pointwise nat_eq flag (codes "on")
  pub is_token : IsToken token row.token

-- the text spells the name of a snapshot or a bookmark, without `@` or `#`
abbrev pub IsBareName : List ℕ → List ℕ → Type 0
IsBareName text name = (text ≡ name) × IsName name_is_bad NAME_LIMIT name

-- the text spells what follows the dataset's path in a full name: `@` and a snapshot's name, or `#` and a bookmark's
abbrev pub IsSuffix : List ℕ → VersionName → Type 0
IsSuffix text (Snap name) = (text ≡ 64 ∷ name) × IsName name_is_bad NAME_LIMIT name
IsSuffix text (Mark name) = (text ≡ 35 ∷ name) × IsName name_is_bad NAME_LIMIT name

-- the full name of a version of the dataset at this path
abbrev pub full_name : List ℕ → VersionName → List ℕ
full_name path (Snap name) = path ++ 64 ∷ name
full_name path (Mark name) = path ++ 35 ∷ name

-- the column spells the full name of a version of the dataset at this path
pub record IsVersionName (path : List ℕ) (column : List ℕ) (name : VersionName) : Type 0 where
  pub suffix : List ℕ
  pub full : column ≡ path ++ suffix
  pub is_suffix : IsSuffix suffix name

-- the column spells the number: decimal, without leading zeros
abbrev pub IsNumber : List ℕ → ℕ → Type 0
IsNumber column n = (column ≡ decimal n) × (n < 2 ^ 64)

-- the column spells the number of holds: `-`, which counts as 0, at a bookmark
abbrev pub IsRefs : VersionName → List ℕ → ℕ → Type 0
IsRefs (Snap name) column refs = IsNumber column refs
IsRefs (Mark name) column refs = (column ≡ codes "-") × (refs ≡ 0)

-- a line of a listing of the versions of the dataset at this path: the full name, guid, createtxg, creation, userrefs
pub record IsVersionLine (asked : List ℕ) (line : List ℕ) (row : VersionRow) : Type 0 where
  pub name : List ℕ
  pub guid : List ℕ
  pub txg : List ℕ
  pub creation : List ℕ
  pub refs : List ℕ
  pub spelled : columns line ≡ name ∷ guid ∷ txg ∷ creation ∷ refs ∷ []
  pub is_name : IsVersionName asked name row.name
  pub is_guid : IsNumber guid row.guid.0
  pub is_txg : IsNumber txg row.txg
  pub is_creation : IsNumber creation row.creation
  pub is_refs : IsRefs row.name refs row.refs

-- the column spells the tag of a hold
abbrev pub IsTag : List ℕ → List ℕ → Type 0
IsTag column tag = (column ≡ tag) × IsName tag_is_bad NAME_LIMIT tag

-- a line of a listing of the holds of the snapshot of this name at this path: its full name; the tag; a column that is
-- not empty
pub record IsHoldLine (path name : List ℕ) (line : List ℕ) (tag : List ℕ) : Type 0 where
  pub full : List ℕ
  pub column : List ℕ
  pub date : List ℕ
  pub spelled : columns line ≡ full ∷ column ∷ date ∷ []
  pub is_full : full ≡ full_name path (Snap name)
  pub is_tag : IsTag column tag
  pub not_empty : 0 < length date
