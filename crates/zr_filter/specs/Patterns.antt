-- The texts of entries.
use Rattle.std.specs.Prelude.{◌≡◌, ◌≢◌, ◌==◌, ℕ, ◌-◌, Bool, true, false, if◌then◌else◌, List, [], ◌∷◌, ◌++◌, Option, Some, None, Result, Ok, Err, length, slice_index, take}
use Rattle.zr_names.specs.Names.{IsName, Reads, path_is_bad}
use Rattle.zr_names.specs.declared.names.TheConstants.{PATH_LIMIT}
use Rattle.zr_names.specs.declared.reading.NameFault.{NameFault}
use Rattle.zr_filter.specs.declared.entry.FilterEntry.{FilterEntry}

-- the `<` of a subtree
abbrev pub mark : Bool → List ℕ
mark true = 60 ∷ []
mark false = []

-- how an entry is written, but for its answer: `<` alone, a path, or a path followed by `<`
abbrev pub IsWritten : List ℕ → Option (List ℕ) → Bool → Type 0
IsWritten text None subtree = (subtree ≡ true) × (text ≡ mark true)
IsWritten text (Some path) subtree = IsName path_is_bad PATH_LIMIT path × (text ≡ path ++ mark subtree)

-- the text ends in `<`
abbrev pub ends_in_mark : List ℕ → Bool
ends_in_mark text = slice_index text (length text - 1) == 60

-- the text without a final `<`
abbrev pub stem : List ℕ → List ℕ
stem text = if ends_in_mark text then take (length text - 1) text else text

-- what a pattern reads as: the entry that is written so; else the fault of the path, with its places
abbrev pub ReadsPattern : List ℕ → Bool → Result FilterEntry NameFault → Type 0
ReadsPattern text allow (Ok entry) = IsWritten text entry.path entry.subtree × (entry.allow ≡ allow)
ReadsPattern text allow (Err fault) = (text ≢ mark true) × Reads path_is_bad PATH_LIMIT (stem text) (Err fault)
