use Rattle.std.specs.Prelude.{◌≡◌, ◌≢◌, ℕ, ◌+◌, List, [], ◌∷◌, ◌++◌, AllPairs, Any, length, ⊤}
use Rattle.zr_listing.specs.declared.faults.ListFault.{ListFault}
use Rattle.zr_listing.specs.declared.faults.ListFault.TheVariants as fault
use Rattle.std.specs.List.{AllZip}
use Rattle.zr_listing.specs.Columns.{parted}

-- what stands between newlines: the lines, and after the last newline nothing or a line that has none
abbrev pub lines_of : List ℕ → List (List ℕ)
lines_of bytes = parted 10 bytes

-- no two rows have one name
abbrev pub NamesDiffer : {Row : Type 0} → (Row → List ℕ) → List Row → Type 0
NamesDiffer name rows = AllPairs (λ a b. name a ≢ name b) rows

-- the bytes are lines, each ended by a newline, that spell these rows in this order
pub record Lines {Row : Type 0} (spells : List ℕ → Row → Type 0) (bytes : List ℕ) (rows : List Row) : Type 0 where
  pub lines : List (List ℕ)
  pub ended : lines_of bytes ≡ lines ++ [] ∷ []
  pub each : AllZip spells lines rows

-- the first bad line has this number, counted from 1: the lines before it spell rows of different names, and it has
-- no newline, or each row that it spells has a name that stands before
pub record IsFirstBad {Row : Type 0} (spells : List ℕ → Row → Type 0) (name : Row → List ℕ) (bytes : List ℕ) (number : ℕ) : Type 0 where
  pub earlier : List (List ℕ)
  pub line : List ℕ
  pub later : List (List ℕ)
  pub rows : List Row
  pub cut : lines_of bytes ≡ earlier ++ line ∷ later
  pub counted : number ≡ length earlier + 1
  pub each : AllZip spells earlier rows
  pub differ : NamesDiffer name rows
  pub there : later ≡ [] → line ≢ []
  pub bad : later ≢ [] → (row : Row) → spells line row → Any (λ other. name other ≡ name row) rows

-- what a fault says of the bytes: where memory was refused, nothing
abbrev pub IsBadAt : {Row : Type 0} → (List ℕ → Row → Type 0) → (Row → List ℕ) → List ℕ → ListFault → Type 0
IsBadAt spells name bytes (fault.Garbled number) = IsFirstBad spells name bytes number
IsBadAt spells name bytes fault.NoMemory = ⊤
