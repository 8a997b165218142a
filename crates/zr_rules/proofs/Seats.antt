-- Rows of a grid with their places in a list, in whatever order they stand.
use Rattle.std.proofs.Common.{◌≡◌, ℕ, ◌<◌, Bool, List, length, get_or, map, AllPairs, IsPermutation}
use Rattle.zr_grid.specs.declared.kept.GridRow.{GridRow}

pub record Seat : Type 0 where
  pub row : GridRow
  pub place : ℕ

abbrev pub row_of : Seat → GridRow
row_of seat = seat.row

-- of two rows that are as old the first has the smaller place
abbrev pub KeepsOrder : Seat → Seat → Type 0
KeepsOrder a b = a.row.creation ≡ b.row.creation → a.row.txg ≡ b.row.txg → a.place < b.place

-- a test of a row in its list that asks not for the order, where rows that are as old keep theirs
abbrev pub IsStable : (List GridRow → ℕ → GridRow → Bool) → Type 0
IsStable test = (xs ys : List Seat) (i k : ℕ) (t : Seat) → IsPermutation xs ys → AllPairs KeepsOrder xs → AllPairs KeepsOrder ys
    → i < length xs → t ≡ get_or xs i t → k < length ys → t ≡ get_or ys k t
    → test (map row_of ys) k t.row ≡ test (map row_of xs) i t.row
