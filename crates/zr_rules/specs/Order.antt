-- Rows from the oldest to the newest, with their places in the list.
use Rattle.std.specs.Prelude.{◌≡◌, ◌≢◌, ℕ, ◌+◌, Bool, true, false, ◌<◌, List, [], ◌∷◌, length, map, slice_get, slice_index_or, Some, IsPermutation}
use Rattle.std.specs.List.Sorted.{IsSortedBy}
use Rattle.std.specs.Ordering.{is_lt, nat_cmp, ordering_then}
use Rattle.std.specs.declared.cmp.Ordering.{Ordering}
use Rattle.zr_grid.specs.declared.kept.GridRow.{GridRow}
use Rattle.zr_rules.specs.declared.rule.RuleRow.{RuleRow}
use Rattle.zr_rules.specs.declared.ordering.Placed.{Placed}

-- the rows with their places, the first of which is this
abbrev pub placed_from : ℕ → List RuleRow → List Placed
placed_from place [] = []
placed_from place (row ∷ rows) = record { creation = row.creation; txg = row.txg; place = place } ∷ placed_from (place + 1) rows

-- by creation, then by txg, then by place
abbrev pub placed_cmp : Placed → Placed → Ordering
placed_cmp a b = ordering_then (nat_cmp a.creation b.creation) (ordering_then (nat_cmp a.txg b.txg) (nat_cmp a.place b.place))

-- the rows of a list from the oldest to the newest
pub record IsOrder (rows : List RuleRow) (order : List Placed) : Type 0 where
  pub same_rows : IsPermutation (placed_from 0 rows) order
  pub in_order : IsSortedBy (λ a b. is_lt (placed_cmp a b)) order

abbrev pub no_row : GridRow
no_row = record { creation = 0; txg = 0; matches = false }

-- the rows of a list at the places of an order
abbrev pub in_places : List GridRow → List Placed → List GridRow
in_places rows order = map (λ one. slice_index_or rows one.place no_row) order

-- Of these rows, those whose flags are set are marked at their places, and no other place is.
pub record MarksPlaces (rows : List Placed) (flags : List Bool) (count : ℕ) (before after : List Bool) : Type 0 where
  pub set : (k : ℕ) (one : Placed) → k < count → slice_get rows k ≡ Some one → slice_index_or flags k false ≡ true → slice_index_or after one.place false ≡ true
  pub others : (i : ℕ) → ((k : ℕ) (one : Placed) → k < count → slice_get rows k ≡ Some one → slice_index_or flags k false ≡ true → one.place ≢ i) → slice_index_or after i false ≡ slice_index_or before i false
  pub as_long : length after ≡ length before
