-- The grid filter.
use Rattle.std.specs.Prelude.{ℕ, suc, ◌+◌, ◌-◌, Bool, true, false, ◌&&◌, ◌||◌, ◌==◌, nat_lt, nat_le, IsTrue, max, List, [], ◌∷◌, take, drop, filter, fold, count_by, sum_by, replicate, AllPairs}
use Rattle.std.specs.List.{flat_map}
use Rattle.zr_grid.specs.declared.grid.Keep.{Keep}
use Rattle.zr_grid.specs.declared.grid.Keep.TheVariants.{All, Most}
use Rattle.zr_grid.specs.declared.grid.Interval.{Interval}
use Rattle.zr_grid.specs.declared.kept.GridRow.{GridRow}

-- one interval of a grid
pub record Slot : Type 0 where
  pub width : ℕ
  pub keep : Keep

-- the intervals of a grid, one after the other from age 0
abbrev pub slots : List Interval → List Slot
slots intervals = flat_map (λ interval. replicate interval.count (record { width = interval.width; keep = interval.keep })) intervals

-- the age at which a slot begins, which is where the one before it ends
abbrev pub edge : List Slot → ℕ → ℕ
edge all place = sum_by (λ slot. slot.width) (take place all)

-- a slot has its left edge, and not its right edge
abbrev pub lies_in : List Slot → ℕ → ℕ → Bool
lies_in all age place = nat_le (edge all place) age && nat_lt age (edge all (suc place))

-- whether the test passes at some slot, with its place
abbrev pub some_slot : (ℕ → Slot → Bool) → List Slot → Bool
some_slot test [] = false
some_slot test (slot ∷ others) = test 0 slot || some_slot (λ place. test (suc place)) others

-- the greatest creation of a matching row
abbrev pub newest : List GridRow → ℕ
newest rows = fold (λ greatest row. max greatest row.creation) 0 (filter (λ row. row.matches) rows)

-- how much older a row is than the newest matching row, which is of creation top
abbrev pub age_of : ℕ → GridRow → ℕ
age_of top row = top - row.creation

-- greater age, or equal age and smaller txg
abbrev pub is_older : ℕ → GridRow → GridRow → Bool
is_older top other row = nat_lt (age_of top row) (age_of top other) || (age_of top other == age_of top row && nat_lt other.txg row.txg)

-- equal age and equal txg
abbrev pub is_twin : ℕ → GridRow → GridRow → Bool
is_twin top other row = age_of top other == age_of top row && other.txg == row.txg

-- matches and lies in the slot at this place
abbrev pub is_in : List Slot → ℕ → ℕ → GridRow → Bool
is_in all top place row = row.matches && lies_in all (age_of top row) place

-- how many matching rows in a slot are older than row i; of equal rows the earlier in the list is older
abbrev pub older_in : List Slot → ℕ → List GridRow → ℕ → ℕ → GridRow → ℕ
older_in all top rows place i row =
    count_by (λ other. is_in all top place other && (is_older top other row || is_twin top other row)) (take i rows)
    + count_by (λ other. is_in all top place other && is_older top other row) (drop (i + 1) rows)

-- whether a slot keeps a row that has so many older ones in it
abbrev pub has_room : Keep → ℕ → Bool
has_room All older = true
has_room (Most keep) older = nat_lt older keep

-- whether the slots keep row i: it matches, its age lies in a slot, and that slot keeps all or has room
unfoldable pub slots_keep : List Slot → ℕ → List GridRow → ℕ → GridRow → Bool
slots_keep all top rows i row = row.matches && some_slot (λ place slot. lies_in all (age_of top row) place && has_room slot.keep (older_in all top rows place i row)) all

-- whether a grid keeps row i
abbrev pub grid_kept : List Interval → List GridRow → ℕ → GridRow → Bool
grid_kept intervals rows i row = slots_keep (slots intervals) (newest rows) rows i row

-- smaller creation, or equal creation and no greater txg
abbrev pub comes_before : GridRow → GridRow → Bool
comes_before first second = nat_lt first.creation second.creation || (first.creation == second.creation && nat_le first.txg second.txg)

-- rows by creation, and then by txg
abbrev pub IsAscending : List GridRow → Type 0
IsAscending rows = AllPairs (λ first second. IsTrue (comes_before first second)) rows
