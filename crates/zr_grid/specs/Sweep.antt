-- Where a sweep over rows stands in a grid. It comes from the far end, with the oldest rows.
use Rattle.std.specs.Prelude.{◌≡◌, ℕ, suc, ◌+◌, ◌*◌, ◌<◌, ◌≤◌, ◌⊎◌, true, List, length, take, sum_by, count_by, slice_get, slice_index_or, Some}
use Rattle.zr_grid.specs.declared.grid.Keep.{Keep}
use Rattle.zr_grid.specs.declared.grid.Keep.TheVariants.{Most}
use Rattle.zr_grid.specs.declared.grid.Interval.{Interval}
use Rattle.zr_grid.specs.declared.kept.GridRow.{GridRow}
use Rattle.zr_grid.specs.declared.sweep.Reached.{Reached}
use Rattle.zr_grid.specs.declared.sweep.Place.{Place}
use Rattle.zr_grid.specs.Kept.{Slot, slots, edge, lies_in, age_of, is_in}

-- the seconds of intervals, one after the other
abbrev pub span_of : List Interval → ℕ
span_of intervals = sum_by (λ interval. interval.count * interval.width) intervals

-- past the last slot nothing is kept
abbrev pub no_slot : Slot
no_slot = record { width = 0; keep = Most 0 }

-- what the slot of this number keeps
abbrev pub keep_at : List Slot → ℕ → Keep
keep_at all slot = (slice_index_or all slot no_slot).keep

-- an interval, or what comes behind the last one, with the age at which it begins
pub record IsReached (intervals : List Interval) (reached : Reached) : Type 0 where
  pub inside : reached.younger ≤ length intervals
  pub starts : reached.start ≡ span_of (take reached.younger intervals)

-- an interval in which this age lies
pub record Holds (intervals : List Interval) (age : ℕ) (reached : Reached) : Type 0 where
  pub inside : reached.younger < length intervals
  pub starts : reached.start ≡ span_of (take reached.younger intervals)
  pub begun : reached.start ≤ age
  pub below : age < span_of (take (reached.younger + 1) intervals)

-- a sweep stands in the slot of this number, which has the left edge and the keep of its place
pub record IsAt (intervals : List Interval) (slot : ℕ) (place : Place) : Type 0 where
  pub reached : IsReached intervals place.reached
  pub within : place.begin ≤ span_of (take (place.reached.younger + 1) intervals)
  pub begins : place.begin ≡ edge (slots intervals) slot
  pub keeps : place.keep ≡ keep_at (slots intervals) slot

-- a sweep has come to the slot in which this age lies
pub record Enters (intervals : List Interval) (age : ℕ) (place : Place) : Type 0 where
  pub slot : ℕ
  pub stands : IsAt intervals slot place
  pub inside : lies_in (slots intervals) age slot ≡ true
  pub none : place.older ≡ 0

-- a sweep stays where it stands for the ages from the slot's left edge on, and else comes to another slot
abbrev pub Moves : List Interval → Place → ℕ → Place → Type 0
Moves intervals before age after = ((before.begin ≤ age) × (after ≡ before)) ⊎ ((age < before.begin) × Enters intervals age after)

-- A sweep has gone over the first rows of a list. It stands in a slot, or beyond the grid, and has counted the rows that
-- lie there. No row behind it is younger than the slot, and no row to come is older.
pub record Sweeps (intervals : List Interval) (top : ℕ) (rows : List GridRow) (gone : ℕ) (place : Place) : Type 0 where
  pub slot : ℕ
  pub stands : IsAt intervals slot place
  pub counted : slot < length (slots intervals) → place.older ≡ count_by (is_in (slots intervals) top slot) (take gone rows)
  pub few : place.older ≤ gone
  pub behind : (j : ℕ) (row : GridRow) → slice_get rows j ≡ Some row → j < gone → row.matches ≡ true → place.begin ≤ age_of top row
  pub ahead : (j : ℕ) (row : GridRow) → slice_get rows j ≡ Some row → gone ≤ j → row.matches ≡ true → slot < length (slots intervals) → age_of top row < edge (slots intervals) (suc slot)
