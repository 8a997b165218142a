-- What a rule does to the marks of rows.
use Rattle.std.specs.Prelude.{◌≡◌, ℕ, Bool, false, ◌||◌, List, length, slice_get, slice_index_or, Some}

-- the marks of the rows that pass a test are set, and the others are as before
pub record AlsoMarks {Row : Type 0} (test : ℕ → Row → Bool) (rows : List Row) (before after : List Bool) : Type 0 where
  pub marks : (i : ℕ) (row : Row) → slice_get rows i ≡ Some row → slice_index_or after i false ≡ (slice_index_or before i false || test i row)
  pub as_long : length after ≡ length before
