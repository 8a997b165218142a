use Rattle.std.proofs.Common.{◌≡◌, ℕ, ◌<◌, ◌≤◌, ◌||◌, false, Some, get_or}
use Rattle.std.specs.Prelude.{slice_get}
use Rattle.zr_grid.specs.declared.kept.GridRow.{GridRow}
use Rattle.zr_grid.specs.Kept.{grid_kept}
use Rattle.zr_grid.specs.Sweep.{Sweeps}
use Rattle.zr_grid.proofs.kept.grid_keeps.Given as goal

abbrev pub invariant-loop-i : goal.invariant-loop-i
invariant-loop-i l = record {
  swept : Sweeps l.intervals l.newest l.rows l.i l.place;
  passed : (k : ℕ) (row : GridRow) → slice_get l.rows k ≡ Some row → k < l.i → get_or l.marks k false ≡ (get_or l.fn.marks k false || grid_kept l.fn.spec.intervals l.rows k row);
  ahead : (k : ℕ) → l.i ≤ k → get_or l.marks k false ≡ get_or l.fn.marks k false;
}
