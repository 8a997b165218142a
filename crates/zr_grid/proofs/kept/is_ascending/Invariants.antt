use Rattle.std.proofs.Common.{◌≡◌, ℕ, ◌<◌, true, get_or}
use Rattle.zr_grid.specs.declared.kept.GridRow.{GridRow}
use Rattle.zr_grid.specs.Kept.{comes_before}
use Rattle.zr_grid.proofs.kept.is_ascending.Given as goal

abbrev pub invariant-loop-i : goal.invariant-loop-i
invariant-loop-i l = (a b : ℕ) (d : GridRow) → a < b → b < l.i → comes_before (get_or l.rows a d) (get_or l.rows b d) ≡ true
