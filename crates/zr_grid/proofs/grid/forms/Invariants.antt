use Rattle.std.proofs.Common.{◌≡◌, ℕ, suc, ◌<◌, length}
use Rattle.zr_grid.specs.Scan.{grid_at}
use Rattle.zr_grid.proofs.Grids.{with_front}
use Rattle.zr_grid.proofs.grid.forms.Given as goal

abbrev pub invariant-intervals : goal.invariant-intervals
invariant-intervals l = (n : ℕ) × (length l.rest < n) × (with_front l.forms.items (grid_at n l.rest) ≡ grid_at (suc (length l.fn.text)) l.fn.text)

abbrev pub decreases-intervals : goal.decreases-intervals
decreases-intervals l = length l.rest
