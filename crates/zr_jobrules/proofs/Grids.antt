-- What is read as a grid is spelled by its text, and what is not read is none.
use Rattle.std.proofs.Common.{◌≢◌, ◌<◌, ℕ, List, Ok, Err, refl, arith, subst, ◌⊎◌, inl, inr}
use Rattle.zr_grid.specs.Grid.{IsGrid, IsInterval, IsTooBig, KeepsAbove, KeepsAtMost, ReadsGrid}
use Rattle.zr_grid.specs.declared.grid.GridFault.{GridFault}
use Rattle.zr_grid.specs.declared.grid.GridFault.TheVariants.{BadGrid, GridTooBig, NoMemory}
use Rattle.zr_grid.specs.declared.grid.GridSpec.{GridSpec}
use Rattle.zr_grid.specs.declared.grid.Interval.{Interval}
use Rattle.zr_grid.specs.declared.grid.Keep.{Keep}
use Rattle.zr_grid.specs.declared.grid.Keep.TheVariants.{All, Most}
use Rattle.zr_grid.specs.declared.grid.TheConstants.{MAX_KEEP}
use Rattle.zr_grid.specs.declared.span.TheConstants.{MAX_SPAN}
use Rattle.zr_jobrules.specs.Rules.{SpellsGrid}

pub grid_is : (text : List ℕ) (grid : GridSpec) → ReadsGrid text (Ok grid) → SpellsGrid text grid
grid_is text grid read = ((read.1 grid.intervals).1 refl, read.0)

keeps : (keep : Keep) → KeepsAtMost MAX_KEEP keep → ¬ KeepsAbove MAX_KEEP keep
keeps All most above = above
keeps (Most n) most above = omega (arith, most, above)

is_big : (interval : Interval) → IsInterval interval → ¬ ((MAX_SPAN < interval.width) ⊎ KeepsAbove MAX_KEEP interval.keep)
is_big interval good (inl wide) = omega (arith, wide, good.short)
is_big interval good (inr above) = keeps interval.keep good.keep above

too_big : (intervals : List Interval) → IsGrid intervals → ¬ IsTooBig intervals
too_big intervals good (inl many) = omega (arith, many, good.few)
too_big intervals good (inr any) =
    is_big any.1 (subst IsInterval any.3 (good.each any.0 any.1 any.2)) any.4

pub no_grid : (text : List ℕ) (fault : GridFault) → ReadsGrid text (Err fault) → fault ≢ NoMemory → (grid : GridSpec) → ¬ SpellsGrid text grid
no_grid text GridTooBig refused other grid is = too_big grid.intervals is.1 (refused.1 grid.intervals is.0)
no_grid text (BadGrid place) refused other grid is = refused.bad (grid.intervals, is.0)
no_grid text NoMemory refused other grid is = other refl
