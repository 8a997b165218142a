-- Grids as lists of intervals, and what `read_grid` answers.
use Rattle.std.specs.Prelude.{◌≡◌, ℕ, ◌<◌, ◌≤◌, ◌⊎◌, ◌↔◌, List, length, All, Any, sum_by, Result, Ok, Err}
use Rattle.zr_grid.specs.declared.grid.Keep.{Keep}
use Rattle.zr_grid.specs.declared.grid.Keep.TheVariants as keeps
use Rattle.zr_grid.specs.declared.grid.Interval.{Interval}
use Rattle.zr_grid.specs.declared.grid.GridSpec.{GridSpec}
use Rattle.zr_grid.specs.declared.grid.GridFault.{GridFault}
use Rattle.zr_grid.specs.declared.grid.GridFault.TheVariants.{BadGrid, GridTooBig, NoMemory}
use Rattle.zr_grid.specs.declared.span.TheConstants.{MAX_SPAN}
use Rattle.zr_grid.specs.declared.grid.TheConstants.{MAX_INTERVALS, MAX_KEEP}
use Rattle.zr_grid.specs.Grammar.{Grid}
use Rattle.zr_grid.specs.Fault.{IsFault}

-- how many snapshots may be kept, where it is not all
abbrev pub KeepsAtMost : ℕ → Keep → Type 0
KeepsAtMost limit keeps.All = Unit {0}
KeepsAtMost limit (keeps.Most n) = n ≤ limit

abbrev pub KeepsAbove : ℕ → Keep → Type 0
KeepsAbove limit keeps.All = ⊥
KeepsAbove limit (keeps.Most n) = limit < n

-- how many intervals there are in all
abbrev pub total : List Interval → ℕ
total intervals = sum_by (λ interval. interval.count) intervals

-- an interval or more, of at least one second each, and no number above its limit
pub record IsInterval (interval : Interval) : Type 0 where
  pub count : 0 < interval.count
  pub width : 0 < interval.width
  pub short : interval.width ≤ MAX_SPAN
  pub keep : KeepsAtMost MAX_KEEP interval.keep

-- a grid that `read_grid` can give
pub record IsGrid (intervals : List Interval) : Type 0 where
  pub some : 0 < length intervals
  pub each : All IsInterval intervals
  pub few : total intervals ≤ MAX_INTERVALS

-- a number is above its limit
abbrev pub IsTooBig : List Interval → Type 0
IsTooBig intervals = (MAX_INTERVALS < total intervals) ⊎ Any (λ interval. (MAX_SPAN < interval.width) ⊎ KeepsAbove MAX_KEEP interval.keep) intervals

-- a grid of some intervals
abbrev pub IsGridText : List ℕ → Type 0
IsGridText text = (intervals : List Interval) × Grid intervals text

-- The answer is the intervals that the text spells, and no others; else a number is above its limit, or the text is no grid. Want of memory may come at any time.
abbrev pub ReadsGrid : List ℕ → Result GridSpec GridFault → Type 0
ReadsGrid text (Ok spec) = IsGrid spec.intervals × ((intervals : List Interval) → (Grid intervals text ↔ (intervals ≡ spec.intervals)))
ReadsGrid text (Err GridTooBig) = IsGridText text × ((intervals : List Interval) → Grid intervals text → IsTooBig intervals)
ReadsGrid text (Err (BadGrid place)) = IsFault IsGridText text place
ReadsGrid text (Err NoMemory) = Unit {0}
