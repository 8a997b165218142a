-- The canonical text of a grid.
use Rattle.std.specs.Prelude.{ℕ, ◌==◌, if◌then◌else◌, List, [], ◌∷◌, ◌++◌, codes}
use Rattle.std.specs.List.{flat_map}
use Rattle.std.specs.Fmt.{decimal}
use Rattle.zr_grid.specs.declared.grid.Keep.{Keep}
use Rattle.zr_grid.specs.declared.grid.Keep.TheVariants.{All, Most}
use Rattle.zr_grid.specs.declared.grid.Interval.{Interval}

-- nothing where one is kept
abbrev pub keep_text : Keep → List ℕ
keep_text All = codes "(keep=all)"
keep_text (Most n) = if n == 1 then [] else codes "(keep=" ++ decimal n ++ codes ")"

-- how many, an x, how many seconds each, and what is kept
abbrev pub interval_text : Interval → List ℕ
interval_text interval = decimal interval.count ++ codes "x" ++ decimal interval.width ++ codes "s" ++ keep_text interval.keep

-- what is printed of each interval after the first
abbrev pub next_text : Interval → List ℕ
next_text interval = codes " | " ++ interval_text interval

-- a bar between any two
abbrev pub grid_text : List Interval → List ℕ
grid_text [] = []
grid_text (interval ∷ others) = interval_text interval ++ flat_map next_text others
