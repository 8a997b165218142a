use Rattle.std.proofs.Common.{◌≡◌, take}
use Rattle.std.specs.List.{filter}
use Rattle.zr_jobset.specs.Units.{fits_in, matched}
use Rattle.zr_snap.proofs.fitting_paths.Given as goal

-- the paths of the rows so far
abbrev pub invariant-loop-row : goal.invariant-loop-row
invariant-loop-row l =
    l.paths.items ≡ filter (fits_in l.jobs l.job) (matched l.jobs l.job (take l.row-index l.rows))
