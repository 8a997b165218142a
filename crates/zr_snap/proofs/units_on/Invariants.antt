use Rattle.std.proofs.Common.{◌≡◌, take}
use Rattle.std.specs.List.{flat_map}
use Rattle.zr_jobset.specs.Units.{units_at}
use Rattle.zr_snap.proofs.units_on.Given as goal

-- the units of the paths so far
abbrev pub invariant-loop-path : goal.invariant-loop-path
invariant-loop-path l =
    l.units.items ≡ flat_map (units_at l.jobs l.job l.moment) (take l.path-index l.paths)
