use Rattle.std.proofs.Common.{◌≡◌, take}
use Rattle.zr_grid.specs.Sweep.{span_of}
use Rattle.zr_grid.proofs.sweep.far_end.Given as goal

abbrev pub invariant-loop-interval : goal.invariant-loop-interval
invariant-loop-interval l = l.end ≡ span_of (take l.interval-index l.intervals)
