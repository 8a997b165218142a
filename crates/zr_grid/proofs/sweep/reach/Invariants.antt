use Rattle.std.proofs.Common.{◌≡◌, ◌+◌, ◌<◌, ◌≤◌, length, take}
use Rattle.zr_grid.specs.Sweep.{span_of}
use Rattle.zr_grid.proofs.sweep.reach.Given as goal

abbrev pub invariant-loop-reached : goal.invariant-loop-reached
invariant-loop-reached l = record {
  inside : l.reached.younger ≤ length l.intervals;
  starts : l.reached.start ≡ span_of (take l.reached.younger l.intervals);
  below : l.age < span_of (take (l.reached.younger + 1) l.intervals);
}

abbrev pub decreases-loop-reached : goal.decreases-loop-reached
decreases-loop-reached l = l.reached.younger
