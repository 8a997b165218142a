use Rattle.std.proofs.Common.{◌≡◌, ◌≤◌}
use Rattle.std.specs.List.{All}
use Rattle.std.specs.Vec.Iter.{into_iter_items}
use Rattle.zr_top.specs.Due.{FaultsRose, joined, RunUpTo}
use Rattle.zr_top.specs.Units.{IsDueUnit}
use Rattle.zr_top.proofs.once.run_all.Given as goal

-- the units of the scans that are left are due units of these jobs, and the others were run
abbrev pub invariant-loop-units : goal.invariant-loop-units
invariant-loop-units g l = record {
  left : All (All (IsDueUnit l.jobs)) (into_iter_items l.units-iterator);
  ran : RunUpTo l.jobs (joined l.fn.found.items) (joined (into_iter_items l.units-iterator)) (g.Z.Zfs.history l.fn.runner) (g.Z.Zfs.history l.runner) l.fn.tally.totals l.tally.totals;
  rules : l.rules ≡ l.fn.rules;
  later : g.Z.Zfs.faults l.fn.runner ≤ g.Z.Zfs.faults l.runner;
  rose : FaultsRose l.fn.tally.totals l.tally.totals (g.Z.Zfs.faults l.fn.runner) (g.Z.Zfs.faults l.runner);
}
