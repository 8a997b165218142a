use Rattle.std.proofs.Common.{◌≡◌, ◌≤◌, length, take}
use Rattle.std.specs.List.{All}
use Rattle.std.specs.Prelude.{vec_capacity, vec_len}
use Rattle.zr_top.specs.Due.{FaultsRose, ScansRan}
use Rattle.zr_top.specs.Units.{IsDueUnit}
use Rattle.zr_top.proofs.once.scan_all.Given as goal

-- the scans of the numbers before this one were run, and there is room for what the others find
abbrev pub invariant-loop-number : goal.invariant-loop-number
invariant-loop-number g l = record {
  len : vec_len l.found ≡ l.number-index;
  room : length l.numbers ≤ vec_capacity l.found;
  found : All (All (IsDueUnit l.jobs)) l.found.items;
  ran : ScansRan l.jobs l.moment (take l.number-index l.numbers) (g.Z.Zfs.history l.fn.runner) (g.Z.Zfs.history l.runner) l.fn.tally.totals l.tally.totals l.found.items;
  later : g.Z.Zfs.faults l.fn.runner ≤ g.Z.Zfs.faults l.runner;
  rose : FaultsRose l.fn.tally.totals l.tally.totals (g.Z.Zfs.faults l.fn.runner) (g.Z.Zfs.faults l.runner);
}
