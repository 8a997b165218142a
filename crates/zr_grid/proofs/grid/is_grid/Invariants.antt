use Rattle.std.proofs.Common.{◌≡◌, ◌≤◌, take}
use Rattle.std.specs.Prelude.{All}
use Rattle.zr_grid.specs.Grid.{IsInterval, total}
use Rattle.zr_grid.proofs.grid.is_grid.Given as goal

abbrev pub invariant-loop-interval : goal.invariant-loop-interval
invariant-loop-interval l = record {
  counted : l.total ≡ total (take l.interval-index l.intervals);
  few : l.total ≤ 100000;
  each : All IsInterval (take l.interval-index l.intervals);
}
