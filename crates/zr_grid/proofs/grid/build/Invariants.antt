use Rattle.std.proofs.Common.{◌≡◌, ◌≤◌, ◌++◌, drop}
use Rattle.std.specs.Option.{option_map}
use Rattle.zr_grid.specs.Build.{build_at}
use Rattle.zr_grid.proofs.grid.build.Given as goal

abbrev pub invariant-loop-form : goal.invariant-loop-form
invariant-loop-form l = record {
  same : option_map (λ others. l.intervals.items ++ others) (build_at l.total (drop l.form-index l.forms)) ≡ build_at 0 l.fn.forms;
  few : l.total ≤ 100000;
}
