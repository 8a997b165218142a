use Rattle.std.proofs.Common.{arith, rules}
use Rattle.std.proofs.lemmas.List.Elements.{All-rest}
use Rattle.zr_top.specs.Units.{IsDueUnit}
use Rattle.zr_top.proofs.Attempting.{first-of, run-more, run-none}
use Rattle.zr_top.proofs.Rising.{counted-rose, rose-none, rose-then}
use Rattle.zr_top.proofs.once.run_units.Goals as goal

pub loop-unit-init : goal.loop-unit-init
loop-unit-init g c = record {
  left = search rules;
  ran = search (rules, run-none);
  rules = search rules;
  later = omega arith;
  rose = rose-none c.args.tally.now.totals _ _;
}

pub loop-unit-preserved : goal.loop-unit-preserved
loop-unit-preserved g c =
    let inv = c.loop-unit.invariant in
    let jobs = c.args.jobs.now in
    let faults = g.Z.Zfs.faults in
    let is = c.in-Some.ensures.steps.0 in
    let of_file = first-of jobs c.in-Some.unit _ _ is inv.left in
    let ran = c.run_unit-outcome.ensures in
    record {
      left = All-rest (IsDueUnit jobs) c.in-Some.unit _ _ is inv.left;
      ran = run-more jobs _ _ _ c.in-Some.unit _ _ _ _ _ _ _ _ inv.ran is of_file c.next_run.ensures ran.ran c.count.ensures;
      rules = search rules;
      later = omega (arith, inv.later, ran.later);
      rose =
          rose-then c.args.tally.now.totals c.loop-unit.tally.totals c.count.new.self.totals _ (faults c.loop-unit.runner) _ inv.later ran.later inv.rose (counted-rose c.run_unit-outcome.result c.loop-unit.tally.totals _ _ _ c.count.ensures ran.fault_rose);
    }
