use Rattle.std.proofs.Common.{arith, rules, subst, List}
use Rattle.std.specs.List.{All}
use Rattle.std.proofs.lemmas.List.Elements.{All-rest}
use Rattle.zr_names.specs.declared.unit.Unit.{Unit}
use Rattle.zr_top.specs.Attempts.{Attempted}
use Rattle.zr_top.specs.Units.{IsDueUnit}
use Rattle.zr_top.proofs.Attempting.{run-joined, run-none}
use Rattle.zr_top.proofs.Rising.{rose-none, rose-then}
use Rattle.zr_top.proofs.once.run_all.Goals as goal

pub loop-units-init : goal.loop-units-init
loop-units-init g c = record {
  left = search rules;
  ran = search (rules, run-none);
  rules = search rules;
  later = omega arith;
  rose = rose-none c.args.tally.now.totals _ _;
}

pub loop-units-preserved : goal.loop-units-preserved
loop-units-preserved g c =
    let inv = c.loop-units.invariant in
    let jobs = c.args.jobs.now in
    let told = g.Z.Zfs.history in
    let is = c.in-Some.ensures.steps.0 in
    let ran = c.run_units.ensures in
    let Ran : List Unit → Type 0 = λ units. Attempted jobs units (told c.loop-units.runner) (told c.run_units.new.runner) c.loop-units.tally.totals c.run_units.new.tally.totals in
    record {
      left = All-rest (All (IsDueUnit jobs)) c.in-Some.units _ _ is inv.left;
      ran = run-joined jobs c.args.found.items _ _ c.in-Some.units _ _ _ _ _ _ inv.ran is (subst Ran c.into_vec.ensures ran.ran);
      rules = search rules;
      later = omega (arith, inv.later, ran.later);
      rose = rose-then c.args.tally.now.totals c.loop-units.tally.totals c.run_units.new.tally.totals _ (g.Z.Zfs.faults c.loop-units.runner) _ inv.later ran.later inv.rose ran.rose;
    }
