use Rattle.std.proofs.Common.{◌≡◌, ◌∙◌, ap, arith, get_or, rules, subst, sym, ◌+◌, List, ℕ, [], ◌∷◌, ◌++◌, take}
use Rattle.std.specs.List.{All}
use Rattle.std.proofs.lemmas.List.{take_more}
use Rattle.std.proofs.lemmas.List.Elements.{All-append, All-cons, All-nil}
use Rattle.zr_names.specs.declared.unit.Unit.{Unit}
use Rattle.zr_top.specs.Due.{ScansRan}
use Rattle.zr_top.specs.Units.{IsDueUnit}
use Rattle.zr_top.proofs.Attempting.{scanned-more, scanned-none}
use Rattle.zr_top.proofs.Rising.{counted-rose, rose-none, rose-then}
use Rattle.zr_top.proofs.once.scan_all.Goals as goal

pub loop-number-init : goal.loop-number-init
loop-number-init g c =
    let none : c.in_ok-found.found.items ≡ [] = search rules in
    let jobs = c.args.jobs.now in
    let Due : List (List Unit) → Type 0 = All (All (IsDueUnit jobs)) in
    let told = g.Z.Zfs.history c.args.runner.now in
    let Ran : List (List Unit) → Type 0 = λ found. ScansRan jobs c.args.moment [] told told c.args.tally.now.totals c.args.tally.now.totals found in
    record {
      len = search rules;
      room = search rules;
      found = subst Due (sym none) (All-nil (All (IsDueUnit jobs)));
      ran = subst Ran (sym none) (scanned-none jobs c.args.moment told c.args.tally.now.totals);
      later = omega arith;
      rose = rose-none c.args.tally.now.totals _ _;
    }

pub run_scan-outcome-requires : goal.run_scan-outcome-requires
run_scan-outcome-requires g c = c.requires.scanned c.loop-number.number-index 0 c.loop-number-test.true

pub loop-number-preserved : goal.loop-number-preserved
loop-number-preserved g c =
    let inv = c.loop-number.invariant in
    let jobs = c.args.jobs.now in
    let told = g.Z.Zfs.history in
    let faults = g.Z.Zfs.faults in
    let numbers = c.args.numbers.now in
    let place = c.loop-number.number-index in
    let number = get_or numbers place 0 in
    let due = c.requires.scanned place 0 c.loop-number-test.true in
    let more : take (place + 1) numbers ≡ take place numbers ++ number ∷ [] = take_more numbers place 0 c.loop-number-test.true in
    let scan = c.run_scan-outcome.ensures in
    let units = c.run_scan-outcome.result.1.items in
    let old = c.loop-number.found.items in
    let now = c.push_reserved.new.self.items in
    let found_is : now ≡ old ++ units ∷ [] = c.push_reserved.ensures.items ∙ ap (λ us. old ++ us ∷ []) c.from_vec.ensures in
    let Due : List (List Unit) → Type 0 = All (All (IsDueUnit jobs)) in
    let RanTo : List ℕ → List (List Unit) → Type 0 = λ ns found. ScansRan jobs c.args.moment ns (told c.args.runner.now) (told c.run_scan-outcome.new.runner) c.args.tally.now.totals c.count.new.self.totals found in
    let Ran : List (List Unit) → Type 0 = RanTo (take (place + 1) numbers) in
    let To : List ℕ → Type 0 = λ ns. RanTo ns (old ++ units ∷ []) in
    let ran = scanned-more jobs c.args.moment (take place numbers) number _ _ _ _ _ _ _ _ old units due inv.ran scan.ran c.next_run.ensures c.count.ensures in
    record {
      len = search rules;
      room = search rules;
      found = subst Due (sym found_is) (All-append (All (IsDueUnit jobs)) old (units ∷ []) inv.found (All-cons (All (IsDueUnit jobs)) units [] scan.units (All-nil (All (IsDueUnit jobs)))));
      ran = subst Ran (sym found_is) (subst To (sym more) ran);
      later = omega (arith, inv.later, scan.later);
      rose =
          rose-then c.args.tally.now.totals c.loop-number.tally.totals c.count.new.self.totals _ (faults c.loop-number.runner) _ inv.later scan.later inv.rose (counted-rose c.run_scan-outcome.result.0 c.loop-number.tally.totals _ _ _ c.count.ensures scan.fault_rose);
    }
