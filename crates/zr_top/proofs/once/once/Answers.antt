use Rattle.std.proofs.Common.{◌≡◌, ◌∙◌, List, length, subst, sym, true, ℕ, Option}
use Rattle.std.proofs.lemmas.List.Elements.{filter_passes}
use Rattle.std.specs.List.{All, range_with_len}
use Rattle.zr_jobset.specs.Units.{is_scanned}
use Rattle.zr_top.specs.Due.{RanDue, ScansRan}
use Rattle.zr_top.proofs.Attempting.{ran-due}
use Rattle.zr_top.proofs.Rising.{rose-from_zeros, rose-then}
use Rattle.zr_top.proofs.once.once.Goals as goal

pub scan_all-requires : goal.scan_all-requires
scan_all-requires g c =
    let jobs = c.args.jobs.now in
    let Due : List ℕ → Type 0 = All (λ number. is_scanned jobs number ≡ true) in
    record { scanned = subst Due (sym (c.as_slice.ensures.value ∙ c.in-Ok.ensures)) (filter_passes (is_scanned jobs) (range_with_len 0 (length jobs.jobs))) }

pub returns-clause-ran : goal.returns-clause-ran
returns-clause-ran g c =
    let told = g.Z.Zfs.history in
    let Ran : Option ℕ → Type 0 = λ moment. RanDue c.args.jobs.now moment (told c.args.runner.now) (told c.run_all.new.runner) c.run_all.new.tally.totals in
    let To : List ℕ → Type 0 = λ numbers. ScansRan c.args.jobs.now c.in-Some.moment numbers (told c.args.runner.now) (told c.scan_all.new.runner) c.new-tally.result.totals c.scan_all.new.tally.totals c.in-Ok-scan_all.found.items in
    let scans = subst To (c.as_slice.ensures.value ∙ c.in-Ok.ensures) c.in-Ok-scan_all.ensures.ran in
    subst Ran (sym c.in-Some.is) (ran-due c.args.jobs.now c.in-Some.moment _ _ _ _ _ _ _ c.new-tally.ensures scans c.run_all.ensures.ran)

pub returns-clause-rose : goal.returns-clause-rose
returns-clause-rose g c =
    let faults = g.Z.Zfs.faults in
    rose-from_zeros c.new-tally.result.totals c.run_all.new.tally.totals _ _ c.new-tally.ensures (rose-then c.new-tally.result.totals c.scan_all.new.tally.totals c.run_all.new.tally.totals _ (faults c.scan_all.new.runner) _ c.scan_all.ensures.later c.run_all.ensures.later c.scan_all.ensures.rose c.run_all.ensures.rose)
