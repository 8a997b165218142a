use Rattle.std.proofs.Common.{rules, subst}
use Rattle.zr_permit.specs.Runs.{Ran}
use Rattle.zr_permit.proofs.Running.{ran-begun}
use Rattle.zr_top.proofs.running.run_unit.Goals as goal

pub returns-in-Ok-clause-ran : goal.returns-in-Ok-clause-ran
returns-in-Ok-clause-ran g c =
    let told = g.Z.Zfs.history in
    let begin = c.in-Ok.ensures in
    let ran = ran-begun c.args.jobs.now c.args.unit c.args.run (told c.args.runner.now) _ _ _ begin.jobs begin.unit begin.told begin.begun c.transcript-legal.ensures.legal c.work-outcome.ensures.ended in
    let at : g.row.Z.Denot → Type 0 = λ z. Ran c.args.jobs.now c.args.unit c.args.run (told c.args.runner.now) (told z) c.work-outcome.result in
    subst at (search rules) ran
