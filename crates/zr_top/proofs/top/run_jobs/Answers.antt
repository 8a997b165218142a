use Rattle.std.proofs.Common.{◌∙◌, inl, inr, refl}
use Rattle.zr_top.proofs.Recording.{idle-no-memory, line-printed, no-line, ran-jobs}
use Rattle.zr_top.proofs.top.run_jobs.Goals as goal

pub returns-in-Ok-totals_line-clause-ran : goal.returns-in-Ok-totals_line-clause-ran
returns-in-Ok-totals_line-clause-ran g c = λ file.
    let line = line-printed c.in-Ok.totals _ _ _ _ _ c.of.ensures.of (c.as_str.ensures.value ∙ c.in-Ok-totals_line.ensures) c.print.ensures.printed c.print.ensures.memory_first c.print.ensures.wrote c.print.ensures.front c.print.ensures.whole in
    inr (ran-jobs c.args.jobs.now _ _ _ c.in-Ok.totals _ c.in-Ok.ensures.first c.in-Ok.ensures.rose line)

pub returns-in-Err-clause-ran : goal.returns-in-Err-clause-ran
returns-in-Err-clause-ran g c = λ file.
    inr (ran-jobs c.args.jobs.now _ _ _ c.in-Ok.totals _ c.in-Ok.ensures.first c.in-Ok.ensures.rose (no-line c.in-Ok.totals _ _ refl))

pub returns-in_default-clause-ran : goal.returns-in_default-clause-ran
returns-in_default-clause-ran g c = λ file. inl (idle-no-memory file _ _ c.in_default.ensures.first refl)
