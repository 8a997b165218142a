use Rattle.std.proofs.Common.{◌∙◌, ◌<◌, List, ap, get_or, length, subst, sym}
use Rattle.std.specs.List.{All}
use Rattle.zr_jobset.specs.Units.{IsPlain}
use Rattle.zr_top.proofs.Plain.{plain-at}
use Rattle.zr_jobset.specs.declared.job.Job.{Job}
use Rattle.zr_top.proofs.rules.compile_all.Goals as goal

pub compile_job-requires : goal.compile_job-requires
compile_job-requires c =
    let jobs = c.args.jobs.now.jobs in
    let i = c.loop-job.job-index in
    let job = c.job-item.result in
    let items = c.loop-job.invariant.items in
    let Inside : List Job → Type 0 = λ js. i < length js in
    let is = c.job-item.is ∙ ap (λ (js : List Job). get_or js i job) items in
    subst (All IsPlain) (sym c.as_slice.ensures) (plain-at jobs i job c.requires (subst Inside items c.loop-job-test.true) is)
