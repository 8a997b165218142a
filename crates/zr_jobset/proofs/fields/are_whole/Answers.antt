use Rattle.std.proofs.Common.{refl}
use Rattle.zr_rules.proofs.Taken.{All-more, All-whole}
use Rattle.zr_jobset.specs.Fields.{IsWhole}
use Rattle.zr_jobset.proofs.fields.are_whole.Goals as goal

pub loop-job-preserved : goal.loop-job-preserved
loop-job-preserved c =
    All-more IsWhole c.args.jobs.now c.loop-job.job-index c.job-item.result c.loop-job-test.true c.job-item.is c.loop-job.invariant (c.is_whole.ensures.0 c.if-not-is_whole.false)

pub returns : goal.returns
returns c = (λ _. All-whole IsWhole c.args.jobs.now c.loop-job.job-index c.loop-job-test.false c.loop-job.invariant, λ _. refl)
