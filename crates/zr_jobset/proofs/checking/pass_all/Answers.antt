use Rattle.zr_jobset.proofs.Passing.{all_pass}
use Rattle.zr_jobset.proofs.checking.pass_all.Goals as goal

pub returns-clause-accepted : goal.returns-clause-accepted
returns-clause-accepted c = all_pass c.args.names.now c.args.jobs.now c.in_ok-pass-8.ensures.passed
