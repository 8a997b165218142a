use Rattle.zr_replicate.proofs.Turning.{stage-on}
use Rattle.zr_replicate.proofs.replication.Replication.bring_up_to_date.Goals as goal

pub returns-clause-stage : goal.returns-clause-stage
returns-clause-stage g c = stage-on _ _ _ _ _ c.in_ok-first_step.ensures.stage c.all_steps-2.ensures.stage
