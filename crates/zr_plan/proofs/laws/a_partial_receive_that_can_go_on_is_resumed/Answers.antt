use Rattle.zr_command.specs.Kinds.{newest}
use Rattle.zr_plan.specs.Plan.{plan_of}
use Rattle.zr_plan.proofs.Plans.{partial_resumes}
use Rattle.zr_plan.proofs.laws.a_partial_receive_that_can_go_on_is_resumed.Goals as goal

pub returns : goal.returns
unfolding plan_of
returns c = λ job source target initial partial is can some. rw is (partial_resumes job source (newest target.rows) partial can some)
