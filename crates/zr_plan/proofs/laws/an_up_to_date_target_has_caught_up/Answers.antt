use Rattle.zr_plan.specs.Plan.{plan_of}
use Rattle.zr_plan.proofs.CaughtUp.{with_caught_up}
use Rattle.zr_plan.proofs.laws.an_up_to_date_target_has_caught_up.Goals as goal

pub returns : goal.returns
unfolding plan_of
returns c = λ job source target initial is. with_caught_up job source target initial target.partial is
