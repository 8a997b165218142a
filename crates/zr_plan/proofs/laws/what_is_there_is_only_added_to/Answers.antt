use Rattle.zr_plan.specs.Plan.{plan_of}
use Rattle.zr_plan.proofs.Increments.{with_increments}
use Rattle.zr_plan.proofs.laws.what_is_there_is_only_added_to.Goals as goal

pub returns : goal.returns
unfolding plan_of
returns c = λ job source target initial steps isnt is. with_increments job source target initial steps target.partial isnt is
