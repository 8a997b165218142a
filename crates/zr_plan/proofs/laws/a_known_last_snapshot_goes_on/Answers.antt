use Rattle.zr_plan.specs.Plan.{plan_of}
use Rattle.zr_plan.proofs.Plans.{with_goes_on}
use Rattle.zr_plan.proofs.laws.a_known_last_snapshot_goes_on.Goals as goal

pub returns : goal.returns
unfolding plan_of
returns c = λ job source target initial last there none is some. rw none (with_goes_on job source target initial last there is some)
