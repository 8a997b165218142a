use Rattle.zr_schedule.proofs.Sets.{has_with}
use Rattle.zr_schedule.proofs.spec.with.Goals as goal

pub returns : goal.returns
returns c = has_with c.args.set c.args.value c.requires
