use Rattle.zr_schedule.proofs.Days.{never_joined}
use Rattle.zr_schedule.proofs.spec.may_match.Goals as goal

pub returns : goal.returns
returns c = never_joined c.args.spec.now c.args.length c.joined.result c.has_some.result c.has_some-2.result c.joined.ensures c.has_some.ensures c.has_some-2.ensures
