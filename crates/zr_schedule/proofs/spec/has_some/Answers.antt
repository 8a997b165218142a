use Rattle.zr_schedule.proofs.Sets.{mask_order, none_in_mask}
use Rattle.zr_schedule.proofs.spec.has_some.Goals as goal

pub overflow_sub-result : goal.overflow_sub-result
overflow_sub-result c = mask_order c.args.low c.args.high c.requires.order c.requires.bits

pub returns : goal.returns
returns c = none_in_mask c.args.set c.args.low c.args.high c.requires.order c.requires.bits
