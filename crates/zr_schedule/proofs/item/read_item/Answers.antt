use Rattle.zr_schedule.proofs.Faults.{item_given, fault_given, stop_within}
use Rattle.zr_schedule.proofs.item.read_item.Goals as goal

pub returns-in-Ok : goal.returns-in-Ok
returns-in-Ok c = item_given c.args.limits c.args.text.now c.in-Ok.item c.in-Ok.ensures

pub returns-in-Err : goal.returns-in-Err
returns-in-Err c = fault_given c.args.limits c.args.text.now c.in-Err.stop c.in-Err.ensures

pub overflow_sub-result : goal.overflow_sub-result
overflow_sub-result c = stop_within c.args.limits c.args.text.now c.in-Err.stop c.in-Err.ensures
