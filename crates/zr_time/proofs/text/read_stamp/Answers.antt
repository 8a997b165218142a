use Rattle.zr_time.proofs.Moments.{no_stamp, stamp_of_civil}
use Rattle.zr_time.proofs.text.read_stamp.Goals as goal

pub returns-in-Some : goal.returns-in-Some
returns-in-Some c = stamp_of_civil c.args.text.now c.in-Some.civil c.moment_of.result c.ok_or.result (record {}) c.in-Some.ensures c.moment_of.ensures c.ok_or.ensures.value

pub returns-in-None : goal.returns-in-None
returns-in-None c = no_stamp c.args.text.now c.in-None.ensures
