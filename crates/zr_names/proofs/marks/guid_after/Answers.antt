use Rattle.zr_names.proofs.Parts.{behind_front}
use Rattle.zr_names.proofs.marks.guid_after.Goals as goal

pub returns-in-Some : goal.returns-in-Some
returns-in-Some c = behind_front c.args.name.now c.args.front.now c.in-Some.rest.now c.args.job.now c.guid_before.result c.in-Some.ensures c.guid_before.ensures
