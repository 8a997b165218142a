use Rattle.zr_jobset.proofs.OfFile.{unit-answer, unit-answer-none}
use Rattle.zr_jobset.proofs.set.JobSet.has_unit.Goals as goal

pub returns-then-is_scanned : goal.returns-then-is_scanned
returns-then-is_scanned c = unit-answer c.args.self.now c.args.unit.now c.is_scanned.result c.gives.result c.is_scanned.ensures c.if-is_scanned.true c.gives.ensures

pub returns-else-is_scanned : goal.returns-else-is_scanned
returns-else-is_scanned c = unit-answer-none c.args.self.now c.args.unit.now c.is_scanned.result c.is_scanned.ensures c.if-is_scanned.false
