use Rattle.zr_snap.proofs.Ends.{scanned-ended}
use Rattle.zr_snap.proofs.scan_done.Goals as goal

pub returns-in-Ok-clause-ended : goal.returns-in-Ok-clause-ended
returns-in-Ok-clause-ended g c = scanned-ended _ _ c.in-Ok.ensures.result c.in-Ok.ensures.no_fault c.in-Ok.ensures.memory
