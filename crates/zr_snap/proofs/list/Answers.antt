use Rattle.zr_snap.proofs.Ends.{scan-allowed}
use Rattle.zr_snap.proofs.list.Goals as goal

pub run-requires-clause-allowed : goal.run-requires-clause-allowed
run-requires-clause-allowed g c = scan-allowed _ _ _ c.requires.begun.no_turns c.requires.kind
