use Rattle.zr_pipe.proofs.RelayLemmas.{relayed_none}
use Rattle.zr_pipe.proofs.pieces.relay.Goals as goal

pub returns-in-Err-clause-relayed : goal.returns-in-Err-clause-relayed
returns-in-Err-clause-relayed g c = relayed_none _ _
