use Rattle.zr_known.proofs.Forward.{straight-forward}
use Rattle.zr_known.proofs.laws.a_straight_pair_is_replicated_by_transfers.Goals as goal

pub returns : goal.returns
returns c = straight-forward
