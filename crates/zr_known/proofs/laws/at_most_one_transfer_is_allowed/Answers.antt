use Rattle.zr_known.proofs.Knowing.{one-transfer}
use Rattle.zr_known.proofs.laws.at_most_one_transfer_is_allowed.Goals as goal

pub returns : goal.returns
returns c = one-transfer
