use Rattle.zr_ledger.proofs.Telling.{seats-apart}
use Rattle.zr_ledger.proofs.laws.seats_are_told_apart.Goals as goal

pub returns : goal.returns
returns c = seats-apart
