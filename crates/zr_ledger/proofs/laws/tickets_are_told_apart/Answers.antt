use Rattle.zr_ledger.proofs.Telling.{tickets-apart}
use Rattle.zr_ledger.proofs.laws.tickets_are_told_apart.Goals as goal

pub returns : goal.returns
returns c = tickets-apart
