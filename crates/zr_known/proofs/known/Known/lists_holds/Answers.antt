use Rattle.zr_known.proofs.Decisions.{lists-holds}
use Rattle.zr_known.proofs.known.Known.lists_holds.Goals as goal

pub returns : goal.returns
returns c =
    lists-holds c.args.self.now c.args.name.now _ _ _ _ c.as_slice.ensures c.is_among-asked.ensures c.rows.ensures c.lists_known_holds.ensures
