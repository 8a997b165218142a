use Rattle.zr_replicate.proofs.Lists.{on-ok}
use Rattle.zr_replicate.proofs.Marking.{held-safe}
use Rattle.zr_replicate.proofs.replication.Replication.hold_missing_last.Goals as goal

pub returns-else-is_last_held-clause-safe : goal.returns-else-is_last_held-clause-safe
returns-else-is_last_held-clause-safe g c =
    on-ok _ _ c.hold_last.result (held-safe c.args.pair.now c.args.self.now.known.now c.hold_last.new.self.known.now c.args.newest.now c.requires.may) c.hold_last.ensures.known
