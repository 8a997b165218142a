use Rattle.zr_replicate.proofs.Listed.{listed-sets}
use Rattle.zr_replicate.proofs.Lists.{on-ok}
use Rattle.zr_replicate.proofs.replication.Replication.list_sets.Goals as goal

pub returns-clause-sets : goal.returns-clause-sets
returns-clause-sets g c =
    on-ok _ _ c.give.result (λ told. listed-sets c.args.pair.now c.args.self.now.known.now c.give.new.self.known.now told.reply c.requires.fresh told.shape told.known_is) c.give.ensures.told
