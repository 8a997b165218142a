use Rattle.zr_replicate.proofs.Lists.{on-ok}
use Rattle.zr_replicate.proofs.Sent.{has-arrived}
use Rattle.zr_replicate.proofs.replication.Replication.send.Goals as goal

pub returns-clause-known : goal.returns-clause-known
returns-clause-known g c =
    on-ok _ _ c.change.result (λ done. has-arrived c.args.pair.now c.args.transfer c.args.self.now.known.now c.change.new.self.known.now c.requires.may.next done) c.change.ensures.known
