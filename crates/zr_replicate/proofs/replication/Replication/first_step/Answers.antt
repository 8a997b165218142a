use Rattle.std.proofs.Common.{◌∙◌, sym}
use Rattle.zr_replicate.proofs.Advancing.{untouched-transfers}
use Rattle.zr_replicate.proofs.replication.Replication.first_step.Goals as goal

pub unreachable-requires : goal.unreachable-requires
unreachable-requires g c =
    untouched-transfers c.args.pair.now c.args.self.now.known.now c.requires.untouched (sym c.in-Ok-None.ensures ∙ c.in-Ok-None.field-0-is)
