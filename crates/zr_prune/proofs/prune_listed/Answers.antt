use Rattle.std.proofs.Common.{◌∙◌}
use Rattle.zr_prune.proofs.Steps.{pruning-begun}
use Rattle.zr_prune.proofs.prune_listed.Goals as goal

pub destroy_all-requires-clause-pruning : goal.destroy_all-requires-clause-pruning
destroy_all-requires-clause-pruning g c =
    pruning-begun _ _ c.args.path.now _ _ c.requires.own c.requires.listed (c.as_slice.ensures.value ∙ c.in-Ok.ensures.doomed)
