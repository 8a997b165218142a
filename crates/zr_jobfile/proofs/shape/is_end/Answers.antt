use Rattle.zr_jobfile.specs.Trees.{manual_tree, type_end}
use Rattle.zr_jobfile.proofs.shape.is_end.Goals as goal

pub returns-in-None : goal.returns-in-None
returns-in-None c = (
  λ never. cc,
  λ e. absurd (c.in-None.ensures.missing manual_tree (type_end c.args.kind.now) e),
)
