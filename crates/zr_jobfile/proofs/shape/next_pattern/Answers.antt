use Rattle.zr_jobfile.specs.Trees.{filter_tree}
use Rattle.zr_jobfile.proofs.shape.next_pattern.Goals as goal

pub returns-in-None-clause-missing : goal.returns-in-None-clause-missing
returns-in-None-clause-missing c = λ pattern rest e. c.in-None.ensures.missing (filter_tree pattern) rest e
