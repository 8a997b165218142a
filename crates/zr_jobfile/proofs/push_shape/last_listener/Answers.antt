use Rattle.std.proofs.Common.{codes}
use Rattle.zr_jobfile.specs.Trees.{type_end}
use Rattle.zr_jobfile.proofs.Shapes.{if_none}
use Rattle.zr_jobfile.proofs.push_shape.last_listener.Goals as goal

pub returns-in_err-listener-clause-missing : goal.returns-in_err-listener-clause-missing
returns-in_err-listener-clause-missing c =
    if_none c.from_residual.result _ (λ listener. c.in_err-listener.ensures.missing listener (type_end (codes "local")))
