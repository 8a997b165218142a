use Rattle.zr_jobfile.specs.PushFile.{push_end}
use Rattle.zr_jobfile.proofs.Shapes.{if_none}
use Rattle.zr_jobfile.proofs.push_shape.last_name.Goals as goal

pub returns-in_err-name-clause-missing : goal.returns-in_err-name-clause-missing
returns-in_err-name-clause-missing c =
    if_none c.from_residual.result _ (λ name. c.in_err-name.ensures.missing name push_end)
