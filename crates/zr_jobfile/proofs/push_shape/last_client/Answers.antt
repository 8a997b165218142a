use Rattle.zr_jobfile.specs.PushFile.{local_end}
use Rattle.zr_jobfile.proofs.Shapes.{if_none}
use Rattle.zr_jobfile.proofs.push_shape.last_client.Goals as goal

pub returns-in_err-identity-clause-missing : goal.returns-in_err-identity-clause-missing
returns-in_err-identity-clause-missing c =
    if_none c.from_residual.result _ (λ identity listener. c.in_err-identity.ensures.missing identity (local_end listener))
