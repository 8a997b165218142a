use Rattle.zr_model.proofs.Ends.{does_nothing}
use Rattle.zr_model.proofs.serving.serve.Goals as goal

pub returns-in-Err-clause-does : goal.returns-in-Err-clause-does
returns-in-Err-clause-does c = does_nothing _ _ _
