use Rattle.std.proofs.Common.{sym}
use Rattle.zr_model.proofs.Calls.{unread}
use Rattle.zr_model.proofs.serving.read_call.Goals as goal

pub returns-in-Err : goal.returns-in-Err
returns-in-Err c = λ other spelled. unread _ c.in-Err.fault other (sym c.if-is_unspelled.ensures) c.in-Err.ensures spelled
