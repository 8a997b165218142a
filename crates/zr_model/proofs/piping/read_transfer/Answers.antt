use Rattle.std.proofs.Common.{map, string_bytes, subst}
use Rattle.zr_cmd.specs.Words.{Spells}
use Rattle.zr_model.proofs.Ends.{unreceived}
use Rattle.zr_model.specs.Piping.{FindsOne}
use Rattle.zr_model.proofs.piping.read_transfer.Goals as goal

pub returns-in-Ok-None : goal.returns-in-Ok-None
returns-in-Ok-None c = λ other gives.
    unreceived _ _ _ other (subst (FindsOne (Spells (map string_bytes c.args.receive.now))) c.in-Ok-None.field-0-is c.in-Ok-None.ensures) gives
