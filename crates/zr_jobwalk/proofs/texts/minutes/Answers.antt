use Rattle.std.proofs.Common.{refl}
use Rattle.zr_jobwalk.proofs.NoTexts.{no_minutes}
use Rattle.zr_jobwalk.proofs.texts.minutes.Goals as goal

pub returns-in-Err : goal.returns-in-Err
returns-in-Err c = no_minutes _ _ c.in-Err.field-0 refl c.in-Err.ensures.only
