use Rattle.std.proofs.Common.{◌≡◌, ◌∙◌, sym}
use Rattle.zr_jobwalk.proofs.Strangers.{no_least}
use Rattle.zr_jobwalk.proofs.table.Table.has_only.Goals as goal

pub returns-in-None-clause-known : goal.returns-in-None-clause-known
returns-in-None-clause-known c = no_least _ c.in-None.ensures
