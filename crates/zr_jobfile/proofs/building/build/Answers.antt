use Rattle.toml.specs.View.{table_view}
use Rattle.zr_jobfile.proofs.Pairs.{builds-push}
use Rattle.zr_jobfile.proofs.building.build.Goals as goal

pub returns-in-Err-NotBuilt : goal.returns-in-Err-NotBuilt
returns-in-Err-NotBuilt c =
    builds-push (table_view c.args.tree.now) c.in-Err-NotBuilt.field-0 c.build_push.result c.in-Err-NotBuilt.field-0-is c.in-Err-NotBuilt.ensures c.build_push.ensures
