use Rattle.std.proofs.Common.{rules}
use Rattle.toml.specs.View.{view}
use Rattle.zr_jobfile.proofs.Shapes.{tells_empty}
use Rattle.zr_jobfile.proofs.push_shape.is_empty.Goals as goal

pub returns-in-Some : goal.returns-in-Some
returns-in-Some c =
    tells_empty (view c.args.value.now) c.in-Some.items.now.items c.is_empty.result (search rules) (search rules)
