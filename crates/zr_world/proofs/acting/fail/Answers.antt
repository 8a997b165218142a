use Rattle.zr_world.proofs.Applied.{apply-keeps, apply-leaves, apply-leaves-at}
use Rattle.zr_world.proofs.acting.fail.Goals as goal

pub returns-clause-answer : goal.returns-clause-answer
returns-clause-answer c = λ formed. apply-leaves c.args.pools.now _ c.args.cmd.now c.args.extent c.apply.result c.apply.ensures formed

pub returns-clause-well_formed : goal.returns-clause-well_formed
returns-clause-well_formed c = apply-keeps c.args.pools.now _ c.args.cmd.now c.args.extent c.apply.result c.apply.ensures

pub returns-clause-comes : goal.returns-clause-comes
returns-clause-comes c = apply-leaves-at c.args.pools.now _ c.args.cmd.now c.args.extent c.apply.result c.apply.ensures
