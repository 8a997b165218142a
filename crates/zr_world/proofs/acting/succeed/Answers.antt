use Rattle.std.proofs.Common.{Ok}
use Rattle.zr_world.specs.declared.effects.Extent.TheVariants as extent
use Rattle.zr_world.proofs.Applied.{apply-came, apply-done, apply-fits, apply-keeps, apply-leaves, apply-refused}
use Rattle.zr_world.proofs.acting.succeed.Goals as goal

pub returns-in-Ok-clause-answer : goal.returns-in-Ok-clause-answer
returns-in-Ok-clause-answer c = λ formed. apply-done _ _ _ _ c.in-Ok.ensures formed

pub returns-in-Ok-clause-well_formed : goal.returns-in-Ok-clause-well_formed
returns-in-Ok-clause-well_formed c =
    apply-keeps c.args.pools.now _ c.args.cmd.now extent.Whole (Ok c.in-Ok.reply) c.in-Ok.ensures

pub returns-in-Ok-clause-shape : goal.returns-in-Ok-clause-shape
returns-in-Ok-clause-shape c = apply-fits _ _ _ _ c.in-Ok.ensures

pub returns-in-Err-Refused-clause-answer : goal.returns-in-Err-Refused-clause-answer
returns-in-Err-Refused-clause-answer c = λ formed. apply-leaves _ _ _ extent.Whole _ c.in-Err-Refused.ensures formed

pub returns-in-Err-NoMemory-clause-answer : goal.returns-in-Err-NoMemory-clause-answer
returns-in-Err-NoMemory-clause-answer c = λ formed. apply-leaves _ _ _ extent.Whole _ c.in-Err-NoMemory.ensures formed

pub returns-in-Ok-clause-comes : goal.returns-in-Ok-clause-comes
returns-in-Ok-clause-comes c = apply-came c.args.pools.now _ c.args.cmd.now extent.Whole c.in-Ok.reply c.in-Ok.ensures

pub returns-in-Err-Refused-clause-comes : goal.returns-in-Err-Refused-clause-comes
returns-in-Err-Refused-clause-comes c =
    apply-refused c.args.pools.now _ c.args.cmd.now _ _ c.in-Err-Refused.field-0-is c.in-Err-Refused.ensures
