use Rattle.std.proofs.Common.{◌∙◌, sym}
use Rattle.zr_world.specs.Reasons.{source_reasons}
use Rattle.zr_world.proofs.Firsts.{refused_first}
use Rattle.zr_world.proofs.reasons.behind_source.Goals as goal

pub returns-in-Some : goal.returns-in-Some
returns-in-Some c = λ more then.
    sym (refused_first (source_reasons c.args.pools.now c.args.transfer.now c.args.transfer.now.base) more c.in-Some.why (sym c.source_refusal.ensures ∙ c.in-Some.is))
