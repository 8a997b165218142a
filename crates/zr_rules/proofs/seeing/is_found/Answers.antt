use Rattle.std.proofs.Common.{◌∙◌}
use Rattle.zr_rules.proofs.seeing.is_found.Goals as goal

pub returns-clause-found : goal.returns-clause-found
returns-clause-found c = λ text alike. c.is_match.ensures.found ∙ alike c.args.name.now (λ k. (c.type_inv.name k).fits)
