use Rattle.std.proofs.Common.{rules, not}
use Rattle.std.proofs.lemmas.Fn.{filter_same}
use Rattle.zr_world.specs.Lookup.{has_name}
use Rattle.zr_world.proofs.changes.retain_others.Goals as goal

pub returns : goal.returns
returns c =
    filter_same _ (λ v. not (has_name c.args.name.now v)) _ (λ x b f' h. search rules) _ _ c.retain.ensures.filtered
