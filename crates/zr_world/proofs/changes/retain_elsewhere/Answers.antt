use Rattle.std.proofs.Common.{rules, not}
use Rattle.std.proofs.lemmas.Fn.{filter_same}
use Rattle.zr_world.specs.Lookup.{is_at}
use Rattle.zr_world.proofs.changes.retain_elsewhere.Goals as goal

pub returns : goal.returns
returns c =
    filter_same _ (λ set. not (is_at c.args.path.now set)) _ (λ x b f' h. search rules) _ _ c.retain.ensures.filtered
