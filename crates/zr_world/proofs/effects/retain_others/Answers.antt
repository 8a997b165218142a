use Rattle.std.proofs.Common.{rules, not}
use Rattle.std.proofs.lemmas.Fn.{filter_same}
use Rattle.zr_names.specs.Marks.{tag_text}
use Rattle.zr_command.specs.Names.{same_text}
use Rattle.zr_world.proofs.effects.retain_others.Goals as goal

pub returns : goal.returns
returns c =
    filter_same _ (λ tag. not (same_text tag (tag_text c.args.kind c.args.job.now))) _ (λ x b f' h. search rules) _ _ c.retain.ensures.filtered
