use Rattle.std.proofs.Common.{rules, not}
use Rattle.std.proofs.lemmas.Fn.{filter_same}
use Rattle.zr_command.specs.declared.version.VersionName.TheVariants.{Mark}
use Rattle.zr_known.specs.Known.{is_row_of}
use Rattle.zr_known.proofs.updates.retain_others.Goals as goal

pub returns : goal.returns
returns c =
    filter_same _ (λ row. not (is_row_of (Mark c.args.name.now) row)) _ (λ x b f' h. search rules) _ _ c.retain.ensures.filtered
