use Rattle.std.proofs.Common.{ap, sym, ◌∙◌}
use Rattle.std.specs.Option.{option_copied}
use Rattle.zr_model.proofs.Resumed.{first_is_snap}
use Rattle.zr_model.proofs.piping.first_name.Goals as goal

pub returns-in-Mark : goal.returns-in-Mark
returns-in-Mark c =
    absurd (first_is_snap c.args.pools.now c.args.path.now c.args.guid c.in-Some.version.now c.in-Mark.field-0 (sym c.first_of_guid.ensures ∙ ap option_copied c.in-Some.is) c.in-Mark.is)
