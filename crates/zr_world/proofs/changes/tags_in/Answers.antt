use Rattle.std.proofs.Common.{◌∙◌, sym}
use Rattle.zr_command.specs.declared.version.VersionName.TheVariants.{Snap}
use Rattle.zr_world.specs.Effect.{with_tags}
use Rattle.zr_world.specs.Lookup.{is_at}
use Rattle.zr_world.proofs.Changing.{first_changed-none, first_changed-position}
use Rattle.zr_world.proofs.changes.tags_in.Goals as goal

pub returns : goal.returns
returns c =
    let first = sym c.in-Some.is ∙ c.place_of.ensures in
    let changed = first_changed-position (is_at c.args.path.now) (with_tags (Snap c.args.name.now) c.args.tags) c.args.sets.now c.in-Some.place c.index-sets-place.result (sym first) in
    cc

pub returns-in_default : goal.returns-in_default
returns-in_default c =
    let none = sym c.place_of.ensures ∙ c.in_default.is in
    sym (first_changed-none (is_at c.args.path.now) (with_tags (Snap c.args.name.now) c.args.tags) c.args.sets.now none)
