use Rattle.std.proofs.Common.{◌∙◌, sym}
use Rattle.zr_command.specs.declared.version.VersionName.TheVariants.{Snap}
use Rattle.zr_world.specs.Lookup.{has_name}
use Rattle.zr_world.proofs.Changing.{first_changed-none, first_changed-position}
use Rattle.zr_world.proofs.changes.replace_tags.Goals as goal

pub returns : goal.returns
returns c =
    let first = sym c.in-Some.is ∙ c.snap_place.ensures in
    let changed = first_changed-position (has_name (Snap c.args.name.now)) (λ version. record version { tags = c.args.tags }) c.args.versions.now c.in-Some.place c.index-versions-place.result (sym first) in
    cc

pub returns-in_default : goal.returns-in_default
returns-in_default c =
    let none = sym c.snap_place.ensures ∙ c.in_default.is in
    sym (first_changed-none (has_name (Snap c.args.name.now)) (λ version. record version { tags = c.args.tags }) c.args.versions.now none)
