use Rattle.std.proofs.Common.{◌∙◌, None, ap, sym}
use Rattle.std.proofs.Math.ListN.{set}
use Rattle.zr_world.specs.Effect.{with_partial, with_version}
use Rattle.zr_world.specs.Lookup.{is_at}
use Rattle.zr_world.proofs.Changing.{first_changed-none, first_changed-position}
use Rattle.zr_world.proofs.changes.complete_in.Goals as goal

pub returns-clause-ok : goal.returns-clause-ok
returns-clause-ok c =
    let first = sym c.in-Some.is ∙ c.place_of.ensures in
    let changed = first_changed-position (is_at c.args.path.now) (λ set. with_version c.args.version (with_partial None set)) c.args.sets.now c.in-Some.place c.index-sets-place.result (sym first) in
    ap (set c.args.sets.now c.in-Some.place) c.in_ok-complete.ensures.ok ∙ sym changed

pub returns-in_default-clause-ok : goal.returns-in_default-clause-ok
returns-in_default-clause-ok c =
    let none = sym c.place_of.ensures ∙ c.in_default.is in
    sym (first_changed-none (is_at c.args.path.now) (λ set. with_version c.args.version (with_partial None set)) c.args.sets.now none)
