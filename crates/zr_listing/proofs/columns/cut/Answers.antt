use Rattle.std.proofs.Common.{sym, ◌∙◌, rules}
use Rattle.zr_listing.proofs.Cutting.{parted-none, parted-first}
use Rattle.zr_listing.proofs.columns.cut.Goals as goal

pub returns-in_err-place-clause-none : goal.returns-in_err-place-clause-none
returns-in_err-place-clause-none c =
    let none = parted-none c.args.byte c.args.text.now (sym c.place_of.ensures ∙ c.in_err-place.was) in
    search rules

pub returns-clause-some : goal.returns-clause-some
returns-clause-some c =
    parted-first c.args.byte c.args.text.now c.in_ok-place.place (sym c.place_of.ensures ∙ c.in_ok-place.was)
