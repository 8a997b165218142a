use Rattle.std.proofs.Common.{◌∷◌, ◌∙◌, sym}
use Rattle.std.proofs.lemmas.List.{append_cancel_left}
use Rattle.zr_listing.proofs.holds.is_asked.Goals as goal

pub returns-in-Some-clause-no : goal.returns-in-Some-clause-no
returns-in-Some-clause-no c = λ other full.
    c.is_at_snap.ensures.no other
    (append_cancel_left c.args.path.now c.in-Some.suffix.now (64 ∷ c.args.snap.now) (sym c.in-Some.ensures.some ∙ full))
