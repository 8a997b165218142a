use Rattle.std.proofs.Common.{◌++◌, ap, sym, ◌∙◌}
use Rattle.zr_listing.proofs.token.read_guid.Goals as goal

pub returns-in-None-clause-none : goal.returns-in-None-clause-none
returns-in-None-clause-none c = λ guid is.
    c.in-None.ensures.none is.digits (is.spelled ∙ ap (λ k. k ++ is.digits) (sym c.as_slice.ensures))
