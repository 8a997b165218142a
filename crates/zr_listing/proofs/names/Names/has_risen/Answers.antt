use Rattle.std.proofs.Common.{◌∙◌, ap, subst, sym}
use Rattle.zr_listing.specs.Names.{is_among, Rises}
use Rattle.zr_listing.proofs.Rising.{searched}
use Rattle.zr_listing.proofs.names.Names.has_risen.Goals as goal

pub returns : goal.returns
returns c =
    let name = c.args.name.now in
    let rises = subst Rises (sym c.deref.ensures.value) c.args.self.now.ordered in
    c.is_ok.ensures.value
    ∙ searched c.deref.result.now name c.binary_search.result c.binary_search.ensures.position c.binary_search.ensures.bound rises
    ∙ ap (λ names. is_among names name) c.deref.ensures.value
