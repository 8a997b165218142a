use Rattle.zr_listing.proofs.Rows.{ReadsOr-suffix}
use Rattle.zr_listing.proofs.versions.name_of.Goals as goal

pub returns : goal.returns
returns c = ReadsOr-suffix c.args.path.now c.args.column.now c.in-Some.suffix.now c.suffix_of.result c.in-Some.ensures.some c.suffix_of.ensures
