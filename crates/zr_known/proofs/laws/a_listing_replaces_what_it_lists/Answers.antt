use Rattle.zr_known.proofs.Knowing.{other-listed, source-listed, target-listed}
use Rattle.zr_known.proofs.laws.a_listing_replaces_what_it_lists.Goals as goal

pub returns-clause-source : goal.returns-clause-source
returns-clause-source c = source-listed

pub returns-clause-target : goal.returns-clause-target
returns-clause-target c = target-listed

pub returns-clause-other : goal.returns-clause-other
returns-clause-other c = other-listed
