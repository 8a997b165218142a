use Rattle.zr_known.specs.Known.{nothing_known}
use Rattle.zr_known.proofs.Knowing.{known-more}
use Rattle.zr_known.proofs.laws.knowledge_is_told_turn_by_turn.Goals as goal

pub returns-clause-more : goal.returns-clause-more
returns-clause-more c = λ pair turns turn. known-more pair nothing_known turns turn
