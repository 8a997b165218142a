use Rattle.zr_rules.specs.Order.{MarksPlaces}
use Rattle.zr_rules.proofs.ordering.mark_places.Given as goal

abbrev pub invariant-loop-k : goal.invariant-loop-k
invariant-loop-k l = MarksPlaces l.order l.flags l.k l.fn.marks l.marks
