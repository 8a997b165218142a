use Rattle.zr_rules.specs.Keeps.{is_unreplicated}
use Rattle.zr_rules.proofs.Marked.{MarksBefore}
use Rattle.zr_rules.proofs.marking.mark_unreplicated.Given as goal

abbrev pub invariant-loop-i : goal.invariant-loop-i
invariant-loop-i l = MarksBefore (λ i row. is_unreplicated l.at_cursor l.cursor row.txg) l.rows l.i l.fn.marks l.marks
