use Rattle.zr_rules.proofs.RuleMarks.{FirstMark}
use Rattle.zr_rules.proofs.keeping.mark_all.Given as goal

-- the rows that one of the rules so far keeps are marked
abbrev pub invariant-loop-rule : goal.invariant-loop-rule
invariant-loop-rule l = FirstMark l.rows l.cursor l.rules l.rule-index l.fn.marks l.marks
