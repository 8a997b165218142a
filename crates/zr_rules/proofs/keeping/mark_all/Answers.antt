use Rattle.zr_rules.proofs.RuleMarks.{grid-at, none-mark, one-more, all-mark}
use Rattle.zr_rules.proofs.keeping.mark_all.Goals as goal

pub loop-rule-init : goal.loop-rule-init
loop-rule-init c = none-mark c.args.rows.now c.args.cursor c.args.rules.now c.args.marks.now

pub mark-requires-clause-grid : goal.mark-requires-clause-grid
mark-requires-clause-grid c = grid-at c.args.rules.now c.loop-rule.rule-index c.rule-item.result c.loop-rule-test.true c.rule-item.is c.requires.grids

pub loop-rule-preserved : goal.loop-rule-preserved
loop-rule-preserved c =
    one-more c.args.rows.now c.args.cursor c.args.rules.now c.loop-rule.rule-index c.rule-item.result c.args.marks.now c.loop-rule.marks c.mark.new.marks c.loop-rule-test.true c.rule-item.is c.loop-rule.invariant c.in_ok-mark.ensures.marked

pub returns-clause-marked : goal.returns-clause-marked
returns-clause-marked c = all-mark c.args.rows.now c.args.cursor c.args.rules.now c.loop-rule.rule-index c.args.marks.now c.loop-rule.marks c.loop-rule-test.false c.loop-rule.invariant
