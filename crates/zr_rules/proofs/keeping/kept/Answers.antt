use Rattle.std.proofs.Common.{rules, ◌≡◌, List, sym, subst, ◌∙◌, map}
use Rattle.zr_rules.specs.declared.rule.RuleSpec.{RuleSpec}
use Rattle.zr_rules.specs.Marks.{AlsoMarks}
use Rattle.zr_rules.specs.Rules.{spec_of}
use Rattle.zr_rules.specs.Keeps.{retained}
use Rattle.zr_rules.proofs.RuleMarks.{fresh-marks}
use Rattle.zr_rules.proofs.keeping.kept.Goals as goal

pub returns-clause-marks : goal.returns-clause-marks
returns-clause-marks c =
    let view : c.args.rules.now ≡ map spec_of c.as_slice.result.now = search rules in
    fresh-marks c.args.rows.now c.args.cursor c.args.rules.now c.clear.new.marks c.mark_all.new.marks c.clear.ensures.cleared (c.clear.ensures.as_long ∙ c.requires)
    (subst (λ (specs : List RuleSpec). AlsoMarks (retained specs c.args.rows.now c.args.cursor) c.args.rows.now c.clear.new.marks c.mark_all.new.marks) (sym view) c.in_ok-mark_all.ensures.marked)
