use Rattle.std.proofs.Common.{◌≡◌, ℕ, ◌∙◌, Bool, not, sym, subst, ap, arith}
use Rattle.std.specs.Prelude.{if◌then◌else◌}
use Rattle.regex.specs.Patterns.{Re}
use Rattle.zr_rules.specs.declared.rule.RuleRow.{RuleRow}
use Rattle.zr_rules.specs.Matching.{finds, FindsAs}
use Rattle.zr_rules.proofs.Marked.{mark-yes, mark-no, mark-all, differs}
use Rattle.zr_rules.proofs.marking.mark_matching.Goals.{then-is_found-negate, else-is_found-negate}
use Rattle.zr_rules.proofs.marking.mark_matching.Goals as goal

pub loop-i-preserved : goal.loop-i-preserved
loop-i-preserved c =
    let row = c.index-rows-i.result in
    let test : ℕ → RuleRow → Bool = λ i row. if c.args.negate then not (finds c.args.pattern.now row.name) else finds c.args.pattern.now row.name in
    let found : c.is_found.result ≡ finds c.args.pattern.now row.name = c.is_found.ensures.found c.args.pattern.now c.loop-i.invariant.searches ∙ ap (finds c.args.pattern.now) c.text_of.ensures in
    let tested = sym (ap (λ (b : Bool). if c.args.negate then not b else b) found) ∙ sym (differs c.is_found.result c.args.negate) in
    record {
      searches = subst (λ (re : Re). FindsAs re c.args.pattern.now) (sym c.is_found.ensures.same) c.loop-i.invariant.searches;
      marked = elim c.if-is_found-negate.branch [
        | then-is_found-negate w ↦ rw w.marks-is (mark-yes test c.args.rows.now c.loop-i.i row c.loop-i-test.true c.index-rows-i.is c.args.marks.now c.loop-i.marks
            (omega (arith, c.loop-i-test.true, c.loop-i.auto.marks, c.requires)) (tested ∙ w.if-is_found-negate.true) c.loop-i.invariant.marked)
        | else-is_found-negate w ↦ rw w.marks-is (mark-no test c.args.rows.now c.loop-i.i row c.loop-i-test.true c.index-rows-i.is c.args.marks.now c.loop-i.marks (tested ∙ w.if-is_found-negate.false) c.loop-i.invariant.marked)
      ];
    }

pub returns-clause-marked : goal.returns-clause-marked
returns-clause-marked c =
    mark-all (λ i row. if c.args.negate then not (finds c.args.pattern.now row.name) else finds c.args.pattern.now row.name) c.args.rows.now c.loop-i.i c.args.marks.now c.loop-i.marks c.loop-i-test.false c.loop-i.invariant.marked
