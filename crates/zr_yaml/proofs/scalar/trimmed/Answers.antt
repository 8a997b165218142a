use Rattle.std.proofs.Common.{arith, sym, ◌∙◌}
use Rattle.zr_yaml.proofs.Trimmed.{blank_before, nothing_before, other_before}
use Rattle.zr_yaml.proofs.scalar.trimmed.Goals as goal
use Rattle.zr_yaml.proofs.scalar.trimmed.Goals.{then-loop-end-test+else-text-end-eq32, else-loop-end-test}

pub loop-end-preserved : goal.loop-end-preserved
loop-end-preserved c = record {
  same = blank_before c.args.text.now c.loop-end.end c.loop-end-test.true c.loop-end.invariant.within
      c.if-text-end-eq32.true ∙ c.loop-end.invariant.same;
  within = omega arith;
}

pub returns-clause-front : goal.returns-clause-front
returns-clause-front c =
    elim c.loop-end-test.branch [
      | then-loop-end-test+else-text-end-eq32 w ↦ sym
          (other_before c.args.text.now c.loop-end.end w.loop-end-test.true c.loop-end.invariant.within
          w.if-text-end-eq32.false) ∙ c.loop-end.invariant.same
      | else-loop-end-test w ↦ sym (nothing_before c.args.text.now c.loop-end.end w.loop-end-test.false)
          ∙ c.loop-end.invariant.same
    ]
