use Rattle.std.proofs.Common.{ℕ, subst, rules}
use Rattle.std.proofs.lemmas.List.{at_drop_all}
use Rattle.zr_names.specs.Tree.{tree, items_tree}
use Rattle.zr_jobwalk.specs.Arrays.{part_name, series}
use Rattle.zr_jobwalk.specs.Faults.{InTable}
use Rattle.zr_jobwalk.specs.Values.{IsTable}
use Rattle.zr_jobwalk.proofs.Parts.{all_read, items_next, one_more, stopped}
use Rattle.zr_jobrules.specs.Patterns.{Asked, asked}
use Rattle.zr_jobrules.specs.Rules.{IsRule, RuleFault}
use Rattle.zr_jobrules.proofs.rules.parts.Goals as goal

pub returns-in-Err-clause-fault : goal.returns-in-Err-clause-fault
returns-in-Err-clause-fault g c = λ other.
    let Told : ℕ → Type 0 = λ before. InTable (RuleFault (asked before (g.P.Patterns.refusals c.rule_at.new.patterns) (g.P.Patterns.refused_last c.rule_at.new.patterns))) (part_name (series c.args.array.now).name c.loop-index.index) (tree c.node-item.result) c.in-Err.fault in
    stopped (IsTable IsRule) (λ (asked : Asked). InTable (RuleFault asked)) _ c.loop-index.index _ _ _ _ _ _ _ c.loop-index.invariant.read
    (items_next _ c.loop-index.index c.node-item.result c.loop-index-test.true c.node-item.is)
    (subst Told c.loop-index.invariant.count (c.in-Err.ensures.fault other))

pub loop-index-preserved : goal.loop-index-preserved
loop-index-preserved g c = record {
  read =
      one_more (IsTable IsRule) (λ (asked : Asked). InTable (RuleFault asked)) _ c.loop-index.index _ _ _ _ c.in-Ok.rule _ _ c.loop-index.invariant.read
      (items_next _ c.loop-index.index c.node-item.result c.loop-index-test.true c.node-item.is)
      c.in-Ok.ensures.rule (search rules);
  count = search rules;
}

pub returns-clause-rules : goal.returns-clause-rules
returns-clause-rules g c =
    all_read (IsTable IsRule) (λ (asked : Asked). InTable (RuleFault asked)) _ c.loop-index.index _ _ _ c.loop-index.invariant.read
    (at_drop_all items_tree _ c.loop-index.index c.loop-index-test.false)
