use Rattle.std.proofs.Common.{◌≡◌, drop}
use Rattle.zr_names.specs.Tree.{items_tree}
use Rattle.zr_jobwalk.specs.Arrays.{series}
use Rattle.zr_jobwalk.specs.Faults.{InTable}
use Rattle.zr_jobwalk.specs.Values.{IsTable}
use Rattle.zr_jobwalk.proofs.Parts.{SoFar}
use Rattle.zr_jobrules.specs.Patterns.{Asked}
use Rattle.zr_jobrules.specs.Rules.{IsRule, RuleFault}
use Rattle.zr_jobrules.proofs.rules.parts.Given as goal

-- the rules so far are read, and no pattern was refused
abbrev pub invariant-loop-index : goal.invariant-loop-index
invariant-loop-index g l = record {
  read : SoFar (IsTable IsRule) (λ (asked : Asked). InTable (RuleFault asked)) (series l.array).name l.index (series l.array).items (items_tree (drop l.index l.node-items)) l.rules;
  count : g.P.Patterns.refusals l.patterns ≡ g.P.Patterns.refusals l.fn.patterns;
}
