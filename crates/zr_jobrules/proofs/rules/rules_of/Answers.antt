use Rattle.zr_jobwalk.specs.Faults.{InTable}
use Rattle.zr_jobwalk.specs.Values.{IsTable}
use Rattle.zr_jobwalk.proofs.Parts.{array_faults}
use Rattle.zr_jobrules.specs.Patterns.{asked}
use Rattle.zr_jobrules.specs.Rules.{IsRule, RuleFault}
use Rattle.zr_jobrules.proofs.rules.rules_of.Goals as goal

pub returns-clause-fault : goal.returns-clause-fault
returns-clause-fault g c =
    let refusals = g.P.Patterns.refusals in
    let now = c.read_rules.new.patterns in
    array_faults _ _ (IsTable IsRule) (InTable (RuleFault (asked (refusals c.args.patterns.now) (refusals now) (g.P.Patterns.refused_last now)))) _ _ _ _ c.read_rules.result c.in_ok-array.ensures.items c.in_ok-array.ensures.name c.read_rules.ensures.fault
