use Rattle.zr_jobwalk.specs.Tables.{section}
use Rattle.zr_jobrules.specs.Patterns.{asked}
use Rattle.zr_jobtree.proofs.Faults.{root_faults}
use Rattle.zr_jobtree.proofs.root.read_root.Goals as goal

pub returns-clause-fault : goal.returns-clause-fault
returns-clause-fault g c =
    let refusals = g.P.Patterns.refusals in
    let now = c.list.new.patterns in
    root_faults (asked (refusals c.args.patterns.now) (refusals now) (g.P.Patterns.refused_last now)) (section c.args.root.now) _ _ c.list.result c.in_ok-has_only.ensures.known c.in_ok-array.ensures.items c.in_ok-array.ensures.name c.list.ensures.fault
