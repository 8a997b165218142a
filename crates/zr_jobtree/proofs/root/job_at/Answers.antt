use Rattle.zr_jobrules.specs.Patterns.{asked}
use Rattle.zr_jobtree.specs.Jobs.{NamedFault}
use Rattle.zr_jobtree.proofs.Faults.{part_faults}
use Rattle.zr_jobtree.proofs.root.job_at.Goals as goal

pub returns-clause-fault : goal.returns-clause-fault
returns-clause-fault g c =
    let refusals = g.P.Patterns.refusals in
    let now = c.read_job.new.patterns in
    part_faults (NamedFault (asked (refusals c.args.patterns.now) (refusals now) (g.P.Patterns.refused_last now))) _ _ _ _ c.read_job.result c.in_ok-table.ensures.members c.in_ok-table.ensures.front c.read_job.ensures.fault
