use Rattle.zr_names.specs.Tree.{tree}
use Rattle.zr_jobwalk.specs.Tables.{section}
use Rattle.zr_jobrules.specs.Patterns.{asked}
use Rattle.zr_jobtree.proofs.Faults.{accepts, check_faults, walk_fault}
use Rattle.zr_jobtree.proofs.Whole.{are_jobs}
use Rattle.zr_jobtree.proofs.file.walk.Goals as goal

pub returns-clause-fault : goal.returns-clause-fault
returns-clause-fault g c = λ other.
    walk_fault (tree c.args.node.now) c.root-root.result.front (section c.root-root.result).members c.root-root.ensures.front c.root-root.ensures.members _ c.in-Err.fault (c.in-Err.ensures.fault other)

pub checked-requires : goal.checked-requires
checked-requires g c = are_jobs _ c.in-Ok.read.names.items c.in-Ok.read.jobs.items c.in-Ok.ensures.jobs

pub returns-in-Ok-clause-jobs : goal.returns-in-Ok-clause-jobs
returns-in-Ok-clause-jobs g c =
    accepts (tree c.args.node.now) c.root-root.result.front (section c.root-root.result).members c.root-root.ensures.front c.root-root.ensures.members c.in-Ok.read.names.items c.in-Ok.read.jobs.items c.checked.result c.in-Ok.ensures.jobs c.checked.ensures.set c.checked.ensures.accepted

pub returns-in-Ok-clause-fault : goal.returns-in-Ok-clause-fault
returns-in-Ok-clause-fault g c =
    let refusals = g.P.Patterns.refusals in
    let now = c.read_root.new.patterns in
    check_faults (tree c.args.node.now) c.root-root.result.front (section c.root-root.result).members c.root-root.ensures.front c.root-root.ensures.members (asked (refusals c.args.patterns.now) (refusals now) (g.P.Patterns.refused_last now)) c.in-Ok.read.names.items c.in-Ok.read.jobs.items c.checked.result c.in-Ok.ensures.jobs c.checked.ensures.fault
