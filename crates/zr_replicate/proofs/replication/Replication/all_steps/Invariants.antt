use Rattle.zr_known.specs.Replication.{plan_known}
use Rattle.zr_replicate.specs.Steps.{IsAtRest, SameListings, step_count}
use Rattle.zr_replicate.specs.Progress.{GoesOnWith, progress}
use Rattle.zr_replicate.proofs.replication.Replication.all_steps.Given as goal

-- there is nothing to settle, and what was listed is as it was
abbrev pub invariant-loop-transfer : goal.invariant-loop-transfer
invariant-loop-transfer g l = record {
  stage : GoesOnWith l.pair (progress g.Z.Zfs l.fn.self) (progress g.Z.Zfs l.self);
  rests : IsAtRest l.pair l.self.known.now;
  same : SameListings l.fn.self.known.now l.self.known.now;
}

-- the steps that are planned
abbrev pub decreases-loop-transfer : goal.decreases-loop-transfer
decreases-loop-transfer g l = step_count (plan_known l.pair l.self.known.now)
