use Rattle.zr_known.specs.Known.{with_last_held}
use Rattle.std.proofs.Common.{◌≡◌, length}
use Rattle.zr_replicate.specs.Settlement.{IsSafe}
use Rattle.zr_replicate.specs.Progress.{GoesOnWith, progress}
use Rattle.zr_replicate.proofs.replication.Replication.release_other_last.Given as goal

-- the newest snapshot is safe, and only last-received holds have gone
abbrev pub invariant-loop-name : goal.invariant-loop-name
invariant-loop-name g l = record {
  stage : GoesOnWith l.pair (progress g.Z.Zfs l.fn.self) (progress g.Z.Zfs l.self);
  safe : IsSafe l.pair l.self.known.now l.newest;
  only : l.self.known.now ≡ with_last_held l.self.known.now.target.held l.fn.self.known.now;
}

abbrev pub decreases-loop-name : goal.decreases-loop-name
decreases-loop-name g l = length l.self.known.now.target.held
