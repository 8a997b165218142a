use Rattle.std.proofs.Common.{◌≡◌, take, true}
use Rattle.std.specs.List.{list_all}
use Rattle.zr_known.specs.Known.{rows_of}
use Rattle.zr_known.specs.Straight.{has_known_holds}
use Rattle.zr_replicate.specs.Listing.{asked_at, HasOnlyListed, KnowsMoreHolds, listing_at}
use Rattle.zr_replicate.specs.Progress.{GoesOnWith, progress}
use Rattle.zr_replicate.proofs.replication.Replication.list_side_holds.Given as goal

-- the holds of the rows so far are known
abbrev pub invariant-loop-place : goal.invariant-loop-place
invariant-loop-place g l = record {
  stage : GoesOnWith l.pair (progress g.Z.Zfs l.fn.self) (progress g.Z.Zfs l.self);
  lists : HasOnlyListed (progress g.Z.Zfs l.self);
  more : KnowsMoreHolds l.side l.fn.self.known.now l.self.known.now;
  asked : list_all (has_known_holds (asked_at l.side l.self.known.now)) (take l.place (rows_of (listing_at l.side l.fn.self.known.now))) ≡ true;
}
