use Rattle.std.proofs.Common.{◌≡◌, take}
use Rattle.zr_permit.specs.Keep.{snaps_of}
use Rattle.zr_permit.proofs.keep.snaps_of.Given as goal

-- the snapshots of the rows so far
abbrev pub invariant-loop-row : goal.invariant-loop-row
invariant-loop-row l = l.snaps.items ≡ snaps_of (take l.row-index l.rows)
