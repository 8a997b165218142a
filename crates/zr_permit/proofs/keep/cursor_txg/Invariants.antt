use Rattle.std.proofs.Common.{◌≡◌, take}
use Rattle.zr_permit.specs.Keep.{cursor_txg}
use Rattle.zr_permit.proofs.keep.cursor_txg.Given as goal

-- the least of the rows so far
abbrev pub invariant-loop-row : goal.invariant-loop-row
invariant-loop-row l = l.least ≡ cursor_txg l.job (take l.row-index l.rows)
