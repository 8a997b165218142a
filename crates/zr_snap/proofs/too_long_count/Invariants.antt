use Rattle.std.proofs.Common.{◌≡◌, ◌≤◌, length, not, take}
use Rattle.std.specs.List.{filter}
use Rattle.zr_jobset.specs.Units.{fits_in, matched}
use Rattle.zr_snap.proofs.too_long_count.Given as goal

-- the count of the rows so far
abbrev pub invariant-loop-row : goal.invariant-loop-row
invariant-loop-row l = record {
  count : l.count ≡ length (filter (λ path. not (fits_in l.jobs l.job path)) (matched l.jobs l.job (take l.row-index l.rows)));
  small : l.count ≤ l.row-index;
}
