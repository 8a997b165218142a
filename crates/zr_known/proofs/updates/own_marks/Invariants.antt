use Rattle.std.proofs.Common.{◌≡◌, ◌++◌, drop, filter}
use Rattle.zr_known.specs.Known.{is_own}
use Rattle.zr_known.proofs.updates.own_marks.Given as goal

-- the marks so far, and those of the rows that are left, are those of all rows
abbrev pub invariant-loop-row : goal.invariant-loop-row
invariant-loop-row l =
    l.marks ++ filter (is_own l.job) (drop l.row-index l.rows) ≡ filter (is_own l.job) l.rows
