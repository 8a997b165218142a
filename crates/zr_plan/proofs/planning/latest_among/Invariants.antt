use Rattle.std.proofs.Common.{◌≡◌, ◌&&◌, drop, nat_lt}
use Rattle.zr_command.specs.declared.version.VersionRow.{VersionRow}
use Rattle.zr_plan.specs.Plan.{is_after_snaps}
use Rattle.zr_plan.proofs.planning.latest_among.Given as goal

-- what is after the latest so far, and after the rows that are left, is after all
abbrev pub invariant-loop-row : goal.invariant-loop-row
invariant-loop-row l =
    (row : VersionRow) → (nat_lt l.latest row.txg && is_after_snaps (drop l.row-index l.rows) l.guid row)
    ≡ (nat_lt l.txg row.txg && is_after_snaps l.rows l.guid row)
