use Rattle.std.proofs.Common.{◌≡◌, ◌++◌, ℕ, List, drop, length, take}
use Rattle.zr_permit.specs.Keep.{cursor_txg, going_from, snaps_of}
use Rattle.zr_permit.specs.Marked.{AreMarked}
use Rattle.zr_rules.specs.declared.rule.RuleSpec.{RuleSpec}
use Rattle.zr_permit.proofs.keep.going.Given as goal

-- so many snapshots as the rows so far have; the names so far, and those of the rows that are left, are those of all rows
abbrev pub invariant-loop-row : goal.invariant-loop-row
invariant-loop-row l = record {
  place : l.place ≡ length (snaps_of (take l.row-index l.rows));
  names :
      (rules : List RuleSpec) (job : List ℕ) →
      AreMarked rules job l.rows l.marks →
      l.names.items ++ going_from rules (snaps_of l.rows) (cursor_txg job l.rows) l.place (drop l.row-index l.rows)
      ≡ going_from rules (snaps_of l.rows) (cursor_txg job l.rows) 0 l.rows;
}
