-- Marks for the snapshots of a listing.
use Rattle.std.specs.Prelude.{◌≡◌, ℕ, Bool, List, Some, length, slice_get}
use Rattle.zr_command.specs.declared.version.VersionRow.{VersionRow}
use Rattle.zr_rules.specs.declared.rule.RuleRow.{RuleRow}
use Rattle.zr_rules.specs.declared.rule.RuleSpec.{RuleSpec}
use Rattle.zr_rules.specs.Keeps.{retained}
use Rattle.zr_permit.specs.Keep.{cursor_txg, snaps_of}

-- each snapshot of a listing has a mark that tells whether a rule keeps it
pub record AreMarked (rules : List RuleSpec) (job : List ℕ) (rows : List VersionRow) (marks : List Bool) : Type 0 where
  pub as_long : length marks ≡ length (snaps_of rows)
  pub tell :
      (place : ℕ) (snap : RuleRow) →
      slice_get (snaps_of rows) place ≡ Some snap →
      slice_get marks place ≡ Some (retained rules (snaps_of rows) (cursor_txg job rows) place snap)
