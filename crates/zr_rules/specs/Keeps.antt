-- The keep filter: which snapshots of a list each rule keeps.
use Rattle.std.specs.Prelude.{ℕ, ◌+◌, Bool, true, not, ◌&&◌, ◌||◌, ◌==◌, if◌then◌else◌, nat_lt, List, map, drop, count_by, Option, Some, None}
use Rattle.std.specs.List.{list_any}
use Rattle.zr_grid.specs.declared.kept.GridRow.{GridRow}
use Rattle.zr_grid.specs.Kept.{grid_kept}
use Rattle.zr_rules.specs.declared.rule.RuleRow.{RuleRow}
use Rattle.zr_rules.specs.declared.rule.RuleSpec.{RuleSpec}
use Rattle.zr_rules.specs.declared.rule.RuleSpec.TheVariants.{Grid, LastN, NotReplicated, Regex}
use Rattle.zr_rules.specs.Matching.{finds}

-- whether a name matches; where there is no pattern, every name does
abbrev pub matches : Option (List ℕ) → List ℕ → Bool
matches None name = true
matches (Some text) name = finds text name

-- a snapshot under a rule's pattern, as a grid sees it
abbrev pub seen : Option (List ℕ) → RuleRow → GridRow
seen pattern row = record { creation = row.creation; txg = row.txg; matches = matches pattern row.name }

-- greater creation, or equal creation and greater txg
abbrev pub is_newer : GridRow → GridRow → Bool
is_newer other row = nat_lt row.creation other.creation || (other.creation == row.creation && nat_lt row.txg other.txg)

-- equal creation and equal txg
abbrev pub is_as_old : GridRow → GridRow → Bool
is_as_old other row = other.creation == row.creation && other.txg == row.txg

-- how many matching rows are newer than row i; of rows that are as old, the later in the list is newer
abbrev pub newer_than : List GridRow → ℕ → GridRow → ℕ
newer_than rows i row =
    count_by (λ other. other.matches && is_newer other row) rows
    + count_by (λ other. other.matches && is_as_old other row) (drop (i + 1) rows)

-- row i matches and is one of the newest matching rows, of so many
abbrev pub is_of_newest : ℕ → List GridRow → ℕ → GridRow → Bool
is_of_newest count rows i row = row.matches && nat_lt (newer_than rows i row) count

-- a snapshot of this txg is newer than the replication cursor, or at it where that counts; with no cursor, each is
abbrev pub is_unreplicated : Bool → Option ℕ → ℕ → Bool
is_unreplicated at_cursor None txg = true
is_unreplicated at_cursor (Some cursor) txg = nat_lt cursor txg || (at_cursor && txg == cursor)

-- whether a rule keeps row i of a list, with the cursor at this txg, or none
abbrev pub keeps : List RuleRow → Option ℕ → ℕ → RuleRow → RuleSpec → Bool
keeps rows cursor i row (Grid spec pattern) = grid_kept spec.intervals (map (seen pattern) rows) i (seen pattern row)
keeps rows cursor i row (LastN count pattern) = is_of_newest count (map (seen pattern) rows) i (seen pattern row)
keeps rows cursor i row (NotReplicated at_cursor) = is_unreplicated at_cursor cursor row.txg
keeps rows cursor i row (Regex pattern negate) = if negate then not (finds pattern row.name) else finds pattern row.name

-- a snapshot is retained where at least one rule keeps it
abbrev pub retained : List RuleSpec → List RuleRow → Option ℕ → ℕ → RuleRow → Bool
retained rules rows cursor i row = list_any (keeps rows cursor i row) rules
