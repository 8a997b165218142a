-- Which snapshots of a listing pruning destroys.
use Rattle.std.specs.Prelude.{◌==◌, ◌&&◌, ℕ, ◌+◌, Bool, true, false, not, if◌then◌else◌, List, [], ◌∷◌, ◌++◌, Option, Some, None, filter, map, min}
use Rattle.zr_names.specs.declared.marks.MarkKind.{MarkKind}
use Rattle.zr_names.specs.declared.marks.MarkKind.TheVariants as mark
use Rattle.zr_command.specs.Kinds.{is_snap, kind_in}
use Rattle.zr_command.specs.declared.version.VersionName.{VersionName}
use Rattle.zr_command.specs.declared.version.VersionName.TheVariants.{Snap, Mark}
use Rattle.zr_command.specs.declared.version.VersionRow.{VersionRow}
use Rattle.zr_rules.specs.declared.rule.RuleRow.{RuleRow}
use Rattle.zr_rules.specs.declared.rule.RuleSpec.{RuleSpec}
use Rattle.zr_rules.specs.Keeps.{retained}

abbrev pub text_of : VersionName → List ℕ
text_of (Snap name) = name
text_of (Mark name) = name

-- the snapshots of a listing, as keep rules see them
abbrev pub rule_row : VersionRow → RuleRow
rule_row row = record { name = text_of row.name; txg = row.txg; creation = row.creation }

abbrev pub snaps_of : List VersionRow → List RuleRow
snaps_of rows = map rule_row (filter is_snap rows)

-- a mark is a cursor, of whatever guid
abbrev pub is_any_cursor : MarkKind → Bool
is_any_cursor (mark.Cursor guid) = true
is_any_cursor (mark.Tentative guid) = false
is_any_cursor mark.OldCursor = false
is_any_cursor mark.Other = false

-- a row is the job's own cursor
abbrev pub is_own_cursor : List ℕ → VersionRow → Bool
is_own_cursor job row = is_any_cursor (kind_in job row.name)

-- the lesser of a number and one that may be there
abbrev pub lesser : ℕ → Option ℕ → ℕ
lesser n None = n
lesser n (Some least) = min n least

abbrev pub least : List ℕ → Option ℕ
least [] = None
least (n ∷ ns) = Some (lesser n (least ns))

-- the replication cursor that rules go by: the transaction group of the job's own cursor with the least one
abbrev pub cursor_txg : List ℕ → List VersionRow → Option ℕ
cursor_txg job rows = least (map (λ row. row.txg) (filter (is_own_cursor job) rows))

-- what a snapshot gives to the list of those to destroy: its name, where it has no holds and is not kept
abbrev pub gone : Bool → VersionRow → List (List ℕ)
gone kept row = if (row.refs == 0) && not kept then text_of row.name ∷ [] else []

-- of the rows from one on, whose first snapshot has this place among all, those that go
abbrev pub going_from : List RuleSpec → List RuleRow → Option ℕ → ℕ → List VersionRow → List (List ℕ)
going_from rules snaps cursor place [] = []
going_from rules snaps cursor place (row ∷ later) =
    if is_snap row then gone (retained rules snaps cursor place (rule_row row)) row ++ going_from rules snaps cursor (place + 1) later
    else going_from rules snaps cursor place later

-- the snapshots of a listing that pruning destroys by these rules of a job, in the order of the listing: those with no holds that
-- no rule keeps; where there are no rules, none
abbrev pub doomed : List ℕ → List RuleSpec → List VersionRow → List (List ℕ)
doomed job [] rows = []
doomed job (rule ∷ rules) rows = going_from (rule ∷ rules) (snaps_of rows) (cursor_txg job rows) 0 rows
