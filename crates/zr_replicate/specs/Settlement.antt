use Rattle.std.specs.Prelude.{◌≡◌, ◌≢◌, ◌&&◌, ℕ, Bool, List, [], Option, Some, find, not, true, false}
use Rattle.std.specs.List.{list_all, list_any}
use Rattle.std.specs.Option.{option_or}
use Rattle.zr_names.specs.Marks.{mark_kind}
use Rattle.zr_names.specs.declared.marks.MarkKind.{MarkKind}
use Rattle.zr_names.specs.declared.marks.MarkKind.TheVariants as mark
use Rattle.zr_names.specs.declared.unit.Guid.{Guid}
use Rattle.zr_command.specs.Names.{same_text}
use Rattle.zr_command.specs.declared.version.VersionName.{VersionName}
use Rattle.zr_command.specs.declared.version.VersionName.TheVariants.{Snap, Mark}
use Rattle.zr_command.specs.declared.version.VersionRow.{VersionRow}
use Rattle.zr_command.specs.Kinds.{is_cursor, is_cursor_of, is_snap, kind_in}
use Rattle.zr_known.specs.declared.known.Known.{Known}
use Rattle.zr_jobs.specs.declared.pair.Pair.{Pair}
use Rattle.zr_known.specs.declared.known.Receiving.TheVariants.{Nothing}
use Rattle.zr_known.specs.Known.{is_among, is_row_of, with_last_held, with_step_held}
use Rattle.zr_known.specs.Deciding.{cursor_source, MakesCursor}
use Rattle.zr_known.specs.Replication.{HoldsKnown, IsSettled, newest_known}
use Rattle.zr_replicate.specs.declared.settlement.Newest.{Newest}

-- the target's newest snapshot is this one, nothing is partly received, and its holds are known
pub record IsNewest (known : Known) (newest : Newest) (last : VersionRow) : Type 0 where
  pub is_newest : newest_known known ≡ Some last
  pub named : last.name ≡ Snap newest.name
  pub of_guid : last.guid ≡ newest.guid
  pub holds : HoldsKnown last known.target.asked newest.name
  pub no_partial : known.receiving ≡ Nothing

abbrev pub is_bookmark : VersionRow → Bool
is_bookmark row = not (is_snap row)

-- the newest snapshot may be settled: its cursor can be made from a version on the source
pub record MaySettle (pair : Pair) (known : Known) (newest : Newest) : Type 0 where
  pub last : VersionRow
  pub is_newest : IsNewest known newest last
  pub version : VersionName
  pub makes : MakesCursor pair known newest.guid version
  pub bookmarks : list_all is_bookmark known.marks ≡ true

-- the same where this is what its cursor is made from: of several snapshots with its guid, the first in the listing
pub record SettlesFrom (pair : Pair) (known : Known) (newest : Newest) (version : VersionName) : Type 0 where
  pub last : VersionRow
  pub is_newest : IsNewest known newest last
  pub first : cursor_source pair known newest.guid ≡ Some version
  pub makes : MakesCursor pair known newest.guid version
  pub bookmarks : list_all is_bookmark known.marks ≡ true

-- it has its cursor, and may want its hold
pub record HasCursor (pair : Pair) (known : Known) (newest : Newest) : Type 0 where
  pub last : VersionRow
  pub is_newest : IsNewest known newest last
  pub cursor : list_any (is_cursor_of pair.job newest.guid) known.marks ≡ true
  pub bookmarks : list_all is_bookmark known.marks ≡ true

-- it has its cursor and its last-received hold: what else is left may go
pub record IsSafe (pair : Pair) (known : Known) (newest : Newest) : Type 0 where
  pub last : VersionRow
  pub settled : IsSettled pair known last newest.name
  pub of_guid : last.guid ≡ newest.guid
  pub no_partial : known.receiving ≡ Nothing
  pub bookmarks : list_all is_bookmark known.marks ≡ true

-- no last-received hold is left on another snapshot of the target; no other mark of the job is left on the source
abbrev pub HasNoOtherHold : Newest → Known → Type 0
HasNoOtherHold newest known = list_all (λ other. same_text other newest.name) known.target.held ≡ true

abbrev pub HasNoOtherMark : Pair → Newest → Known → Type 0
HasNoOtherMark pair newest known = list_all (is_cursor_of pair.job newest.guid) known.marks ≡ true

-- no other mark of the job is left on the source, no other last-received hold on the target, and no step hold
pub record IsAlone (pair : Pair) (known : Known) (newest : Newest) : Type 0 where
  pub marks : HasNoOtherMark pair newest known
  pub last_held : HasNoOtherHold newest known
  pub step_held : known.source.held ≡ []

-- nothing but the job's marks, its last-received holds or its step holds has changed
abbrev pub OnlyItsMarks : Known → Known → Type 0
OnlyItsMarks before now = now ≡ record before { marks = now.marks }

abbrev pub OnlyLastHolds : Known → Known → Type 0
OnlyLastHolds before now = now ≡ with_last_held now.target.held before

abbrev pub OnlyStepHolds : Known → Known → Type 0
OnlyStepHolds before now = now ≡ with_step_held now.source.held before

-- nothing but these has changed
abbrev pub OnlyMarks : Known → Known → Type 0
OnlyMarks before now =
    now ≡ record before {
      marks = now.marks;
      source = record before.source { held = now.source.held };
      target = record before.target { held = now.target.held };
    }

abbrev pub is_any_cursor : MarkKind → Bool
is_any_cursor (mark.Cursor guid) = true
is_any_cursor (mark.Tentative guid) = false
is_any_cursor mark.OldCursor = false
is_any_cursor mark.Other = false

-- a cursor of the job that is not the one of a guid
abbrev pub is_other_cursor : List ℕ → Guid → VersionRow → Bool
is_other_cursor job guid row = is_any_cursor (kind_in job row.name) && not (is_cursor_of job guid row)

-- the first mark that is not the job's cursor of a guid: cursors come before tentative cursors
abbrev pub first_other : List ℕ → Guid → List VersionRow → Option VersionRow
first_other job guid marks =
    option_or (find (is_other_cursor job guid) marks)
    (find (λ row. not (is_cursor_of job guid row)) marks)

-- a mark of the job that is not the newest snapshot's cursor
pub record IsOtherMark (pair : Pair) (known : Known) (newest : Newest) (name : List ℕ) : Type 0 where
  pub is_known : list_any (is_row_of (Mark name)) known.marks ≡ true
  pub is_other : is_cursor newest.guid (mark_kind name pair.job) ≡ false

-- a name among others that is not this one
pub record IsOtherName (names : List (List ℕ)) (own name : List ℕ) : Type 0 where
  pub among : is_among names name ≡ true
  pub is_other : name ≢ own
