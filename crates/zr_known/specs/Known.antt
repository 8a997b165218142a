use Rattle.std.specs.Prelude.{◌&&◌, ℕ, Bool, true, false, not, if◌then◌else◌, List, [], ◌∷◌, ◌++◌, Option, Some, None, find, filter, is_some, option_map}
use Rattle.std.specs.List.{list_any}
use Rattle.std.specs.Option.{option_map_or}
use Rattle.zr_names.specs.Marks.{tag_text}
use Rattle.zr_names.specs.declared.marks.TagKind.{TagKind}
use Rattle.zr_names.specs.declared.marks.TagKind.TheVariants.{Step, Last}
use Rattle.zr_names.specs.declared.marks.MarkKind.{MarkKind}
use Rattle.zr_names.specs.declared.marks.MarkKind.TheVariants as mark
use Rattle.zr_command.specs.declared.command.Answer.{Answer}
use Rattle.zr_command.specs.declared.command.Answer.TheVariants.{Done}
use Rattle.zr_command.specs.declared.command.Cmd.{Cmd}
use Rattle.zr_command.specs.declared.command.Cmd.TheVariants as cmd
use Rattle.zr_command.specs.declared.command.Reply.TheVariants as reply
use Rattle.zr_command.specs.declared.command.Transfer.{Transfer}
use Rattle.zr_command.specs.declared.version.SetRow.{SetRow}
use Rattle.zr_command.specs.declared.version.VersionName.{VersionName}
use Rattle.zr_command.specs.declared.version.VersionName.TheVariants.{Snap, Mark}
use Rattle.zr_command.specs.declared.version.VersionRow.{VersionRow}
use Rattle.zr_command.specs.Names.{is_tagged, same_name, same_text}
use Rattle.zr_command.specs.Kinds.{is_snap, kind_in}
use Rattle.zr_known.specs.declared.known.Known.{Known}
use Rattle.zr_known.specs.declared.known.Side.{Side}
use Rattle.zr_jobs.specs.declared.pair.Pair.{Pair}
use Rattle.zr_known.specs.declared.known.Presence.{Presence}
use Rattle.zr_known.specs.declared.known.Presence.TheVariants.{Unlisted, Absent, There}
use Rattle.zr_known.specs.declared.known.Receiving.{Receiving}
use Rattle.zr_known.specs.declared.known.Receiving.TheVariants.{Unknown, Nothing}

-- a side of which nothing was listed
abbrev pub nothing_listed : Side
nothing_listed = record { listing = None; asked = []; held = [] }

-- nothing was told yet
abbrev pub nothing_known : Known
nothing_known = record {
  source = nothing_listed;
  target = nothing_listed;
  marks = [];
  sets = None;
  presence = Unlisted;
  arrived = None;
  transferred = false;
  receiving = Unknown;
}

-- the rows of a listing; none where it was not taken
abbrev pub rows_of : Option (List VersionRow) → List VersionRow
rows_of listing = option_map_or (λ rows. rows) listing []

-- the target's versions, where they are known: those of its last listing, and each snapshot that arrived since
abbrev pub target_rows : Known → Option (List VersionRow)
target_rows known = option_map (λ arrived. rows_of known.target.listing ++ arrived) known.arrived

-- a bookmark is a cursor or a tentative cursor of the job
abbrev pub is_own_kind : MarkKind → Bool
is_own_kind (mark.Cursor guid) = true
is_own_kind (mark.Tentative guid) = true
is_own_kind mark.OldCursor = false
is_own_kind mark.Other = false

abbrev pub is_own : List ℕ → VersionRow → Bool
is_own job row = is_own_kind (kind_in job row.name)

abbrev pub is_among : List (List ℕ) → List ℕ → Bool
is_among names name = list_any (λ other. same_text other name) names

abbrev pub without_name : List ℕ → List (List ℕ) → List (List ℕ)
without_name name names = filter (λ other. not (same_text other name)) names

-- a name among others or not
abbrev pub set_among : Bool → List ℕ → List (List ℕ) → List (List ℕ)
set_among true name names = without_name name names ++ name ∷ []
set_among false name names = without_name name names

abbrev pub is_row_of : VersionName → VersionRow → Bool
is_row_of name row = same_name name row.name

-- what is known of the target once the datasets were listed: where it is absent, its listing and its holds are gone
abbrev pub side_by_sets : Option SetRow → Side → Side
side_by_sets None side = nothing_listed
side_by_sets (Some row) side = side

-- then it has no versions; and where it was absent before and is there now, its versions are not known
abbrev pub arrived_by_sets : Presence → Option SetRow → Option (List VersionRow) → Option (List VersionRow)
arrived_by_sets before None arrived = Some []
arrived_by_sets Unlisted (Some row) arrived = arrived
arrived_by_sets Absent (Some row) arrived = None
arrived_by_sets (There flag) (Some row) arrived = arrived

abbrev pub presence_by : Option SetRow → Presence
presence_by None = Absent
presence_by (Some row) = There row.placeholder

-- once a transfer was done there is no partial receive, whatever a later listing of the datasets shows
abbrev pub receiving_by : Bool → Option SetRow → Receiving
receiving_by true row = Nothing
receiving_by false None = Nothing
receiving_by false (Some row) = if is_some row.token then Unknown else Nothing

-- the datasets were listed
abbrev pub told_sets : Pair → List SetRow → Known → Known
told_sets pair rows known =
    record known {
      sets = Some rows;
      target = side_by_sets (find (λ row. same_text row.path pair.target) rows) known.target;
      presence = presence_by (find (λ row. same_text row.path pair.target) rows);
      arrived = arrived_by_sets known.presence (find (λ row. same_text row.path pair.target) rows) known.arrived;
      receiving = receiving_by known.transferred (find (λ row. same_text row.path pair.target) rows);
    }

-- the versions of a dataset were listed
abbrev pub told_versions : Pair → List ℕ → List VersionRow → Known → Known
told_versions pair path rows known =
    if same_text path pair.source
    then record known { source = record known.source { listing = Some rows }; marks = filter (is_own pair.job) rows }
    else (if same_text path pair.target
    then record known { target = record known.target { listing = Some rows }; arrived = Some [] }
    else known)

-- the holds of a snapshot of a side were listed: it was asked for them, and has the job's or not
abbrev pub with_holds : Bool → List ℕ → Side → Side
with_holds held name side =
    record side { asked = set_among true name side.asked; held = set_among held name side.held }

abbrev pub told_holds : Pair → List ℕ → List ℕ → List (List ℕ) → Known → Known
told_holds pair path name tags known =
    if same_text path pair.source
    then record known { source = with_holds (is_tagged tags (tag_text Step pair.job)) name known.source }
    else (if same_text path pair.target
    then record known { target = with_holds (is_tagged tags (tag_text Last pair.job)) name known.target }
    else known)

-- other holds of the job are known
abbrev pub with_step_held : List (List ℕ) → Known → Known
with_step_held names known = record known { source = record known.source { held = names } }

abbrev pub with_last_held : List (List ℕ) → Known → Known
with_last_held names known = record known { target = record known.target { held = names } }

-- a hold of the job was put on a snapshot, or taken off
abbrev pub told_hold : Pair → Bool → TagKind → List ℕ → List ℕ → Known → Known
told_hold pair held Step path name known =
    if same_text path pair.source then with_step_held (set_among held name known.source.held) known else known
told_hold pair held Last path name known =
    if same_text path pair.target then with_last_held (set_among held name known.target.held) known else known

-- what a bookmark is made from: a listed snapshot, or a known mark
abbrev pub source_row : VersionName → Known → Option VersionRow
source_row name known = find (is_row_of name) (option_map_or (filter is_snap) known.source.listing [] ++ known.marks)

abbrev pub with_mark : List ℕ → Option VersionRow → Known → Known
with_mark name None known = known
with_mark name (Some row) known =
    record known { marks = known.marks ++ record row { name = Mark name; refs = 0 } ∷ [] }

-- a bookmark was made: it counts where it is one of the job's own on the source
abbrev pub told_bookmark : Pair → List ℕ → VersionName → List ℕ → Known → Known
told_bookmark pair path version name known =
    if same_text path pair.source && is_own_kind (kind_in pair.job (Mark name))
    then with_mark name (source_row version known) known
    else known

abbrev pub told_mark_gone : Pair → List ℕ → List ℕ → Known → Known
told_mark_gone pair path name known =
    if same_text path pair.source
    then record known { marks = filter (λ row. not (is_row_of (Mark name) row)) known.marks }
    else known

-- the row of a snapshot that arrived: it has no holds; its transaction group and time are not known
abbrev pub arrival : Transfer → VersionRow
arrival transfer = record { name = Snap transfer.to; guid = transfer.guid; txg = 0; creation = 0; refs = 0 }

-- a dataset that a transfer made has no placeholder flag
abbrev pub presence_after : Presence → Presence
presence_after Unlisted = Unlisted
presence_after Absent = There false
presence_after (There flag) = There flag

abbrev pub told_transfer : Pair → Transfer → Known → Known
told_transfer pair transfer known =
    if same_text transfer.target pair.target
    then record known {
      presence = presence_after known.presence;
      arrived = option_map (λ arrived. arrived ++ arrival transfer ∷ []) known.arrived;
      transferred = true;
      receiving = Nothing;
    }
    else known

-- what a unit knows after one turn: a command tells what it did only where it was done
abbrev pub told_by : Pair → Cmd → Answer → Known → Known
told_by pair cmd.Sets (Done (reply.Sets rows)) known = told_sets pair rows known
told_by pair (cmd.Versions path) (Done (reply.Versions rows)) known = told_versions pair path rows known
told_by pair (cmd.Holds path name) (Done (reply.Holds tags)) known = told_holds pair path name tags known
told_by pair (cmd.Hold kind job path name) (Done reply.Nothing) known =
    if same_text job pair.job then told_hold pair true kind path name known else known
told_by pair (cmd.Release kind job path name) (Done reply.Nothing) known =
    if same_text job pair.job then told_hold pair false kind path name known else known
told_by pair (cmd.Bookmark path version name) (Done reply.Nothing) known = told_bookmark pair path version name known
told_by pair (cmd.DestroyMark path name) (Done reply.Nothing) known = told_mark_gone pair path name known
told_by pair (cmd.Transfer transfer) (Done reply.Nothing) known = told_transfer pair transfer known
told_by pair command given known = known

-- what a unit knows after some turns, from what it knew before
abbrev pub known_after : Pair → Known → List (Cmd × Answer) → Known
known_after pair known [] = known
known_after pair known (turn ∷ turns) = known_after pair (told_by pair turn.0 turn.1 known) turns

-- what a replication unit has been told
abbrev pub known_of : Pair → List (Cmd × Answer) → Known
known_of pair turns = known_after pair nothing_known turns
