use Rattle.std.specs.Prelude.{⊤, ◌≡◌, ◌==◌, ◌&&◌, ◌||◌, ℕ, Bool, true, false, not, List, [], ◌∷◌, Option, Some, is_some, length}
use Rattle.std.specs.List.{list_all, list_any}
use Rattle.std.specs.Option.{option_map_or}
use Rattle.zr_command.specs.declared.command.Cmd.{Cmd}
use Rattle.zr_command.specs.declared.command.Cmd.TheVariants as cmd
use Rattle.zr_command.specs.declared.version.VersionName.{VersionName}
use Rattle.zr_command.specs.declared.version.VersionName.TheVariants.{Snap, Mark}
use Rattle.zr_command.specs.declared.version.VersionRow.{VersionRow}
use Rattle.zr_command.specs.Names.{same_text}
use Rattle.zr_command.specs.Kinds.{is_cursor_of, newest}
use Rattle.zr_plan.specs.declared.target.Planned.{Planned}
use Rattle.zr_plan.specs.declared.target.Planned.TheVariants.{UpToDate, Steps}
use Rattle.zr_known.specs.declared.known.Known.{Known}
use Rattle.zr_jobs.specs.declared.pair.Pair.{Pair}
use Rattle.zr_known.specs.declared.known.Presence.{Presence}
use Rattle.zr_known.specs.declared.known.Presence.TheVariants.{Unlisted, Absent, There}
use Rattle.zr_known.specs.declared.known.Receiving.{Receiving}
use Rattle.zr_known.specs.declared.known.Receiving.TheVariants.{Unknown, Nothing}
use Rattle.zr_known.specs.Known.{is_among}
use Rattle.zr_known.specs.Replication.{is_there, newest_known, plan_known}

-- a command that lists, and so changes nothing
abbrev pub is_listing : Cmd → Bool
is_listing cmd.Sets = true
is_listing (cmd.Versions path) = true
is_listing (cmd.Holds path name) = true
is_listing other = false

-- the holds of a version are known: of a snapshot that was listed with some, they were listed too
abbrev pub version_holds_known : List (List ℕ) → ℕ → VersionName → Bool
version_holds_known asked refs (Snap name) = (refs == 0) || is_among asked name
version_holds_known asked refs (Mark name) = true

abbrev pub has_known_holds : List (List ℕ) → VersionRow → Bool
has_known_holds asked row = version_holds_known asked row.refs row.name

-- a dataset's versions were listed, and the holds of each snapshot are known
abbrev pub has_listed_holds : List (List ℕ) → Option (List VersionRow) → Bool
has_listed_holds asked listing = option_map_or (list_all (has_known_holds asked)) listing false

-- the datasets were listed; and where they show the target, so was the target
abbrev pub has_listed_target : Pair → Known → Bool
has_listed_target pair known =
    option_map_or
    (λ sets. not (list_any (λ row. same_text row.path pair.target) sets)
    || has_listed_holds known.target.asked known.target.listing)
    known.sets false

-- all that a replication lists before it begins was listed: the datasets; the versions of the source, and of a target that
-- is there; and the holds of each snapshot of theirs that has some
abbrev pub has_listed : Pair → Known → Bool
has_listed pair known =
    has_listed_holds known.source.asked known.source.listing && has_listed_target pair known

-- of the job's marks and holds only those of this snapshot are known: no other mark than its cursor, no last-received
-- hold on another snapshot, and no step hold
abbrev pub is_alone : Pair → Known → VersionRow → List ℕ → Bool
is_alone pair known last name =
    list_all (is_cursor_of pair.job last.guid) known.marks
    && list_all (λ other. same_text other name) known.target.held
    && (length known.source.held == 0)

-- a snapshot has its cursor on the source and its last-received hold, and there is nothing else of the job
abbrev pub rests_on : Pair → Known → VersionRow → VersionName → Bool
rests_on pair known last (Snap name) =
    list_any (is_cursor_of pair.job last.guid) known.marks
    && is_among known.target.held name
    && is_alone pair known last name
rests_on pair known last (Mark name) = false

-- there is nothing to settle: the target has a newest snapshot, and the pair rests on that
abbrev pub is_at_rest : Pair → Known → Bool
is_at_rest pair known =
    option_map_or (λ last. rests_on pair known last last.name) (newest_known known) false

abbrev pub is_absent : Presence → Bool
is_absent Unlisted = false
is_absent Absent = true
is_absent (There flag) = false

-- nothing was replicated yet: the target is not there, and no own mark and no step hold is known
abbrev pub is_untouched : Known → Bool
is_untouched known =
    is_absent known.presence && (length known.marks == 0) && (length known.source.held == 0)

-- no partial receive is there
abbrev pub is_none_receiving : Receiving → Bool
is_none_receiving Unknown = false
is_none_receiving Nothing = true

-- a listing shows a snapshot
abbrev pub has_snapshot : Option (List VersionRow) → Bool
has_snapshot listing = is_some (newest (option_map_or (λ rows. rows) listing []))

-- a pair is straight where its source has a snapshot, nothing was cut, and either nothing was replicated yet or the target
-- is there and there is nothing to settle
abbrev pub is_straight : Pair → Known → Bool
is_straight pair known =
    has_snapshot known.source.listing
    && is_none_receiving known.receiving
    && (is_untouched known || (is_there known.presence && is_at_rest pair known))

-- a replication has finished: all was listed, the target has what the source has, and there is nothing to settle
pub record IsFinished (pair : Pair) (known : Known) : Type 0 where
  pub listed : has_listed pair known ≡ true
  pub up_to_date : plan_known pair known ≡ Some UpToDate
  pub at_rest : is_at_rest pair known ≡ true

-- a plan that has some transfers, or nothing to do
abbrev pub IsForward : Option Planned → Type 0
IsForward (Some UpToDate) = ⊤
IsForward (Some (Steps (step ∷ steps))) = ⊤
IsForward other = ⊥
