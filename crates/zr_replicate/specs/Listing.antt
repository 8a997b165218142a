use Rattle.std.specs.Prelude.{◌≡◌, ◌==◌, ℕ, List, [], Option, Some, None, All, find, if◌then◌else◌, is_some, slice_get, true}
use Rattle.std.specs.List.{list_all}
use Rattle.zr_command.specs.declared.version.SetRow.{SetRow}
use Rattle.zr_command.specs.declared.version.VersionName.{VersionName}
use Rattle.zr_command.specs.declared.version.VersionName.TheVariants.{Snap, Mark}
use Rattle.zr_command.specs.declared.version.VersionRow.{VersionRow}
use Rattle.zr_command.specs.Names.{same_text}
use Rattle.zr_command.specs.Listings.{IsVersionList}
use Rattle.zr_known.specs.declared.known.Known.{Known}
use Rattle.zr_jobs.specs.declared.pair.Pair.{Pair}
use Rattle.zr_known.specs.declared.known.Presence.TheVariants.{Absent}
use Rattle.zr_known.specs.Known.{is_among, presence_by, rows_of, target_rows}
use Rattle.zr_known.specs.Replication.{Shows, ShowsSet}
use Rattle.zr_known.specs.Straight.{has_known_holds, has_listed, is_listing}
use Rattle.zr_permit.specs.Transcript.{Transcript}
use Rattle.zr_replicate.specs.Progress.{Progress}
use Rattle.zr_replicate.specs.declared.listing.Role.{Role}
use Rattle.zr_replicate.specs.declared.listing.Role.TheVariants.{Source, Target}

-- nothing was given but listings
abbrev pub OnlyLists : Transcript → Type 0
OnlyLists turns = All (λ turn. is_listing turn.0 ≡ true) turns

abbrev pub HasOnlyListed : Progress → Type 0
HasOnlyListed now = OnlyLists now.unit.turns

-- the dataset of a side, its last listing, and the snapshots whose holds were asked for
abbrev pub path_at : Role → Pair → List ℕ
path_at Source pair = pair.source
path_at Target pair = pair.target

abbrev pub listing_at : Role → Known → Option (List VersionRow)
listing_at Source known = known.source.listing
listing_at Target known = known.target.listing

abbrev pub asked_at : Role → Known → List (List ℕ)
asked_at Source known = known.source.asked
asked_at Target known = known.target.asked

-- the name of a version, where it is a snapshot that was listed with holds
abbrev pub held_name_of : ℕ → VersionName → Option (List ℕ)
held_name_of refs (Snap name) = if refs == 0 then None else Some name
held_name_of refs (Mark name) = None

abbrev pub held_name : Option VersionRow → Option (List ℕ)
held_name None = None
held_name (Some row) = held_name_of row.refs row.name

abbrev pub held_at : Role → Known → ℕ → Option (List ℕ)
held_at side known place = held_name (slice_get (rows_of (listing_at side known)) place)

-- only what is known of a side's holds has changed
abbrev pub OnlyHolds : Role → Known → Known → Type 0
OnlyHolds Source before now =
    now ≡ record before { source = record before.source { asked = now.source.asked; held = now.source.held } }
OnlyHolds Target before now =
    now ≡ record before { target = record before.target { asked = now.target.asked; held = now.target.held } }

-- holds of more snapshots of a side are known, and nothing else has changed
pub record KnowsMoreHolds (side : Role) (before now : Known) : Type 0 where
  pub only : OnlyHolds side before now
  pub more : (name : List ℕ) → is_among (asked_at side before) name ≡ true → is_among (asked_at side now) name ≡ true

-- a side's listing shows a snapshot
abbrev pub ShowsAt : Role → Known → List ℕ → Type 0
ShowsAt side known name = Shows (listing_at side known) name

-- the holds of the version at a place of a side's listing are known
abbrev pub HasAskedAt : Role → ℕ → Known → Type 0
HasAskedAt side place known =
    (row : VersionRow) → slice_get (rows_of (listing_at side known)) place ≡ Some row →
    has_known_holds (asked_at side known) row ≡ true

-- the holds of each snapshot of a side's listing are known, if it was taken
abbrev pub HasAskedAll : Role → Known → Type 0
HasAskedAll side known =
    list_all (has_known_holds (asked_at side known)) (rows_of (listing_at side known)) ≡ true

-- the datasets were listed: an absent target has no versions
pub record HasListedSets (pair : Pair) (known : Known) : Type 0 where
  pub sets : List SetRow
  pub are_listed : known.sets ≡ Some sets
  pub presence : known.presence ≡ presence_by (find (λ row. same_text row.path pair.target) sets)
  pub none_absent : known.presence ≡ Absent → target_rows known ≡ Some []

-- the source's versions were listed
pub record HasListedSource (known : Known) : Type 0 where
  pub source : List VersionRow
  pub source_is : known.source.listing ≡ Some source
  pub in_list : IsVersionList source

-- the target's versions were listed, where the datasets show it
abbrev pub HasListedTarget : Pair → Known → Type 0
HasListedTarget pair known = ShowsSet known pair.target → is_some known.target.listing ≡ true

-- all was listed that a replication lists
pub record HasListedAll (pair : Pair) (known : Known) : Type 0 where
  pub listed : has_listed pair known ≡ true
  pub sets : HasListedSets pair known
  pub source : HasListedSource known
