use Rattle.std.specs.Prelude.{◌≡◌, ◌==◌, ◌⊎◌, ℕ, ◌+◌, ◌/◌, ◌%◌, Bool, true, false, not, if◌then◌else◌, List, [], ◌∷◌, ◌++◌, AllPairs, Option, Some, None, Result, Ok, Err, filter, find, is_some, map, option_map}
use Rattle.std.specs.Option.{option_map_or}
use Rattle.std.specs.List.{Contains}
use Rattle.zr_names.specs.Marks.{tag_text}
use Rattle.zr_command.specs.declared.command.Cmd.{Cmd}
use Rattle.zr_command.specs.declared.command.Cmd.TheVariants as cmd
use Rattle.zr_command.specs.declared.command.Reply.{Reply}
use Rattle.zr_command.specs.declared.command.Reply.TheVariants as reply
use Rattle.zr_command.specs.declared.command.Transfer.{Transfer}
use Rattle.zr_world.specs.declared.effects.ApplyFault.{ApplyFault}
use Rattle.zr_world.specs.declared.effects.ApplyFault.TheVariants.{Refused, NoMemory}
use Rattle.zr_world.specs.declared.effects.Extent.{Extent}
use Rattle.zr_world.specs.declared.effects.Extent.TheVariants as extent
use Rattle.zr_world.specs.declared.effects.Refusal.{Refusal}
use Rattle.zr_world.specs.declared.pools.Dataset.{Dataset}
use Rattle.zr_world.specs.declared.pools.Partial.{Partial}
use Rattle.zr_world.specs.declared.pools.Pools.{Pools}
use Rattle.zr_world.specs.declared.pools.Version.{Version}
use Rattle.zr_command.specs.declared.version.VersionName.{VersionName}
use Rattle.zr_command.specs.declared.version.VersionName.TheVariants.{Snap, Mark}
use Rattle.zr_command.specs.declared.version.SetRow.{SetRow}
use Rattle.zr_world.specs.Lookup.{dataset_at, has_name, in_first_receive, is_at, tags_at, version_at, versions_at}
use Rattle.zr_command.specs.Names.{is_below, same_text}
use Rattle.zr_command.specs.Plain.{base_guid, no_guid}
use Rattle.zr_command.specs.declared.command.Base.{Base}
use Rattle.zr_command.specs.declared.command.Base.TheVariants as base
use Rattle.zr_command.specs.declared.version.TokenInfo.{TokenInfo}
use Rattle.zr_world.specs.Tokens.{info_of, partial_of_token}
use Rattle.zr_command.specs.Listings.{stands_before}
use Rattle.zr_world.specs.Reasons.{refusal, refusal_since}
use Rattle.zr_world.specs.Rows.{row_of_set, row_of_version}

-- a list with the first item that passes a test changed
abbrev pub first_changed : {T : Type 0} → (T → Bool) → (T → T) → List T → List T
first_changed test change [] = []
first_changed test change (x ∷ xs) = if test x then change x ∷ xs else (x ∷ first_changed test change xs)

-- an ordered list with one item more: before the first that stands behind it
abbrev pub put_in : {T : Type 0} → (T → T → Bool) → T → List T → List T
put_in before item [] = item ∷ []
put_in before item (x ∷ xs) = if before item x then item ∷ x ∷ xs else (x ∷ put_in before item xs)

-- the pools with the dataset at this path changed
abbrev pub with_set : Pools → List ℕ → (Dataset → Dataset) → Pools
with_set pools path change = record pools { sets = first_changed (is_at path) change pools.sets }

-- tags without this one
abbrev pub without_tag : List ℕ → List (List ℕ) → List (List ℕ)
without_tag tag tags = filter (λ other. not (same_text other tag)) tags

abbrev pub with_tags : VersionName → List (List ℕ) → Dataset → Dataset
with_tags name tags set =
    record set { versions = first_changed (has_name name) (λ version. record version { tags = tags }) set.versions }

abbrev pub with_partial : Option Partial → Dataset → Dataset
with_partial partial set = record set { partial = partial }

abbrev pub without : VersionName → Dataset → Dataset
without name set = record set { versions = filter (λ version. not (has_name name version)) set.versions }

abbrev pub version_before : Version → Version → Bool
version_before one other = stands_before one.txg one.name other.txg other.name

abbrev pub with_version : Version → Dataset → Dataset
with_version version set = record set { versions = put_in version_before version set.versions }

-- a version of a transfer of this base arrives on its target; a resume completes the partial receive, which goes
abbrev pub arriving : Base → Version → Dataset → Dataset
arriving base.Full version set = with_version version set
arriving (base.From mark guid) version set = with_version version set
arriving (base.Resume token from) version set = with_version version (with_partial None set)

-- a bookmark has the guid, the transaction group and the time of what it was made from, and no holds
abbrev pub bookmark_of : List ℕ → Version → Version
bookmark_of mark version = record version { name = Mark mark; tags = [] }

-- a dataset that a transfer makes
abbrev pub new_set : List ℕ → Dataset
new_set path = record { path = path; placeholder = false; partial = None; versions = [] }

-- a dataset that is made as a placeholder
abbrev pub new_placeholder : List ℕ → Dataset
new_placeholder path = record (new_set path) { placeholder = true }

abbrev pub set_before : Dataset → Dataset → Bool
set_before one other = is_below one.path other.path

-- the pools with one dataset more
abbrev pub with_new : Pools → Dataset → Pools
with_new pools set = record pools { sets = put_in set_before set pools.sets }

-- the pools without the dataset at this path
abbrev pub without_set : Pools → List ℕ → Pools
without_set pools path = record pools { sets = filter (λ set. not (is_at path set)) pools.sets }

-- the pools with the dataset at this path changed, and made before where it is absent
abbrev pub with_target : Pools → List ℕ → (Dataset → Dataset) → Pools
with_target pools path change =
    if is_some (dataset_at pools path)
    then with_set pools path change
    else with_new pools (change (new_set path))

-- a snapshot that is taken now: it has the next guid and the next transaction group, and no holds
abbrev pub taken : Pools → List ℕ → Version
taken pools name = record {
  name = Snap name;
  guid = record { 0 = pools.next_guid };
  txg = pools.next_txg;
  creation = pools.now;
  tags = [];
}

-- the pools with a snapshot more that is taken now
abbrev pub snapshotted : Pools → List ℕ → List ℕ → Pools
snapshotted pools path name =
    record (with_set pools path (with_version (taken pools name))) {
      next_txg = pools.next_txg + 1;
      next_guid = pools.next_guid + 1;
    }

-- the dataset at this path is in its first receive
abbrev pub first_receive_at : Pools → List ℕ → Bool
first_receive_at pools path = option_map_or in_first_receive (dataset_at pools path) false

-- the pools without the partial receive at this path, and without its dataset where that is in its first receive
abbrev pub aborted : Pools → List ℕ → Pools
aborted pools path =
    if first_receive_at pools path then without_set pools path else with_set pools path (with_partial None)

-- the snapshot that a receive makes: with the name, guid and time of the one sent, in a new transaction group
abbrev pub received : ℕ → Version → Version
received txg version = record version { txg = txg; tags = [] }

-- what a transfer of which a part came leaves on its target
abbrev pub partial_of : Transfer → Partial
partial_of transfer = record { to = transfer.guid; from = base_guid transfer.base; source = transfer.source }

-- the pools after a transfer of this snapshot
abbrev pub transferred : Pools → Transfer → Option Version → Pools
transferred pools transfer None = pools
transferred pools transfer (Some version) =
    record (with_target pools transfer.target (arriving transfer.base (received pools.next_txg version))) {
      next_txg = pools.next_txg + 1;
    }

abbrev pub bookmarked : Pools → List ℕ → List ℕ → Option Version → Pools
bookmarked pools path mark None = pools
bookmarked pools path mark (Some version) = with_set pools path (with_version (bookmark_of mark version))

-- the pools without these versions of the dataset at this path, as far as they are there
abbrev pub without_all : Pools → List ℕ → List VersionName → Pools
without_all pools path [] = pools
without_all pools path (name ∷ names) = without_all (with_set pools path (without name)) path names

-- the names whose place, counted from 0, has its bit in the number
abbrev pub chosen : ℕ → List (List ℕ) → List (List ℕ)
chosen bits [] = []
chosen bits (name ∷ names) = if bits % 2 == 1 then name ∷ chosen (bits / 2) names else (chosen (bits / 2) names)

-- the table of effects: what stands after the whole of a command, whose sending end read the source at an earlier moment;
-- an abort may leave a dataset that is taken away here
abbrev pub after_since : Pools → Pools → Cmd → Pools
after_since earlier pools (cmd.Snapshot path name) = snapshotted pools path name
after_since earlier pools (cmd.Hold kind job path name) =
    with_set pools path (with_tags (Snap name) (tags_at pools path (Snap name) ++ tag_text kind job ∷ []))
after_since earlier pools (cmd.Release kind job path name) =
    with_set pools path (with_tags (Snap name) (without_tag (tag_text kind job) (tags_at pools path (Snap name))))
after_since earlier pools (cmd.Bookmark path version mark) = bookmarked pools path mark (version_at pools path version)
after_since earlier pools (cmd.DestroySnaps path names) = without_all pools path (map Snap names)
after_since earlier pools (cmd.DestroyMark path mark) = with_set pools path (without (Mark mark))
after_since earlier pools (cmd.Create path) = with_new pools (new_placeholder path)
after_since earlier pools (cmd.Transfer transfer) =
    transferred pools transfer (version_at earlier transfer.source (Snap transfer.to))
after_since earlier pools (cmd.Abort path) = aborted pools path
after_since earlier pools command = pools

-- what stands after a part of a transfer of this base: it leaves a partial receive, a resume the one that was there
abbrev pub cut : Pools → Transfer → Base → Pools
cut pools transfer base.Full = with_target pools transfer.target (with_partial (Some (partial_of transfer)))
cut pools transfer (base.From mark guid) = with_target pools transfer.target (with_partial (Some (partial_of transfer)))
cut pools transfer (base.Resume token from) = pools

-- what stands after a part of a command: only a transfer can come in part
abbrev pub part_of : Pools → Cmd → Pools
part_of pools (cmd.Transfer transfer) = cut pools transfer transfer.base
part_of pools command = pools

-- what stands after a chosen extent of a command: a destroy takes the chosen snapshots away, every other command nothing
abbrev pub chosen_of : Pools → Cmd → ℕ → Pools
chosen_of pools (cmd.DestroySnaps path names) bits = without_all pools path (map Snap (chosen bits names))
chosen_of pools command bits = pools

-- stands where a token says nothing
abbrev pub no_info : TokenInfo
no_info = record { to = no_guid; from = None }

-- what a command that came whole gives back
abbrev pub reply_to : Pools → Cmd → Reply
reply_to pools cmd.Sets = reply.Sets (map row_of_set pools.sets)
reply_to pools (cmd.Versions path) =
    reply.Versions (map row_of_version (versions_at pools path))
reply_to pools (cmd.Holds path name) = reply.Holds (tags_at pools path (Snap name))
reply_to pools (cmd.Token token) = reply.Token (option_map_or info_of (partial_of_token token) no_info)
reply_to pools command = reply.Nothing

-- what a command does: it is refused, or leaves pools and a reply
pub data Step : Type 0 where
  refuse : Refusal → Step
  go : Pools → Reply → Step

-- a refused command changes nothing
abbrev pub unless_refused : Option Refusal → Pools → Reply → Step
unless_refused (Some why) after given = refuse why
unless_refused None after given = go after given

-- the step that `apply` takes at an extent, all at one moment
abbrev pub step_at : Pools → Cmd → Extent → Step
step_at pools command extent.None = unless_refused (refusal pools command) pools reply.Nothing
step_at pools command extent.Part = unless_refused (refusal pools command) (part_of pools command) reply.Nothing
step_at pools command (extent.Chosen bits) =
    unless_refused (refusal pools command) (chosen_of pools command bits) reply.Nothing
step_at pools command extent.Whole =
    unless_refused (refusal pools command) (after_since pools pools command) (reply_to pools command)

-- how a call that applies a step answers it
abbrev pub Applies : Pools → Step → Pools → Result Reply ApplyFault → Type 0
Applies before (go next given) after (Ok reply) = (after ≡ next) × (reply ≡ given)
Applies before (refuse refusal) after (Err (Refused why)) = (why ≡ refusal) × (after ≡ before)
Applies before what after (Err NoMemory) = after ≡ before
Applies before what after result = ⊥

-- an abort takes the partial receive away; a dataset in its first receive may go with it or stay
abbrev pub Aborts : Pools → List ℕ → Pools → Type 0
Aborts before path after =
    (after ≡ with_set before path (with_partial None))
    ⊎ ((first_receive_at before path ≡ true) × (after ≡ without_set before path))

-- what the whole of a command may leave, whose sending end read the source at an earlier moment
abbrev pub Leaves : Pools → Pools → Cmd → Pools → Type 0
Leaves earlier before (cmd.Abort path) after = Aborts before path after
Leaves earlier before command after = after ≡ after_since earlier before command

-- how a path is shown in the rows of a listing of all datasets, and how it would be shown at a moment
abbrev pub row_at : List SetRow → List ℕ → Option SetRow
row_at rows path = find (λ row. same_text row.path path) rows

abbrev pub shown_at : Pools → List ℕ → Option SetRow
shown_at pools path = option_map row_of_set (dataset_at pools path)

-- a listing of all datasets walks them one after the other: in byte order, it shows each path as the pools had it, or
-- lacked it, at some moment, each path at a moment of its own
pub record ShowsSets (moments : List Pools) (rows : List SetRow) : Type 0 where
  pub rising : AllPairs (λ a b. is_below a.path b.path ≡ true) rows
  pub each : (path : List ℕ) → (moment : Pools) × Contains moments moment × (row_at rows path ≡ shown_at moment path)

-- what a command that came whole may give back, where the pools stood so at the moments since its issue
abbrev pub Replies : List Pools → Pools → Cmd → Reply → Type 0
Replies since before cmd.Sets (reply.Sets rows) = ShowsSets (since ++ before ∷ []) rows
Replies since before cmd.Sets given = ⊥
Replies since before command given = given ≡ reply_to before command

-- what an extent of a command may leave and give back, where it is not refused
abbrev pub Comes : List Pools → Pools → Pools → Cmd → Extent → Pools → Reply → Type 0
Comes since earlier before command extent.None after given = (after ≡ before) × (given ≡ reply.Nothing)
Comes since earlier before command extent.Part after given =
    (after ≡ part_of before command) × (given ≡ reply.Nothing)
Comes since earlier before command (extent.Chosen bits) after given =
    (after ≡ chosen_of before command bits) × (given ≡ reply.Nothing)
Comes since earlier before command extent.Whole after given =
    Leaves earlier before command after × Replies since before command given

-- a refused command changes nothing, and gives back why
abbrev pub ComesUnless : Option Refusal → List Pools → Pools → Pools → Cmd → Extent → Pools → Result Reply Refusal → Type 0
ComesUnless (Some refused) since earlier before command some after (Err why) = (why ≡ refused) × (after ≡ before)
ComesUnless None since earlier before command some after (Ok given) =
    Comes since earlier before command some after given
ComesUnless refused since earlier before command some after got = ⊥

-- the effect relation: the moments since a command's issue, before, the command, the extent that came, after, and what it
-- gives back. A sending end read the source at one moment since the issue; what the receiving end asks for holds at the
-- effect. Where nothing else runs there is no moment but the one before.
pub record Effect (since : List Pools) (before : Pools) (command : Cmd) (some : Extent) (after : Pools) (got : Result Reply Refusal) : Type 0 where
  pub earlier : Pools
  pub among : Contains (since ++ before ∷ []) earlier
  pub comes : ComesUnless (refusal_since earlier before command) since earlier before command some after got

-- an effect at some extent, or a refusal
abbrev pub MayCome : List Pools → Pools → Cmd → Pools → Type 0
MayCome since before command after =
    (some : Extent) × (got : Result Reply Refusal) × Effect since before command some after got

-- what a call that applies a command at an extent says by its answer: its effect, or that memory was refused
abbrev pub Gives : List Pools → Pools → Cmd → Extent → Pools → Result Reply ApplyFault → Type 0
Gives since before command some after (Ok given) = Effect since before command some after (Ok given)
Gives since before command some after (Err (Refused why)) = Effect since before command some after (Err why)
Gives since before command some after (Err NoMemory) = after ≡ before
