use Rattle.std.specs.Prelude.{◌==◌, ◌||◌, ◌-◌, ◌^◌, Bool, true, false, not, if◌then◌else◌, List, [], ◌∷◌, ◌++◌, Option, Some, None, is_none, is_some, length, ℕ}
use Rattle.std.specs.List.{list_any}
use Rattle.std.specs.Option.{option_map_or}
use Rattle.zr_names.specs.Marks.{tag_text}
use Rattle.zr_names.specs.declared.unit.Guid.{Guid}
use Rattle.zr_command.specs.declared.command.Base.{Base}
use Rattle.zr_command.specs.declared.command.Base.TheVariants as base
use Rattle.zr_command.specs.declared.command.Cmd.{Cmd}
use Rattle.zr_command.specs.declared.command.Cmd.TheVariants as cmd
use Rattle.zr_command.specs.declared.command.Transfer.{Transfer}
use Rattle.zr_world.specs.declared.effects.Refusal.{Refusal}
use Rattle.zr_world.specs.declared.effects.Refusal.TheVariants.{NoSuch, Exists, Held, TagThere, TagMissing, NotNewest, HasPartial, NoPartial, Spent}
use Rattle.zr_world.specs.declared.pools.Dataset.{Dataset}
use Rattle.zr_world.specs.declared.pools.Pools.{Pools}
use Rattle.zr_command.specs.declared.version.VersionName.TheVariants.{Snap, Mark}
use Rattle.zr_world.specs.Lookup.{dataset_at, has_guid, has_source, in_first_receive, newest, parent_at, partial_at, stands, tags_at, version_at}
use Rattle.zr_command.specs.Names.{is_tagged, same_text}
use Rattle.zr_world.specs.Rows.{token_text}
use Rattle.zr_world.specs.Tokens.{partial_of_token}

-- the refusal whose condition is the first that applies
abbrev pub first_that_applies : List (Bool × Refusal) → Option Refusal
first_that_applies [] = None
first_that_applies (reason ∷ more) = if reason.0 then Some reason.1 else first_that_applies more

-- no transaction group is left
abbrev pub is_spent : Pools → Bool
is_spent pools = pools.next_txg == (2 ^ 64 - 1)

-- no transaction group is left, or no guid
abbrev pub are_spent : Pools → Bool
are_spent pools = is_spent pools || (pools.next_guid == (2 ^ 64 - 1))

-- what the sending end of a transfer of this base looks at: the snapshot and what it starts from, with their guids, on the
-- source
abbrev pub source_reasons : Pools → Transfer → Base → List (Bool × Refusal)
source_reasons pools transfer base.Full =
    (not (stands pools transfer.source (Snap transfer.to) transfer.guid), NoSuch) ∷ []
source_reasons pools transfer (base.From mark guid) =
    (not (stands pools transfer.source (Snap transfer.to) transfer.guid), NoSuch)
    ∷ (not (stands pools transfer.source (Mark mark) guid), NoSuch) ∷ []
source_reasons pools transfer (base.Resume token from) =
    (not (stands pools transfer.source (Snap transfer.to) transfer.guid), NoSuch)
    ∷ (not (has_source pools transfer.source from), NoSuch) ∷ []

-- a full receive needs a target that is not there yet, below a dataset that is, or one without snapshots whose place it
-- is forced to take
abbrev pub full_reasons : Pools → Transfer → Option Dataset → List (Bool × Refusal)
full_reasons pools transfer (Some set) =
    (is_some set.partial, HasPartial)
    ∷ (is_some (newest set) || not transfer.force, Exists)
    ∷ (is_spent pools, Spent) ∷ []
full_reasons pools transfer None =
    (is_none (parent_at pools transfer.target), NoSuch)
    ∷ (option_map_or in_first_receive (parent_at pools transfer.target) false, HasPartial)
    ∷ (is_spent pools, Spent) ∷ []

-- an increment needs a target whose newest snapshot is the one of the mark
abbrev pub increment_reasons : Pools → Transfer → Guid → Option Dataset → List (Bool × Refusal)
increment_reasons pools transfer guid None = (true, NoSuch) ∷ []
increment_reasons pools transfer guid (Some set) =
    (is_some set.partial, HasPartial)
    ∷ (not (option_map_or (has_guid guid) (newest set) false), NotNewest)
    ∷ (is_some (version_at pools transfer.target (Snap transfer.to)), Exists)
    ∷ (is_spent pools, Spent) ∷ []

-- a resume needs a target with the partial receive of its token
abbrev pub partial_reasons : List ℕ → Option Dataset → List (Bool × Refusal)
partial_reasons token None = (true, NoSuch) ∷ []
partial_reasons token (Some set) =
    (is_none set.partial, NoPartial)
    ∷ (not (option_map_or (λ partial. same_text (token_text partial) token) set.partial false), NotNewest) ∷ []

-- and then that no snapshot of the name is there
abbrev pub arrival_reasons : Pools → Transfer → List (Bool × Refusal)
arrival_reasons pools transfer =
    (is_some (version_at pools transfer.target (Snap transfer.to)), Exists) ∷ (is_spent pools, Spent) ∷ []

-- why a transfer of this base is refused; the sending end of a resume looks at the source only once the target has its
-- partial receive
abbrev pub transfer_reasons : Pools → Pools → Transfer → Base → List (Bool × Refusal)
transfer_reasons earlier pools transfer base.Full =
    source_reasons earlier transfer base.Full ++ full_reasons pools transfer (dataset_at pools transfer.target)
transfer_reasons earlier pools transfer (base.From mark guid) =
    source_reasons earlier transfer (base.From mark guid)
    ++ increment_reasons pools transfer guid (dataset_at pools transfer.target)
transfer_reasons earlier pools transfer (base.Resume token from) =
    partial_reasons token (dataset_at pools transfer.target)
    ++ (source_reasons earlier transfer (base.Resume token from) ++ arrival_reasons pools transfer)

-- a snapshot of this name is there
abbrev pub is_there : Pools → List ℕ → List ℕ → Bool
is_there pools path name = is_some (version_at pools path (Snap name))

-- it is there and has a tag
abbrev pub is_held : Pools → List ℕ → List ℕ → Bool
is_held pools path name = not (length (tags_at pools path (Snap name)) == 0)

-- the table of refusals, by the moment at which a sending end looks at the source and the moment of the effect
abbrev pub reasons : Pools → Pools → Cmd → List (Bool × Refusal)
reasons earlier pools cmd.Sets = []
reasons earlier pools (cmd.Versions path) = (is_none (dataset_at pools path), NoSuch) ∷ []
reasons earlier pools (cmd.Holds path name) = (is_none (version_at pools path (Snap name)), NoSuch) ∷ []
reasons earlier pools (cmd.Token token) = (is_none (partial_of_token token), NoSuch) ∷ []
reasons earlier pools (cmd.Snapshot path name) =
    (is_none (dataset_at pools path), NoSuch)
    ∷ (is_some (version_at pools path (Snap name)), Exists)
    ∷ (are_spent pools, Spent) ∷ []
reasons earlier pools (cmd.Hold kind job path name) =
    (is_none (version_at pools path (Snap name)), NoSuch)
    ∷ (is_tagged (tags_at pools path (Snap name)) (tag_text kind job), TagThere) ∷ []
reasons earlier pools (cmd.Release kind job path name) =
    (is_none (version_at pools path (Snap name)), NoSuch)
    ∷ (not (is_tagged (tags_at pools path (Snap name)) (tag_text kind job)), TagMissing) ∷ []
reasons earlier pools (cmd.Bookmark path version mark) =
    (is_none (version_at pools path version), NoSuch)
    ∷ (is_some (version_at pools path (Mark mark)), Exists) ∷ []
reasons earlier pools (cmd.DestroySnaps path names) =
    (not (list_any (is_there pools path) names), NoSuch) ∷ (list_any (is_held pools path) names, Held) ∷ []
reasons earlier pools (cmd.DestroyMark path mark) = (is_none (version_at pools path (Mark mark)), NoSuch) ∷ []
reasons earlier pools (cmd.Create path) =
    (is_some (dataset_at pools path), Exists)
    ∷ (is_none (parent_at pools path), NoSuch)
    ∷ (option_map_or in_first_receive (parent_at pools path) false, HasPartial) ∷ []
reasons earlier pools (cmd.Transfer transfer) = transfer_reasons earlier pools transfer transfer.base
reasons earlier pools (cmd.Abort path) =
    (is_none (dataset_at pools path), NoSuch)
    ∷ (is_none (partial_at pools path), NoPartial) ∷ []

-- why a command is refused, where its sending end looks at the source at an earlier moment
abbrev pub refusal_since : Pools → Pools → Cmd → Option Refusal
refusal_since earlier pools command = first_that_applies (reasons earlier pools command)

-- why a command is refused
abbrev pub refusal : Pools → Cmd → Option Refusal
refusal pools command = refusal_since pools pools command
