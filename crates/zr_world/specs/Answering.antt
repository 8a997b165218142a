use Rattle.std.specs.Prelude.{◌≡◌, ◌≢◌, ◌≤◌, ℕ, Bool, true, false, List, [], ◌∷◌, ◌++◌, Option, Some, None, Ok, option_map, ⊤, ◌⊎◌, AllPairs}
use Rattle.zr_base.specs.Count.{Rose}
use Rattle.zr_world.specs.declared.effects.Extent.TheVariants as extent
use Rattle.zr_command.specs.declared.command.Answer.{Answer}
use Rattle.zr_command.specs.declared.command.Answer.TheVariants.{Done, Failed, Garbled, NoMemory}
use Rattle.zr_command.specs.declared.command.Cmd.{Cmd}
use Rattle.zr_command.specs.declared.command.Cmd.TheVariants as cmd
use Rattle.zr_command.specs.declared.command.Entry.{Entry}
use Rattle.zr_command.specs.declared.command.Entry.TheVariants.{Call}
use Rattle.zr_command.specs.declared.command.Reply.TheVariants as reply
use Rattle.zr_world.specs.declared.pools.Pools.{Pools}
use Rattle.zr_world.specs.Effect.{Effect, MayCome}
use Rattle.zr_command.specs.Plain.{plain}
use Rattle.zr_command.specs.Listings.{IsSetList, IsVersionList}
use Rattle.zr_command.specs.declared.command.Base.{Base}
use Rattle.zr_command.specs.declared.command.Base.TheVariants as base
use Rattle.zr_command.specs.declared.command.Transfer.{Transfer}
use Rattle.zr_command.specs.declared.version.VersionName.TheVariants.{Snap}
use Rattle.zr_names.specs.declared.unit.Guid.{Guid}
use Rattle.zr_world.specs.declared.pools.Partial.{Partial}
use Rattle.zr_world.specs.Lookup.{first_of_guid}
use Rattle.zr_world.specs.Reasons.{first_that_applies, source_reasons}
use Rattle.zr_world.specs.Tokens.{partial_of_token}

abbrev pub is_failed : Answer → Bool
is_failed Failed = true
is_failed answer = false

abbrev pub is_garbled : Answer → Bool
is_garbled (Garbled line) = true
is_garbled answer = false

abbrev pub is_no_memory : Answer → Bool
is_no_memory NoMemory = true
is_no_memory answer = false

-- the cause of a failure: the count of faults never falls, and rises where `Failed` is answered
pub record HasCause (before now : ℕ) (answer : Answer) : Type 0 where
  pub later : before ≤ now
  pub rose : is_failed answer ≡ true → Rose before now

-- a record that is told, with these entries more at its end
abbrev pub appended : Option (List Entry) → List Entry → Option (List Entry)
appended None more = None
appended (Some entries) more = Some (entries ++ more)

-- the record has the call with its answer; where memory was refused, it may lack it or have another answer
abbrev pub Logs : Option (List Entry) → Option (List Entry) → Cmd → Answer → Type 0
Logs before now command NoMemory =
    (now ≡ before) ⊎ ((answer : Answer) × (now ≡ appended before (Call command answer ∷ [])))
Logs before now command answer = now ≡ appended before (Call command answer ∷ [])

-- the answer rule, where nothing else runs: `Done` says that the whole effect came, and what it gave back; after every
-- other answer the command may have had any extent
abbrev pub Answers : Cmd → Pools → Pools → Answer → Type 0
Answers command before after (Done given) = Effect [] before command extent.Whole after (Ok given)
Answers command before after answer = MayCome [] before command after

-- the words of a resume name its token: its source and guids are the token's, and its snapshot is the first on that
-- source with the token's guid
pub record IsByToken (pools : Pools) (transfer : Transfer) (token : List ℕ) (from : Option Guid) : Type 0 where
  pub partial : Partial
  pub is : partial_of_token token ≡ Some partial
  pub source : transfer.source ≡ partial.source
  pub guid : transfer.guid ≡ partial.to
  pub incremental : from ≡ partial.from
  pub first : option_map (λ version. version.name) (first_of_guid pools partial.source partial.to) ≡ Some (Snap transfer.to)

-- the words of a transfer of this base name no guids, which are those that stand on the source
abbrev pub StandsFrom : Pools → Transfer → Base → Type 0
StandsFrom pools transfer base.Full = first_that_applies (source_reasons pools transfer base.Full) ≡ None
StandsFrom pools transfer (base.From mark guid) =
    first_that_applies (source_reasons pools transfer (base.From mark guid)) ≡ None
StandsFrom pools transfer (base.Resume token from) = IsByToken pools transfer token from

-- what the words of a transfer do not name is as it stands on these pools
abbrev pub StandsOn : Pools → Transfer → Type 0
StandsOn pools transfer = StandsFrom pools transfer transfer.base

abbrev pub Stands : Pools → Cmd → Type 0
Stands pools (cmd.Transfer transfer) = StandsOn pools transfer
Stands pools command = ⊤

-- the command that the words of a command give on these pools: it has the same words, and what they do not name is as it
-- stands there
pub record IsGiven (pools : Pools) (asked given : Cmd) : Type 0 where
  pub same_words : plain given ≡ plain asked
  pub stands : Stands pools given

-- a command is answered by its own effect or, where it is a transfer, by that of the command that its words give
abbrev pub AnswersWords : Cmd → Pools → Pools → Answer → Type 0
AnswersWords command before after answer =
    Answers command before after answer
    ⊎ ((given : Cmd) × IsGiven before command given × Answers given before after answer)

-- where a runner tells its pools, it acts by the answer rule
abbrev pub Acts : Cmd → Option Pools → Option Pools → Answer → Type 0
Acts command (Some before) (Some after) answer = AnswersWords command before after answer
Acts command None None answer = ⊤
Acts command before after answer = ⊥

-- the answers that a command can have: its own kind of reply, whose names differ, or a failure; a
-- garbled listing for a listing alone
abbrev pub IsReplyTo : Cmd → Answer → Type 0
IsReplyTo cmd.Sets (Done (reply.Sets rows)) = IsSetList rows
IsReplyTo (cmd.Versions path) (Done (reply.Versions rows)) = IsVersionList rows
IsReplyTo (cmd.Holds path name) (Done (reply.Holds tags)) = AllPairs (λ a b. a ≢ b) tags
IsReplyTo (cmd.Token token) (Done (reply.Token info)) = ⊤
IsReplyTo (cmd.Snapshot path name) (Done reply.Nothing) = ⊤
IsReplyTo (cmd.Hold kind job path name) (Done reply.Nothing) = ⊤
IsReplyTo (cmd.Release kind job path name) (Done reply.Nothing) = ⊤
IsReplyTo (cmd.Bookmark path version mark) (Done reply.Nothing) = ⊤
IsReplyTo (cmd.DestroySnaps path names) (Done reply.Nothing) = ⊤
IsReplyTo (cmd.DestroyMark path mark) (Done reply.Nothing) = ⊤
IsReplyTo (cmd.Create path) (Done reply.Nothing) = ⊤
IsReplyTo (cmd.Transfer transfer) (Done reply.Nothing) = ⊤
IsReplyTo (cmd.Abort path) (Done reply.Nothing) = ⊤
IsReplyTo cmd.Sets (Garbled line) = ⊤
IsReplyTo (cmd.Versions path) (Garbled line) = ⊤
IsReplyTo (cmd.Holds path name) (Garbled line) = ⊤
IsReplyTo (cmd.Token token) (Garbled line) = ⊤
IsReplyTo command Failed = ⊤
IsReplyTo command NoMemory = ⊤
IsReplyTo command answer = ⊥
