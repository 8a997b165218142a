use Rattle.std.specs.Prelude.{◌≡◌, ℕ, List, [], Ok, Option, Some, None, ⊤, ◌⊎◌}
use Rattle.zr_cmd.specs.Words.{receive_of, send_of, Spells}
use Rattle.zr_cmd.specs.declared.forms.ZfsCall.TheVariants as call
use Rattle.zr_exec.specs.declared.spawn.PipeExit.{PipeExit}
use Rattle.zr_exec.specs.declared.spawn.PipeExit.TheVariants as piped
use Rattle.zr_exec.specs.declared.spawn.RunExit.{RunExit}
use Rattle.zr_exec.specs.declared.spawn.RunExit.TheVariants.{Done, Nonzero}
use Rattle.zr_exec.specs.Listed.{Listed, listed_by}
use Rattle.zr_exec.specs.Listed as listed
use Rattle.zr_listing.specs.Listing.{IsHoldListing, IsSetListing, IsVersionListing}
use Rattle.zr_listing.specs.Token.{IsTokenListing}
use Rattle.zr_command.specs.declared.command.Cmd.{Cmd}
use Rattle.zr_command.specs.declared.command.Cmd.TheVariants as cmd
use Rattle.zr_command.specs.declared.command.Reply.{Reply}
use Rattle.zr_command.specs.declared.command.Reply.TheVariants as reply
use Rattle.zr_command.specs.declared.command.Transfer.{Transfer}
use Rattle.zr_world.specs.declared.effects.Extent.TheVariants as extent
use Rattle.zr_world.specs.declared.pools.Pools.{Pools}
use Rattle.zr_world.specs.Effect.{Effect, MayCome}
use Rattle.zr_world.specs.Answering.{StandsOn}

-- the bytes are a child's that gives this reply: the listing of these rows, and where nothing is listed any bytes
abbrev pub IsReply : Listed → List ℕ → Reply → Type 0
IsReply listed.sets bytes (reply.Sets rows) = IsSetListing bytes rows
IsReply (listed.versions path) bytes (reply.Versions rows) = IsVersionListing path bytes rows
IsReply (listed.holds path name) bytes (reply.Holds tags) = IsHoldListing path name bytes tags
IsReply listed.token bytes (reply.Token info) = IsTokenListing bytes info
IsReply listed.nothing bytes reply.Nothing = ⊤
IsReply what bytes given = ⊥

-- the bytes reply even where the child ended by itself with another status: contents of a token do, whose source may be
-- gone
abbrev pub IsReplyAnyhow : Listed → List ℕ → Reply → Type 0
IsReplyAnyhow listed.token bytes given = IsReply listed.token bytes given
IsReplyAnyhow what bytes given = ⊥

-- a child that ended by itself with another status did the whole command where its bytes reply even so, and else the
-- command may have had any extent
pub record DoesAnyhow (command : Cmd) (before after : Pools) (bytes : List ℕ) : Type 0 where
  pub some : MayCome [] before command after
  pub replied : (given : Reply) → IsReplyAnyhow (listed_by command) bytes given → Effect [] before command extent.Whole after (Ok given)

-- where nothing else runs, a child that ended well did the whole command and wrote its reply; after every other end the
-- command may have had any extent, unless its bytes reply even so
abbrev pub Does : Cmd → Pools → Pools → RunExit → List ℕ → Type 0
Does command before after Done bytes =
    (given : Reply) × Effect [] before command extent.Whole after (Ok given) × IsReply (listed_by command) bytes given
Does command before after Nonzero bytes = DoesAnyhow command before after bytes
Does command before after exit bytes = MayCome [] before command after

-- a child does the command that its words spell; where they spell none, as those of one end of a transfer alone, it does
-- nothing
pub record DoesWords (words : List (List ℕ)) (before after : Pools) (exit : RunExit) (bytes : List ℕ) : Type 0 where
  pub command : (given : Cmd) → Spells words (call.One given) → Does given before after exit bytes
  pub nothing : ((given : Cmd) → Spells words (call.One given) → ⊥) → after ≡ before

-- where a runner tells its pools, its children work on these
abbrev pub Serves : List (List ℕ) → Option Pools → Option Pools → RunExit → List ℕ → Type 0
Serves words (Some before) (Some after) exit bytes = DoesWords words before after exit bytes
Serves words None None exit bytes = ⊤
Serves words before after exit bytes = ⊥

-- the words are those of the two ends of the transfer
pub record SpellsPipe (send receive : List (List ℕ)) (transfer : Transfer) : Type 0 where
  pub sends : Spells send (send_of transfer)
  pub receives : Spells receive (receive_of transfer)

-- on these pools the words of a pipe give this transfer: they are those of its two ends, and what they do not name is as
-- it stands there
pub record PipeGives (send receive : List (List ℕ)) (pools : Pools) (transfer : Transfer) : Type 0 where
  pub spelled : SpellsPipe send receive transfer
  pub stands : StandsOn pools transfer

-- a transfer whose pipe ended well came whole, and after every other end it may have come at any extent
abbrev pub DoesTransfer : Transfer → Pools → Pools → PipeExit → Type 0
DoesTransfer transfer before after piped.Done =
    Effect [] before (cmd.Transfer transfer) extent.Whole after (Ok reply.Nothing)
DoesTransfer transfer before after exit = MayCome [] before (cmd.Transfer transfer) after

-- a pipe that ended well did a transfer that its words give on these pools; after every other end nothing came, or such a
-- transfer did at some extent
abbrev pub DoesPipe : List (List ℕ) → List (List ℕ) → Pools → Pools → PipeExit → Type 0
DoesPipe send receive before after piped.Done =
    (transfer : Transfer) × PipeGives send receive before transfer × DoesTransfer transfer before after piped.Done
DoesPipe send receive before after exit =
    (after ≡ before)
    ⊎ ((transfer : Transfer) × PipeGives send receive before transfer × DoesTransfer transfer before after exit)

-- where a runner tells its pools, its pipes work on these
abbrev pub ServesPipe : List (List ℕ) → List (List ℕ) → Option Pools → Option Pools → PipeExit → Type 0
ServesPipe send receive (Some before) (Some after) exit = DoesPipe send receive before after exit
ServesPipe send receive None None exit = ⊤
ServesPipe send receive before after exit = ⊥
