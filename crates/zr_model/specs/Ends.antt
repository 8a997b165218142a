use Rattle.std.specs.Prelude.{◌≡◌, ℕ, Bool, true, false, List, [], Option, Some, None, ⊤, ◌⊎◌, is_some}
use Rattle.std.specs.Option.{option_map_or}
use Rattle.zr_cmd.specs.Words.{Spells}
use Rattle.zr_cmd.specs.declared.forms.ZfsCall.TheVariants as call
use Rattle.zr_command.specs.declared.command.Cmd.{Cmd}
use Rattle.zr_command.specs.declared.command.Cmd.TheVariants as cmd
use Rattle.zr_command.specs.declared.command.Reply.{Reply}
use Rattle.zr_command.specs.declared.command.Reply.TheVariants as reply
use Rattle.zr_command.specs.declared.command.Transfer.{Transfer}
use Rattle.zr_exec.specs.Listed.{listed_by}
use Rattle.zr_exec.specs.Serving.{IsReply, PipeGives}
use Rattle.zr_exec.specs.declared.spawn.PipeExit.{PipeExit}
use Rattle.zr_exec.specs.declared.spawn.PipeExit.TheVariants as piped
use Rattle.zr_exec.specs.declared.spawn.RunExit.{RunExit}
use Rattle.zr_exec.specs.declared.spawn.RunExit.TheVariants.{Done, Nonzero, Failed, NoMemory}
use Rattle.zr_listing.specs.Printing.{MarksAreFree}
use Rattle.zr_world.specs.Effect.{go, step_at}
use Rattle.zr_world.specs.Lookup.{first_of_guid}
use Rattle.zr_world.specs.Planned.{LeavesAt}
use Rattle.zr_world.specs.Reasons.{refusal}
use Rattle.zr_world.specs.Tokens.{partial_of_token}
use Rattle.zr_world.specs.declared.effects.Extent.{Extent}
use Rattle.zr_world.specs.declared.effects.Extent.TheVariants as extent
use Rattle.zr_world.specs.declared.pools.Pools.{Pools}

-- the reply counts no holds at a bookmark
abbrev pub AreFree : Reply → Type 0
AreFree (reply.Versions rows) = MarksAreFree rows
AreFree given = ⊤

-- the source of a token still has the snapshot that the token sends; every other command has no such source
abbrev pub is_sendable : Pools → Cmd → Bool
is_sendable pools (cmd.Token token) =
    option_map_or (λ partial. is_some (first_of_guid pools partial.source partial.to)) (partial_of_token token) false
is_sendable pools command = true

-- the command came whole, and the bytes are its reply
pub record WritesReply (command : Cmd) (before after : Pools) (bytes : List ℕ) : Type 0 where
  pub given : Reply
  pub whole : step_at before command extent.Whole ≡ go after given
  pub is_reply : IsReply (listed_by command) bytes given

-- how a child ends that writes a text as its reply: well where it may, and else with another status; it may write too much,
-- and memory may be refused
abbrev pub Wrote : Bool → List ℕ → List ℕ → RunExit → Type 0
Wrote sendable text bytes Done = (sendable ≡ true) × (bytes ≡ text)
Wrote sendable text bytes Nonzero = (sendable ≡ false) × (bytes ≡ text)
Wrote sendable text bytes Failed = ⊥
Wrote sendable text bytes exit = ⊤

-- the command is refused, does nothing and writes nothing
pub record IsRefused (command : Cmd) (before after : Pools) (bytes : List ℕ) : Type 0 where
  pub refused : is_some (refusal before command) ≡ true
  pub same : after ≡ before
  pub silent : bytes ≡ []

-- how the child of a command ends that no plan fails: well, with what it prints, or with another status where the command is
-- refused, and where it prints what a token says whose source is gone; where it wrote too much the command came whole, and
-- where memory was refused it may have
abbrev pub EndsWhole : Cmd → Pools → Pools → RunExit → List ℕ → Type 0
EndsWhole command before after Done written =
    WritesReply command before after written × (is_sendable before command ≡ true)
EndsWhole command before after Nonzero written =
    IsRefused command before after written
    ⊎ (WritesReply command before after written × (is_sendable before command ≡ false))
EndsWhole command before after Failed written = ⊥
EndsWhole command before after exit written = LeavesAt command extent.Whole before after

-- how the child of a command ends, by the plan for it: where that fails it, it is killed
abbrev pub EndsAt : Option Extent → Cmd → Pools → Pools → RunExit → List ℕ → Type 0
EndsAt None command before after exit written = EndsWhole command before after exit written
EndsAt (Some some) command before after exit written = (exit ≡ Failed) × LeavesAt command some before after

-- how a child ends: as that of the command that its words spell; where they spell none it does and writes nothing, and does
-- nothing where memory was refused before
abbrev pub EndsWords : Option Extent → List (List ℕ) → Pools → Pools → RunExit → List ℕ → Type 0
EndsWords plan words before after exit written =
    ((given : Cmd) × Spells words (call.One given) × EndsAt plan given before after exit written)
    ⊎ ((((given : Cmd) → Spells words (call.One given) → ⊥) × (exit ≡ Nonzero) × (after ≡ before) × (written ≡ []))
    ⊎ ((exit ≡ NoMemory) × (after ≡ before)))

-- how the pipe of a transfer ends, by the plan for it
abbrev pub PipeEndsAt : Option Extent → Transfer → Pools → Pools → PipeExit → Type 0
PipeEndsAt None transfer before after piped.Done =
    step_at before (cmd.Transfer transfer) extent.Whole ≡ go after reply.Nothing
PipeEndsAt None transfer before after piped.Failed =
    (is_some (refusal before (cmd.Transfer transfer)) ≡ true) × (after ≡ before)
PipeEndsAt None transfer before after piped.NoMemory = after ≡ before
PipeEndsAt (Some some) transfer before after exit =
    (exit ≡ piped.Failed) × LeavesAt (cmd.Transfer transfer) some before after

-- how a pipe ends: as that of a transfer that its words give on these pools; where they give none it does nothing, and
-- nothing where memory was refused before
abbrev pub PipeEnds : Option Extent → List (List ℕ) → List (List ℕ) → Pools → Pools → PipeExit → Type 0
PipeEnds plan send receive before after exit =
    ((given : Transfer) × PipeGives send receive before given × PipeEndsAt plan given before after exit)
    ⊎ ((((given : Transfer) → PipeGives send receive before given → ⊥) × (exit ≡ piped.Failed) × (after ≡ before))
    ⊎ ((exit ≡ piped.NoMemory) × (after ≡ before)))
