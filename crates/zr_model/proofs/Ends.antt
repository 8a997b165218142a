use Rattle.std.proofs.Common.{◌≡◌, ℕ, ◌+◌, ◌-◌, ◌^◌, drop, min, List, Ok, Option, Some, None, inl, inr, refl, sym, subst}
use Rattle.zr_cmd.specs.Words.{receive_of, send_of, Spells}
use Rattle.zr_cmd.specs.declared.forms.ZfsCall.{ZfsCall}
use Rattle.zr_cmd.specs.declared.forms.ZfsCall.TheVariants as call
use Rattle.zr_exec.specs.declared.spawn.Line.{Line}
use Rattle.zr_exec.specs.declared.spawn.PipeExit.{PipeExit}
use Rattle.zr_exec.specs.declared.spawn.PipeExit.TheVariants as piped
use Rattle.zr_exec.specs.declared.spawn.RunExit.{RunExit}
use Rattle.zr_exec.specs.declared.spawn.RunExit.TheVariants.{NoMemory}
use Rattle.zr_model.specs.Piping.{AreEnds, FindsOne}
use Rattle.zr_exec.specs.Serving.{Does, DoesPipe, DoesTransfer, DoesWords, PipeGives}
use Rattle.zr_exec.proofs.Answers.{does_short}
use Rattle.zr_exec.proofs.Commands.{one_call, one_command}
use Rattle.zr_exec.specs.Exits.{is_child_fault, is_pipe_fault}
use Rattle.zr_model.specs.Ends.{EndsWords, PipeEnds}
use Rattle.zr_model.specs.Stored.{IsRecorded, IsRecordedPipe, RanChild, RanPipe, Stored}
use Rattle.zr_world.specs.Planned.{planned_at, risen_if}
use Rattle.zr_world.specs.declared.effects.Extent.{Extent}
use Rattle.zr_command.specs.declared.command.Cmd.{Cmd}
use Rattle.zr_command.specs.declared.command.Reply.TheVariants as reply
use Rattle.zr_command.specs.declared.command.Transfer.{Transfer}
use Rattle.zr_world.specs.declared.effects.Extent.TheVariants as extent
use Rattle.zr_world.specs.declared.pools.Pools.{Pools}
use Rattle.zr_world.proofs.Applied.{nothing-comes}

short : (words : List (List ℕ)) (before after : Pools) (exit : RunExit) (bytes : List ℕ) → DoesWords words before after exit bytes → DoesWords words before after NoMemory bytes
short words before after exit bytes does = record {
  command = λ given spelled. does_short given before after exit bytes (does.command given spelled);
  nothing = does.nothing;
}

-- what a child did, by the exit that is passed on once the call is recorded
pub does_recorded : (words all noted : List (List ℕ)) (before old after : Pools) (lines more : List Line) (exit given : RunExit) (bytes written : List ℕ) → words ≡ all → before ≡ old → DoesWords words before after exit bytes → IsRecorded lines more noted exit written given → DoesWords all old after given bytes
does_recorded words all noted before old after lines more exit given bytes written same_words same_pools does recorded =
    subst (λ (ws : List (List ℕ)). DoesWords ws old after given bytes) same_words
    (subst (λ (p : Pools). DoesWords words p after given bytes) same_pools
    (elim recorded [
      | inl kept ↦ subst (λ (e : RunExit). DoesWords words before after e bytes) (sym kept.1) does
      | inr lost ↦ subst (λ (e : RunExit). DoesWords words before after e bytes) (sym lost.1) (short words before after exit bytes does)
    ]))

-- a child for which memory is refused before it begins does nothing
pub does_nothing : (words : List (List ℕ)) (pools : Pools) (bytes : List ℕ) → DoesWords words pools pools NoMemory bytes
does_nothing words pools bytes = record { command = λ given spelled. nothing-comes pools given; nothing = λ none. refl }

-- a child that does the command that its words spell
pub does_spelled : (words : List (List ℕ)) (command : Cmd) (before after : Pools) (exit : RunExit) (bytes : List ℕ) → Spells words (call.One command) → Does command before after exit bytes → DoesWords words before after exit bytes
does_spelled words command before after exit bytes spelled does = record {
  command = λ given other. subst (λ (c : Cmd). Does c before after exit bytes) (one_command words command given spelled other) does;
  nothing = λ none. absurd (none command spelled);
}

transfer-short : (transfer : Transfer) (before after : Pools) → DoesTransfer transfer before after piped.Done → DoesTransfer transfer before after piped.NoMemory
transfer-short transfer before after does = (extent.Whole, Ok reply.Nothing, does)

pipe-short : (send receive : List (List ℕ)) (before after : Pools) (exit : PipeExit) → DoesPipe send receive before after exit → DoesPipe send receive before after piped.NoMemory
pipe-short send receive before after piped.Done does = inr (does.0, does.1, transfer-short does.0 before after does.2)
pipe-short send receive before after piped.Failed does = does
pipe-short send receive before after piped.NoMemory does = does

-- what a pipe did, by the exit that is passed on once the pipe is recorded
pub pipe_recorded : (send all_send receive all_receive noted_send noted_receive : List (List ℕ)) (before old after : Pools) (lines more : List Line) (exit given : PipeExit) → send ≡ all_send → receive ≡ all_receive → before ≡ old → DoesPipe send receive before after exit → IsRecordedPipe lines more noted_send noted_receive exit given → DoesPipe all_send all_receive old after given
pipe_recorded send all_send receive all_receive noted_send noted_receive before old after lines more exit given same_send same_receive same_pools does recorded =
    subst (λ (ws : List (List ℕ)). DoesPipe ws all_receive old after given) same_send
    (subst (λ (ws : List (List ℕ)). DoesPipe send ws old after given) same_receive
    (subst (λ (p : Pools). DoesPipe send receive p after given) same_pools
    (elim recorded [
      | inl kept ↦ subst (DoesPipe send receive before after) (sym kept.1) does
      | inr lost ↦ subst (DoesPipe send receive before after) (sym lost.1) (pipe-short send receive before after exit does)
    ])))

-- a pipe whose words spell no call at one of its ends gives no transfer
pub unsent : (send receive : List (List ℕ)) (pools : Pools) (transfer : Transfer) → ((given : ZfsCall) → Spells send given → ⊥) → PipeGives send receive pools transfer → ⊥
unsent send receive pools transfer none gives = none (send_of transfer) gives.spelled.sends

pub unreceived : (send receive : List (List ℕ)) (pools : Pools) (transfer : Transfer) → ((given : ZfsCall) → Spells receive given → ⊥) → PipeGives send receive pools transfer → ⊥
unreceived send receive pools transfer none gives = none (receive_of transfer) gives.spelled.receives

-- a pipe whose words spell these calls gives the transfer whose ends they are
pub found_gives : (send receive : List (List ℕ)) (pools : Pools) (sends receives : ZfsCall) (found : Option Transfer) → Spells send sends → Spells receive receives → FindsOne (AreEnds pools sends receives) found → FindsOne (PipeGives send receive pools) found
found_gives send receive pools sends receives None sent received none = λ other gives. none other (record {
  sends = one_call send sends (send_of other) sent gives.spelled.sends;
  receives = one_call receive receives (receive_of other) received gives.spelled.receives;
  stands = gives.stands;
})
found_gives send receive pools sends receives (Some transfer) sent received ends = record {
  spelled = record {
    sends = subst (Spells send) ends.sends sent;
    receives = subst (Spells receive) ends.receives received;
  };
  stands = ends.stands;
}

-- what a runner in memory did with a child, put together
pub child-ran : (inside before : Stored) (argv words : List (List ℕ)) (plan : Option Extent) (calls faults : ℕ) (pools : Pools) (history : List Line) (exit given : RunExit) (written shown : List ℕ) → inside ≡ before → calls ≡ min (inside.calls + 1) (2 ^ 64 - 1) → plan ≡ planned_at inside.failing calls → words ≡ drop 1 argv → EndsWords plan words inside.pools pools exit written → faults ≡ risen_if (is_child_fault exit) inside.faults → shown ≡ written → IsRecorded inside.history history argv exit shown given → RanChild before argv (record { pools = pools; failing = inside.failing; calls = calls; faults = faults; history = history }) given written
child-ran inside before argv words plan calls faults pools history exit given written shown same counted planned behind ends risen shows recorded =
    let after : Stored = record { pools = pools; failing = inside.failing; calls = calls; faults = faults; history = history } in
    let by_plan = subst (λ (p : Option Extent). EndsWords p words inside.pools pools exit written) planned ends in
    let by_words = subst (λ (ws : List (List ℕ)). EndsWords (planned_at inside.failing calls) ws inside.pools pools exit written) behind by_plan in
    subst (λ (b : Stored). RanChild b argv after given written) same
    (record { exit = exit; calls_are = counted; plan_is = refl; ends = by_words; faults_are = risen; recorded = subst (λ (w : List ℕ). IsRecorded inside.history history argv exit w given) shows recorded })

-- and with a pipe
pub pair-ran : (inside before : Stored) (send receive sends receives : List (List ℕ)) (plan : Option Extent) (calls faults : ℕ) (pools : Pools) (history : List Line) (exit given : PipeExit) → inside ≡ before → calls ≡ min (inside.calls + 1) (2 ^ 64 - 1) → plan ≡ planned_at inside.failing calls → sends ≡ drop 1 send → receives ≡ drop 1 receive → PipeEnds plan sends receives inside.pools pools exit → faults ≡ risen_if (is_pipe_fault exit) inside.faults → IsRecordedPipe inside.history history send receive exit given → RanPipe before send receive (record { pools = pools; failing = inside.failing; calls = calls; faults = faults; history = history }) given
pair-ran inside before send receive sends receives plan calls faults pools history exit given same counted planned behind_send behind_receive ends risen recorded =
    let after : Stored = record { pools = pools; failing = inside.failing; calls = calls; faults = faults; history = history } in
    let by_plan = subst (λ (p : Option Extent). PipeEnds p sends receives inside.pools pools exit) planned ends in
    let by_send = subst (λ (ws : List (List ℕ)). PipeEnds (planned_at inside.failing calls) ws receives inside.pools pools exit) behind_send by_plan in
    let by_both = subst (λ (ws : List (List ℕ)). PipeEnds (planned_at inside.failing calls) (drop 1 send) ws inside.pools pools exit) behind_receive by_send in
    subst (λ (b : Stored). RanPipe b send receive after given) same
    (record { exit = exit; calls_are = counted; plan_is = refl; ends = by_both; faults_are = risen; recorded = recorded })
