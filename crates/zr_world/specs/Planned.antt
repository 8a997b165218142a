use Rattle.std.specs.Prelude.{◌≡◌, ◌==◌, ℕ, ◌+◌, ◌-◌, ◌^◌, ◌⊎◌, Bool, true, false, List, Option, Some, None, find, is_some, min, option_map}
use Rattle.zr_command.specs.Plain.{plain}
use Rattle.zr_command.specs.declared.command.Answer.{Answer}
use Rattle.zr_command.specs.declared.command.Answer.TheVariants.{Done, Failed, Garbled, NoMemory}
use Rattle.zr_command.specs.declared.command.Cmd.{Cmd}
use Rattle.zr_command.specs.declared.command.Reply.{Reply}
use Rattle.zr_world.specs.declared.effects.Extent.{Extent}
use Rattle.zr_world.specs.declared.effects.Extent.TheVariants as extent
use Rattle.zr_world.specs.declared.pools.Pools.{Pools}
use Rattle.zr_world.specs.Effect.{go, step_at}
use Rattle.zr_world.specs.declared.planned.PlannedFailure.{PlannedFailure}
use Rattle.zr_world.specs.Answering.{is_failed}
use Rattle.zr_world.specs.Mem.{Recorded}
use Rattle.zr_world.specs.Memory.{Memory}
use Rattle.zr_world.specs.Reasons.{refusal}

-- what a command that is to fail at an extent leaves: that extent of it, or nothing, as where it is refused
abbrev pub LeavesAt : Cmd → Extent → Pools → Pools → Type 0
LeavesAt command some before after =
    ((given : Reply) × (step_at before command some ≡ go after given)) ⊎ (after ≡ before)

-- how a command is answered that no plan fails: it came whole, or it is refused, or memory was refused
abbrev pub ComesWhole : Cmd → Pools → Pools → Answer → Type 0
ComesWhole command before after (Done given) = step_at before command extent.Whole ≡ go after given
ComesWhole command before after Failed = (is_some (refusal before command) ≡ true) × (after ≡ before)
ComesWhole command before after (Garbled line) = ⊥
ComesWhole command before after NoMemory = after ≡ before

-- how a command is answered, by the plan for it
abbrev pub ComesAt : Option Extent → Cmd → Pools → Pools → Answer → Type 0
ComesAt None command before after answer = ComesWhole command before after answer
ComesAt (Some some) command before after answer = (answer ≡ Failed) × LeavesAt command some before after

-- a count of faults after a call that failed, or did not
abbrev pub risen_if : Bool → ℕ → ℕ
risen_if true faults = min (faults + 1) (2 ^ 64 - 1)
risen_if false faults = faults

-- the extent at which the call of this number is to fail, if it is
abbrev pub planned_at : List PlannedFailure → ℕ → Option Extent
planned_at failing call = option_map (λ planned. planned.extent) (find (λ planned. planned.call == call) failing)

-- a call of a runner in memory: it is counted, answered by the plan for its number, and recorded
pub record Called (before : Memory) (command : Cmd) (after : Memory) (given : Answer) : Type 0 where
  pub answer : Answer
  pub calls_are : after.calls ≡ min (before.calls + 1) (2 ^ 64 - 1)
  pub plan_is : after.failing ≡ before.failing
  pub comes : ComesAt (planned_at before.failing after.calls) command before.pools after.pools answer
  pub faults_are : after.faults ≡ risen_if (is_failed answer) before.faults
  pub recorded : Recorded before.history after.history (plain command) answer given
