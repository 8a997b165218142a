use Rattle.std.specs.Prelude.{◌≡◌, ℕ, ◌+◌, ◌-◌, ◌^◌, drop, min, List, [], ◌∷◌, ◌++◌, ◌⊎◌}
use Rattle.zr_exec.specs.declared.spawn.Line.{Line}
use Rattle.zr_exec.specs.declared.spawn.PipeExit.{PipeExit}
use Rattle.zr_exec.specs.declared.spawn.PipeExit.TheVariants as piped
use Rattle.zr_exec.specs.declared.spawn.RunExit.{RunExit}
use Rattle.zr_exec.specs.declared.spawn.RunExit.TheVariants.{NoMemory}
use Rattle.zr_exec.specs.Exits.{is_child_fault, is_pipe_fault}
use Rattle.zr_exec.specs.Recording.{call_line, pipe_line}
use Rattle.zr_model.specs.Ends.{EndsWords, PipeEnds}
use Rattle.zr_world.specs.Planned.{planned_at, risen_if}
use Rattle.zr_world.specs.declared.planned.PlannedFailure.{PlannedFailure}
use Rattle.zr_world.specs.declared.pools.Pools.{Pools}

-- a runner of children in memory: its pools, the calls that are to fail, how many calls and faults there were, and its
-- record
pub record Stored : Type 0 where
  pub pools : Pools
  pub failing : List PlannedFailure
  pub calls : ℕ
  pub faults : ℕ
  pub history : List Line

-- the call was put into the record and its exit is passed on, or the record is as before and want of memory is answered
abbrev pub IsRecorded : List Line → List Line → List (List ℕ) → RunExit → List ℕ → RunExit → Type 0
IsRecorded before now words exit written given =
    ((now ≡ before ++ call_line words exit written ∷ []) × (given ≡ exit)) ⊎ ((now ≡ before) × (given ≡ NoMemory))

-- the pipe was put into the record and its exit is passed on, or the record is as before and want of memory is answered
abbrev pub IsRecordedPipe : List Line → List Line → List (List ℕ) → List (List ℕ) → PipeExit → PipeExit → Type 0
IsRecordedPipe before now send receive exit given =
    ((now ≡ before ++ pipe_line send receive exit ∷ []) × (given ≡ exit)) ⊎ ((now ≡ before) × (given ≡ piped.NoMemory))

-- a child of a runner in memory: it is counted, ends by the plan for its number, and is recorded
pub record RanChild (before : Stored) (argv : List (List ℕ)) (after : Stored) (given : RunExit) (written : List ℕ) : Type 0 where
  pub exit : RunExit
  pub calls_are : after.calls ≡ min (before.calls + 1) (2 ^ 64 - 1)
  pub plan_is : after.failing ≡ before.failing
  pub ends : EndsWords (planned_at before.failing after.calls) (drop 1 argv) before.pools after.pools exit written
  pub faults_are : after.faults ≡ risen_if (is_child_fault exit) before.faults
  pub recorded : IsRecorded before.history after.history argv exit written given

-- and a pipe of two
pub record RanPipe (before : Stored) (send receive : List (List ℕ)) (after : Stored) (given : PipeExit) : Type 0 where
  pub exit : PipeExit
  pub calls_are : after.calls ≡ min (before.calls + 1) (2 ^ 64 - 1)
  pub plan_is : after.failing ≡ before.failing
  pub ends : PipeEnds (planned_at before.failing after.calls) (drop 1 send) (drop 1 receive) before.pools after.pools exit
  pub faults_are : after.faults ≡ risen_if (is_pipe_fault exit) before.faults
  pub recorded : IsRecordedPipe before.history after.history send receive exit given
