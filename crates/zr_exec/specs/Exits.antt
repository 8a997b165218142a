use Rattle.std.specs.Prelude.{◌≡◌, ◌≤◌, ℕ, Bool, true, false}
use Rattle.zr_base.specs.Count.{Rose}
use Rattle.zr_exec.specs.declared.spawn.PipeExit.{PipeExit}
use Rattle.zr_exec.specs.declared.spawn.PipeExit.TheVariants as piped
use Rattle.zr_exec.specs.declared.spawn.RunExit.{RunExit}
use Rattle.zr_exec.specs.declared.spawn.RunExit.TheVariants.{Done, Nonzero, Failed, TooLong, NoMemory}

-- the child failed: it ended with another status than 0, did not run to its end, or wrote too much
abbrev pub is_child_fault : RunExit → Bool
is_child_fault Done = false
is_child_fault Nonzero = true
is_child_fault Failed = true
is_child_fault TooLong = true
is_child_fault NoMemory = false

-- the cause of a child's fault: the count of failed children never falls, and rises at each fault
pub record HasExitCause (before now : ℕ) (exit : RunExit) : Type 0 where
  pub later : before ≤ now
  pub rose : is_child_fault exit ≡ true → Rose before now

-- an end of the pipe failed
abbrev pub is_pipe_fault : PipeExit → Bool
is_pipe_fault piped.Done = false
is_pipe_fault piped.Failed = true
is_pipe_fault piped.NoMemory = false

-- the cause of a pipe's fault: the count of failed children never falls, and rises at each fault
pub record HasPipeCause (before now : ℕ) (exit : PipeExit) : Type 0 where
  pub later : before ≤ now
  pub rose : is_pipe_fault exit ≡ true → Rose before now
