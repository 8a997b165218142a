use Rattle.std.specs.Prelude.{ℕ, List}
use Rattle.zr_command.specs.declared.command.Entry.{Entry}
use Rattle.zr_world.specs.declared.planned.PlannedFailure.{PlannedFailure}
use Rattle.zr_world.specs.declared.pools.Pools.{Pools}

-- a runner in memory: its pools, the calls that are to fail, how many calls and faults there were, and
-- its record
pub record Memory : Type 0 where
  pub pools : Pools
  pub failing : List PlannedFailure
  pub calls : ℕ
  pub faults : ℕ
  pub history : List Entry
