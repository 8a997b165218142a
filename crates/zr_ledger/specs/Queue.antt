-- What waits, and the room for more.
use Rattle.std.specs.Prelude.{◌≤◌, ◌==◌, ℕ, Bool, List, count_by, length, slice_index}
use Rattle.zr_names.specs.declared.unit.Unit.{Unit}

-- the units of one job in the order of adding, and how many more find room without memory
pub record Lined : Type 0 where
  pub units : List Unit
  pub room : ℕ

-- the units that wait in the order of adding, and how many more find room: in the order, and of each job
pub record Queued : Type 0 where
  pub units : List Unit
  pub room : ℕ
  pub rooms : List ℕ

-- a unit of a job
abbrev pub is_of_job : ℕ → Unit → Bool
is_of_job job unit = unit.job == job

-- there is room for these units
pub record HasRoomFor (waiting : Queued) (units : List Unit) : Type 0 where
  pub order : length units ≤ waiting.room
  pub lines : (job : ℕ) → count_by (is_of_job job) units ≤ slice_index waiting.rooms job
