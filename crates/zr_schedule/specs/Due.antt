-- When a schedule is due.
use Rattle.std.specs.Prelude.{ℕ, ◌+◌, ◌≤◌, Option, Some, None}
use Rattle.zr_schedule.specs.declared.schedule.When.{When}
use Rattle.zr_schedule.specs.declared.schedule.When.TheVariants.{Never, Every, Cron}
use Rattle.zr_schedule.specs.Schedule.{IsNextMinute}

-- Due so many ms after the last time, and at once where there is no last time. A cron is due where its next minute after the last time has come.
abbrev pub IsDue : When → Option ℕ → ℕ → Type 0
IsDue Never last now = ⊥
IsDue (Every ms) None now = Unit {0}
IsDue (Every ms) (Some last) now = last + ms ≤ now
IsDue (Cron spec) None now = ⊥
IsDue (Cron spec) (Some last) now = (next : ℕ) × IsNextMinute spec last (Some next) × (next ≤ now)
