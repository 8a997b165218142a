use Rattle.std.proofs.Common.{◌≡◌, ◌++◌, drop}
use Rattle.zr_plan.specs.Plan.{steps_of}
use Rattle.zr_plan.proofs.planning.push_steps.Given as goal

-- the steps so far, and those of the rows that are left, are those of all rows
abbrev pub invariant-loop-row : goal.invariant-loop-row
invariant-loop-row l = l.steps ++ steps_of (drop l.row-index l.rows) ≡ l.fn.steps ++ steps_of l.rows
