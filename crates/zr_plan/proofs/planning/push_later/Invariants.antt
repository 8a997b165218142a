use Rattle.std.proofs.Common.{◌≡◌, ◌++◌, drop, filter, nat_lt}
use Rattle.zr_plan.specs.Plan.{steps_of}
use Rattle.zr_plan.proofs.planning.push_later.Given as goal

-- the steps so far, and those of the later rows that are left, are those of all later rows
abbrev pub invariant-loop-row : goal.invariant-loop-row
invariant-loop-row l =
    l.steps ++ steps_of (filter (λ row. nat_lt l.latest row.txg) (drop l.row-index l.rows))
    ≡ l.fn.steps ++ steps_of (filter (λ row. nat_lt l.latest row.txg) l.rows)
