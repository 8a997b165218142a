use Rattle.std.proofs.Common.{◌≤◌, ℕ, All}
use Rattle.tests_ledger.proofs.tests.script.steps.Given as goal

-- each limit so far is at least 1
abbrev pub invariant-loop-job : goal.invariant-loop-job
invariant-loop-job l = All (λ (n : ℕ). 1 ≤ n) l.steps.items
