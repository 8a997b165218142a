use Rattle.std.proofs.Common.{◌≡◌}
use Rattle.zr_ledger.proofs.adding.spares_of.Given as goal

-- a spare of each unit so far
abbrev pub invariant-loop-unit : goal.invariant-loop-unit
invariant-loop-unit l = l.spares.items ≡ l.yielded
