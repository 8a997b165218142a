use Rattle.std.proofs.Common.{◌≡◌, take}
use Rattle.zr_ledger.proofs.queue.Queue.copy.Given as goal

-- a copy of each unit so far
abbrev pub invariant-loop-place : goal.invariant-loop-place
invariant-loop-place l = l.units.items ≡ take l.place l.self-inside.order.items
