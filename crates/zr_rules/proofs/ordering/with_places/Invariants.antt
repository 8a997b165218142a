use Rattle.std.proofs.Common.{◌≡◌, take}
use Rattle.zr_rules.specs.Order.{placed_from}
use Rattle.zr_rules.proofs.ordering.with_places.Given as goal

abbrev pub invariant-loop-place : goal.invariant-loop-place
invariant-loop-place l = l.placed.items ≡ placed_from 0 (take l.place l.rows)
