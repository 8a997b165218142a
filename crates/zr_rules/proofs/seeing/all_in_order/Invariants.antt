use Rattle.std.proofs.Common.{◌≡◌, map, take, None}
use Rattle.zr_rules.specs.Keeps.{seen}
use Rattle.zr_rules.specs.Order.{in_places}
use Rattle.zr_rules.proofs.seeing.all_in_order.Given as goal

abbrev pub invariant-loop-one : goal.invariant-loop-one
invariant-loop-one l = l.rows_seen.items ≡ in_places (map (seen None) l.rows) (take l.one-index l.order)
