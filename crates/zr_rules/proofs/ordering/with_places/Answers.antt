use Rattle.std.proofs.Common.{rules}
use Rattle.zr_rules.proofs.Orders.{placed-more}
use Rattle.zr_rules.proofs.ordering.with_places.Goals as goal

pub loop-place-preserved : goal.loop-place-preserved
loop-place-preserved c =
    placed-more c.args.rows.now c.loop-place.place c.index-rows-place.result c.loop-place.placed.items c.push.new.self.items c.loop-place-test.true c.index-rows-place.is c.loop-place.invariant (search rules)
