use Rattle.std.proofs.Common.{arith}
use Rattle.zr_grid.specs.declared.grid.Interval.{Interval}
use Rattle.zr_grid.specs.declared.grid.Keep.TheVariants.{All}
use Rattle.zr_grid.proofs.Valid.{total_more, each_more}
use Rattle.zr_grid.proofs.grid.is_grid.Goals as goal

abbrev nothing : Interval
nothing = record { count = 0; width = 0; keep = All }

pub loop-interval-preserved : goal.loop-interval-preserved
loop-interval-preserved c = record {
  counted = (let more = total_more _ _ nothing c.loop-interval-test.true in omega (arith, more, c.loop-interval.invariant.counted, c.from-total.ensures));
  few = c.if-total-gt-MAX_INTERVALS.false;
  each = each_more _ _ nothing c.loop-interval-test.true c.loop-interval.invariant.each (c.is_interval.ensures.0 c.if-not-is_interval.false);
}
