use Rattle.zr_grid.proofs.Grids.{tail_shorter, reading_pushed}
use Rattle.zr_grid.proofs.grid.forms.Goals as goal

pub intervals-smaller : goal.intervals-smaller
intervals-smaller c = tail_shorter _ _ _ c.in-Ok.ensures c.in-len1-up.len_at_least

pub intervals-preserved : goal.intervals-preserved
intervals-preserved c = reading_pushed _ _ _ _ _ _ c.in_ok-push.ensures.items c.in-Ok.ensures c.in-len1-up.len_at_least c.if-bar-ne124.false c.intervals.invariant
