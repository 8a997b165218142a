use Rattle.zr_grid.proofs.Reaches.{at_end}
use Rattle.zr_grid.proofs.sweep.beyond.Goals as goal

pub returns-clause-stands : goal.returns-clause-stands
returns-clause-stands c = at_end c.args.intervals.now c.far_end-end.result c.far_end-end.ensures
