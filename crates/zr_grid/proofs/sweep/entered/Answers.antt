use Rattle.zr_grid.proofs.Reaches.{nothing, enters}
use Rattle.zr_grid.proofs.sweep.entered.Goals as goal

pub returns : goal.returns
returns c = enters c.args.intervals.now c.args.age c.reach-reached.result nothing c.requires.grid.each c.reach-reached.ensures
