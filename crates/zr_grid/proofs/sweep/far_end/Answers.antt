use Rattle.std.proofs.Common.{◌+◌, arith}
use Rattle.zr_grid.proofs.Reaches.{nothing, span_fits, span_more, span_front}
use Rattle.zr_grid.proofs.sweep.far_end.Goals as goal

pub overflow_add-end : goal.overflow_add-end
overflow_add-end c =
    let here = span_more c.args.intervals.now c.loop-interval.interval-index nothing c.loop-interval-test.true in
    let front = span_front c.args.intervals.now (c.loop-interval.interval-index + 1) in
    let whole = span_fits c.args.intervals.now c.requires in
    omega (arith, here, front, whole, c.loop-interval.invariant, c.seconds-end.ensures)
