use Rattle.std.proofs.Common.{arith}
use Rattle.zr_yaml.proofs.Numbers.{step_fits}
use Rattle.zr_yaml.proofs.scalar.number_from.Goals as goal

pub overflow_mul-number : goal.overflow_mul-number
overflow_mul-number c =
    let fits = step_fits c.args.digits.now c.loop-digit.digit-index c.loop-digit.number c.requires
    c.loop-digit-test.true c.loop-digit.invariant in
    omega (arith, fits)

pub overflow_add-number : goal.overflow_add-number
overflow_add-number c =
    let fits = step_fits c.args.digits.now c.loop-digit.digit-index c.loop-digit.number c.requires
    c.loop-digit-test.true c.loop-digit.invariant in
    omega (arith, fits, c.from.ensures)
