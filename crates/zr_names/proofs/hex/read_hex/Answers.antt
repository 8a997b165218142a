use Rattle.std.proofs.Common.{◌≡◌, ℕ, ◌+◌, ◌*◌, rules, subst, sym, arith}
use Rattle.zr_names.proofs.HexText.{IsRead, read-none, read-more, read-fits, no_digit}
use Rattle.zr_names.proofs.hex.read_hex.Goals as goal

pub loop-digit-init : goal.loop-digit-init
loop-digit-init c = read-none c.args.digits.now

pub returns-in_default : goal.returns-in_default
returns-in_default c = λ n. no_digit c.args.digits.now c.loop-digit.digit-index n c.loop-digit-test.true c.in_default.ensures

pub overflow_mul-n : goal.overflow_mul-n
overflow_mul-n c =
    let fits = read-fits c.args.digits.now c.loop-digit.digit-index c.loop-digit.n 0 (omega arith) (omega arith) c.loop-digit.invariant in
    omega arith

pub overflow_add-n : goal.overflow_add-n
overflow_add-n c =
    let same : c.from.result ≡ c.in-Some.value = search rules in
    let fits = read-fits c.args.digits.now c.loop-digit.digit-index c.loop-digit.n c.in-Some.value (omega arith) c.in-Some.ensures.0 c.loop-digit.invariant in
    omega arith

pub loop-digit-preserved : goal.loop-digit-preserved
loop-digit-preserved c =
    let same : c.from.result ≡ c.in-Some.value = search rules in
    subst (λ (d : ℕ). IsRead c.args.digits.now (c.loop-digit.digit-index + 1) (c.loop-digit.n * 16 + d)) (sym same)
    (read-more c.args.digits.now c.loop-digit.digit-index c.loop-digit.n c.in-Some.value c.loop-digit-test.true c.in-Some.ensures.0 c.in-Some.ensures.1 c.loop-digit.invariant)
