use Rattle.std.proofs.Common.{◌∙◌, get_or, sym, arith, rules}
use Rattle.zr_time.proofs.Decimal.{digits-none, digit_added, not_digit, digit_range}
use Rattle.zr_time.proofs.digits.number.Goals as goal

pub loop-byte-init : goal.loop-byte-init
loop-byte-init c = record { fits = omega arith; text_is = sym (digits-none 0) }

pub returns-then-not-is_ascii_digit : goal.returns-then-not-is_ascii_digit
returns-then-not-is_ascii_digit c =
    not_digit c.args.text.now c.loop-byte.byte-index c.loop-byte-test.true (search rules)

pub loop-byte-preserved : goal.loop-byte-preserved
loop-byte-preserved c =
    let range = digit_range (get_or c.args.text.now c.loop-byte.byte-index 0) (sym c.is_ascii_digit.ensures.value ∙ c.if-not-is_ascii_digit.false) in
    let added = digit_added c.args.text.now c.loop-byte.byte-index c.loop-byte.number c.from.result c.loop-byte-test.true (omega (arith, range)) (omega (arith, range)) c.loop-byte.invariant.fits c.loop-byte.invariant.text_is in
    record { fits = added.0; text_is = added.1 }
