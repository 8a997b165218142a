use Rattle.std.proofs.Common.{◌≡◌, ℕ, ◌+◌, ◌-◌, length, get_or, subst, arith}
use Rattle.std.proofs.lemmas.Bool.{le-ltb, and_left, and_right}
use Rattle.zr_rules.specs.Order.{no_row}
use Rattle.zr_rules.proofs.Newest.{FlagsFrom, flags-none, flags-yes, flags-no}
use Rattle.zr_rules.proofs.counting.flag_newest.Goals.{else-left-gt0-via-then-left-gt0+else-rows-i, else-left-gt0-via-else-left-gt0}
use Rattle.zr_rules.proofs.counting.flag_newest.Goals as goal

pub loop-i-init : goal.loop-i-init
loop-i-init c = flags-none c.args.count c.args.rows.now c.requires.rows c.args.flags.now (length c.args.rows.now) (omega arith)

pub loop-i-preserved-then-rows-i : goal.loop-i-preserved-then-rows-i
loop-i-preserved-then-rows-i c =
    let next : c.loop-i.i ≡ c.loop-i.i - 1 + 1 = omega (arith, c.loop-i-test.true) in
    flags-yes c.args.count c.args.rows.now c.requires.rows (c.loop-i.i - 1) c.loop-i.left no_row c.args.flags.now c.loop-i.flags (omega (arith, c.loop-i-test.true, c.loop-i.auto.i)) c.requires.flags c.if-rows-i.true c.if-left-gt0.true
    (subst (λ (place : ℕ). FlagsFrom c.args.count c.args.rows.now place c.loop-i.left c.args.flags.now c.loop-i.flags) next c.loop-i.invariant)

pub loop-i-preserved : goal.loop-i-preserved
loop-i-preserved c =
    let next : c.loop-i.i ≡ c.loop-i.i - 1 + 1 = omega (arith, c.loop-i-test.true) in
    flags-no c.args.count c.args.rows.now c.requires.rows (c.loop-i.i - 1) c.loop-i.left no_row c.args.flags.now c.loop-i.flags (omega (arith, c.loop-i-test.true, c.loop-i.auto.i))
    (elim c.else-left-gt0.branch [
      | else-left-gt0-via-then-left-gt0+else-rows-i w ↦ and_right _ (get_or c.args.rows.now (c.loop-i.i - 1) no_row).matches w.if-rows-i.false
      | else-left-gt0-via-else-left-gt0 w ↦ and_left _ (get_or c.args.rows.now (c.loop-i.i - 1) no_row).matches (le-ltb 0 c.loop-i.left w.if-left-gt0.false)
    ])
    (subst (λ (place : ℕ). FlagsFrom c.args.count c.args.rows.now place c.loop-i.left c.args.flags.now c.loop-i.flags) next c.loop-i.invariant)
