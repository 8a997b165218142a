use Rattle.std.proofs.Common.{get_or, arith}
use Rattle.std.proofs.lemmas.List.{get_or_default}
use Rattle.zr_rules.proofs.Orders.{nothing}
use Rattle.zr_rules.proofs.Places.{places-yes, places-no}
use Rattle.zr_rules.proofs.ordering.mark_places.Goals.{then-flags-k, else-flags-k}
use Rattle.zr_rules.proofs.ordering.mark_places.Goals as goal

pub loop-k-preserved : goal.loop-k-preserved
loop-k-preserved c =
    let one = get_or c.args.order.now c.loop-k.k nothing in
    elim c.if-flags-k.branch [
      | then-flags-k w ↦ rw w.marks-is (places-yes c.args.order.now c.args.flags.now c.loop-k.k c.args.marks.now c.loop-k.marks one c.loop-k-test.true
          (get_or_default c.args.order.now c.loop-k.k nothing one c.loop-k-test.true) (omega (arith, c.loop-k.auto.marks, c.requires.places c.loop-k.k nothing c.loop-k-test.true)) w.if-flags-k.true c.loop-k.invariant)
      | else-flags-k w ↦ rw w.marks-is (places-no c.args.order.now c.args.flags.now c.loop-k.k c.args.marks.now c.loop-k.marks w.if-flags-k.false c.loop-k.invariant)
    ]
