use Rattle.zr_rules.specs.Keeps.{is_of_newest}
use Rattle.zr_rules.proofs.Orders.{order-within, order-marks}
use Rattle.zr_rules.proofs.Places.{view-ascends, flags-long, marked}
use Rattle.zr_rules.proofs.Ranks.{newest-stable}
use Rattle.zr_rules.proofs.counting.mark_newest.Goals as goal

pub seen_in_order-requires : goal.seen_in_order-requires
seen_in_order-requires c = order-within c.args.rows.now c.args.order.now c.requires.order

pub newest_flags-requires : goal.newest_flags-requires
newest_flags-requires c =
    view-ascends c.args.pattern.now c.args.rows.now c.args.order.now c.requires.order c.in_ok-rows_seen.rows_seen.items c.as_slice.result.now c.in_ok-rows_seen.ensures c.as_slice.ensures.value

pub mark_places-requires-clause-flags : goal.mark_places-requires-clause-flags
mark_places-requires-clause-flags c =
    flags-long c.args.pattern.now c.args.rows.now c.args.order.now c.requires.order c.in_ok-rows_seen.rows_seen.items c.as_slice.result.now c.in_ok-rows_seen.ensures c.as_slice.ensures.value
    c.in_ok-flags.flags.items c.as_slice-2.result.now c.as_slice-2.ensures.value c.in_ok-flags.ensures.as_long

pub mark_places-requires-clause-places : goal.mark_places-requires-clause-places
mark_places-requires-clause-places c =
    order-marks c.args.rows.now c.args.order.now c.requires.order c.args.marks.now c.requires.marks

pub returns-clause-marked : goal.returns-clause-marked
returns-clause-marked c =
    marked c.args.pattern.now c.args.rows.now c.args.order.now c.requires.order (is_of_newest c.args.count) (newest-stable c.args.count)
    c.in_ok-rows_seen.rows_seen.items c.as_slice.result.now c.in_ok-flags.flags.items c.as_slice-2.result.now c.in_ok-rows_seen.ensures c.as_slice.ensures.value c.as_slice-2.ensures.value
    c.args.marks.now c.mark_places.new.marks c.in_ok-flags.ensures.kept c.mark_places.ensures
