use Rattle.std.proofs.Common.{◌≡◌, subst, ◌+◌, ◌-◌, ◌≤◌, ◌∷◌, length, arith, rules}
use Rattle.zr_schedule.specs.Schedule.{has}
use Rattle.zr_schedule.specs.Words.{parted, is_comma}
use Rattle.zr_schedule.specs.Fault.{IsFieldFault}
use Rattle.zr_schedule.specs.Tokens.{tokens}
use Rattle.zr_schedule.proofs.Fields.{joined, item_small, fault_within, next_good, next_values, next_fault}
use Rattle.zr_schedule.proofs.field.read_field.Goals as goal

pub values-requires-clause-last : goal.values-requires-clause-last
values-requires-clause-last c = let h = item_small c.args.limits (tokens c.cut_at_comma.result.0.now) c.in-Ok.item c.in-Ok.ensures in omega (arith, h.0)

pub values-requires-clause-step : goal.values-requires-clause-step
values-requires-clause-step c = (item_small c.args.limits (tokens c.cut_at_comma.result.0.now) c.in-Ok.item c.in-Ok.ensures).1

pub overflow_add-result : goal.overflow_add-result
overflow_add-result c =
    let h : c.in-Err.place ≤ length c.cut_at_comma.result.0.now = fault_within c.args.limits c.cut_at_comma.result.0.now c.in-Err.place c.in-Err.ensures in
    let l = c.cut_at_comma.ensures.lengths in
    let within : c.in-Err.place ≤ length c.items.rest.now = omega (arith, h, l) in
    search rules

pub items-preserved : goal.items-preserved
items-preserved c =
    let e : parted is_comma c.items.rest.now ≡ c.cut_at_comma.result.0.now ∷ parted is_comma c.in-Some.more.now = rw c.in-Some.is at c.cut_at_comma.ensures.parts in
    let l : length c.cut_at_comma.result.0.now + (1 + length c.in-Some.more.now) ≡ length c.items.rest.now = rw c.in-Some.is at c.cut_at_comma.ensures.lengths in
    record {
      within = omega (arith, l, c.items.invariant.within);
      good = λ g. c.items.invariant.good (next_good c.args.limits c.items.rest.now c.cut_at_comma.result.0.now (parted is_comma c.in-Some.more.now) c.in-Ok.item e c.in-Ok.ensures g);
      values = λ n. joined (has c.items.set n) _ _ _ _ _ _ (c.items.invariant.values n) (next_values c.args.limits c.items.rest.now c.cut_at_comma.result.0.now (parted is_comma c.in-Some.more.now) c.in-Ok.item n e c.in-Ok.ensures) (c.values.ensures n) (c.union-set.ensures n);
      fault = λ place f.
          let same : length c.args.text.now - length c.items.rest.now + (length c.cut_at_comma.result.0.now + 1 + place) ≡ length c.args.text.now - length c.in-Some.more.now + place = omega (arith, l, c.items.invariant.within) in
          subst (IsFieldFault c.args.limits c.args.text.now) same
          (c.items.invariant.fault (length c.cut_at_comma.result.0.now + 1 + place) (next_fault c.args.limits c.items.rest.now c.cut_at_comma.result.0.now (parted is_comma c.in-Some.more.now) c.in-Ok.item place e c.in-Ok.ensures f));
    }
