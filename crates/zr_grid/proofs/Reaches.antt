-- The ages at which the intervals of a grid begin, and the slot of an age among them.
use Rattle.std.proofs.Common.{◌≡◌, ℕ, suc, ◌+◌, ◌-◌, ◌*◌, ◌/◌, ◌%◌, ◌<◌, ◌≤◌, List, [], ◌∷◌, take, length, get_or, refl, sym, ap, ◌∙◌, arith, mul-le-mul_left, div-add-mod', mod-lt}
use Rattle.std.specs.Prelude.{All}
use Rattle.std.proofs.lemmas.List.{take_all, get_or_past}
use Rattle.std.proofs.lemmas.List.Sums.{sum_by-cons, sum_by_more, sum_by-take-le}
use Rattle.std.proofs.lemmas.Nat.{div_below}
use Rattle.zr_grid.specs.declared.grid.Keep.TheVariants.{All as KeepAll, Most}
use Rattle.zr_grid.specs.declared.grid.Interval.{Interval}
use Rattle.zr_grid.specs.declared.sweep.Reached.{Reached}
use Rattle.zr_grid.specs.Grid.{IsInterval, IsGrid, total}
use Rattle.zr_grid.specs.Kept.{slots, edge}
use Rattle.zr_grid.specs.Sweep.{span_of, no_slot, Holds, IsAt, Enters}
use Rattle.zr_grid.proofs.Places.{lies_between, slots_long, edge_last, edge_is, keep_is}

abbrev pub nothing : Interval
nothing = record { count = 0; width = 0; keep = KeepAll }

-- ---- how long intervals are

span_within : (intervals : List Interval) → All IsInterval intervals → span_of intervals ≤ total intervals * 3153600000
span_within [] each = omega arith
span_within (first ∷ others) each =
    let one = mul-le-mul_left first.count (each 0 first (omega arith)).short in
    let ih = span_within others (λ k d inside. each (suc k) d (omega arith)) in
    let spans = sum_by-cons (λ (interval : Interval). interval.count * interval.width) first others in
    let totals = sum_by-cons (λ (interval : Interval). interval.count) first others in
    rw (spans, totals) (omega (arith, one, ih))

pub span_fits : (intervals : List Interval) → IsGrid intervals → span_of intervals ≤ 315360000000000
span_fits intervals grid = let within = span_within intervals grid.each in let few = grid.few in omega (arith, within, few)

pub span_more : (intervals : List Interval) (i : ℕ) (d : Interval) → i < length intervals → span_of (take (i + 1) intervals) ≡ span_of (take i intervals) + (get_or intervals i d).count * (get_or intervals i d).width
span_more intervals i d inside = sum_by_more (λ (interval : Interval). interval.count * interval.width) intervals i d inside

pub span_front : (intervals : List Interval) (i : ℕ) → span_of (take i intervals) ≤ span_of intervals
span_front intervals i = sum_by-take-le (λ (interval : Interval). interval.count * interval.width) intervals i

-- ---- places

pub at_end : (intervals : List Interval) (end : ℕ) → end ≡ span_of intervals
    → IsAt intervals (total intervals) (record { reached = record { younger = length intervals; start = end }; begin = end; keep = Most 0; older = 0 })
at_end intervals end is =
    let all = ap span_of (take_all (length intervals) intervals (omega arith)) in
    let more = ap span_of (take_all (length intervals + 1) intervals (omega arith)) in
    let long = slots_long intervals in
    record {
      reached = record { inside = omega arith; starts = is ∙ sym all };
      within = omega (arith, is, more);
      begins = is ∙ sym (edge_last intervals);
      keeps = sym (ap (λ s. s.keep) (get_or_past (slots intervals) (total intervals) no_slot (omega (arith, long))));
    }

pub enters : (intervals : List Interval) (age : ℕ) (reached : Reached) (d : Interval) → All IsInterval intervals → Holds intervals age reached
    → Enters intervals age (record {
      reached = reached;
      begin = reached.start + (age - reached.start) / (get_or intervals reached.younger d).width * (get_or intervals reached.younger d).width;
      keep = (get_or intervals reached.younger d).keep;
      older = 0;
    })
enters intervals age reached d each holds =
    let k = reached.younger in
    let interval = get_or intervals k d in
    let w = interval.width in
    let rest = age - reached.start in
    let number = rest / w in
    let wide : 0 < w = (each k d holds.inside).width in
    let starts = holds.starts in
    let begun = holds.begun in
    let below = holds.below in
    let more = span_more intervals k d holds.inside in
    let few : number < interval.count = div_below rest w interval.count wide (omega (arith, starts, begun, below, more)) in
    let whole : number * w + rest % w ≡ rest = div-add-mod' rest w in
    let part : rest % w < w = mod-lt rest wide in
    let left : edge (slots intervals) (total (take k intervals) + number) ≡ span_of (take k intervals) + number * w = edge_is intervals k number d holds.inside (omega arith) in
    let right : edge (slots intervals) (total (take k intervals) + (number + 1)) ≡ span_of (take k intervals) + (number + 1) * w = edge_is intervals k (number + 1) d holds.inside (omega arith) in
    let next : suc (total (take k intervals) + number) ≡ total (take k intervals) + (number + 1) = omega arith in
    let edge_next = ap (edge (slots intervals)) next in
    record {
      slot = total (take k intervals) + number;
      stands = record {
        reached = record { inside = omega (arith, holds.inside); starts = starts };
        within = omega (arith, whole, begun, below);
        begins = ap (λ (m : ℕ). m + number * w) starts ∙ sym left;
        keeps = sym (keep_is intervals k number d holds.inside few);
      };
      inside = lies_between (slots intervals) age (total (take k intervals) + number) (omega (arith, left, starts, begun, whole)) (omega (arith, edge_next, right, starts, begun, whole, part));
      none = refl;
    }
