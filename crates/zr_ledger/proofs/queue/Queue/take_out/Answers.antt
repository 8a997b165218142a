use Rattle.std.proofs.Common.{◌≡◌, ◌+◌, ◌<◌, ◌≤◌, ℕ, Option, OnSome, ap, arith, cond, get_or, length, remove, slice_get, slice_index, subst, sym, ◌∙◌}
use Rattle.std.proofs.lemmas.Option.{same_Some, slice_get-get_or}
use Rattle.zr_names.specs.declared.unit.Unit.{Unit}
use Rattle.zr_ledger.specs.Index.{is_snap_in}
use Rattle.zr_ledger.specs.Queue.{Queued}
use Rattle.zr_ledger.specs.Seats.{is_scan}
use Rattle.zr_ledger.proofs.Indexing.{counted-at, indexed-remove, rank-there, twin-there, unit-inside}
use Rattle.zr_ledger.proofs.queue.Queue.take_out.Goals as goal

pub index_mut-line-requires : goal.index_mut-line-requires
index_mut-line-requires c =
    let order = c.self.inside.order.items in
    let within : c.args.place < length order = subst (λ (q : Queued). c.args.place < length q.units) (sym c.self.view_is) c.requires in
    let inside = unit-inside c.self.inside.lines.items order c.args.place c.index.result.now c.self.invariant.same within (sym c.index.ensures) in
    omega arith

pub take_out-twin-requires : goal.take_out-twin-requires
take_out-twin-requires c =
    let order = c.self.inside.order.items in
    let unit = c.index.result.now in
    let within : c.args.place < length order = subst (λ (q : Queued). c.args.place < length q.units) (sym c.self.view_is) c.requires in
    let rank = (rank-there c.self.inside.lines.items order c.args.place c.index_mut-line.result.now unit unit c.self.invariant.same within (sym c.index.ensures) c.index_mut-line.ensures.value).0 in
    let is = c.rank_of-rank.ensures in
    omega arith

pub scans_without-self-inside-requires : goal.scans_without-self-inside-requires
scans_without-self-inside-requires c =
    let order = c.self.inside.order.items in
    let unit = c.index.result.now in
    let line = c.index_mut-line.result.now in
    let within : c.args.place < length order = subst (λ (q : Queued). c.args.place < length q.units) (sym c.self.view_is) c.requires in
    let same = twin-there c.self.inside.lines.items order c.args.place c.rank_of-rank.result line unit c.take_out-twin.result c.self.invariant.same within (sym c.index.ensures) c.index_mut-line.ensures.value c.rank_of-rank.ensures c.take_out-twin.ensures.unit in
    let count = counted-at (λ (u : Unit). is_scan u.work) order c.args.place unit within (sym c.index.ensures) in
    let all = c.self.invariant.scanning in
    let some : cond (is_scan unit.work) 1 0 ≤ c.self.inside.scans = omega arith in
    subst (λ (u : Unit). cond (is_scan u.work) 1 0 ≤ c.self.inside.scans) (sym same) some

pub forget_snap-requires-clause-some : goal.forget_snap-requires-clause-some
forget_snap-requires-clause-some c = λ slot below.
    let order = c.self.inside.order.items in
    let unit = c.index.result.now in
    let line = c.index_mut-line.result.now in
    let within : c.args.place < length order = subst (λ (q : Queued). c.args.place < length q.units) (sym c.self.view_is) c.requires in
    let same = twin-there c.self.inside.lines.items order c.args.place c.rank_of-rank.result line unit c.take_out-twin.result c.self.invariant.same within (sym c.index.ensures) c.index_mut-line.ensures.value c.rank_of-rank.ensures c.take_out-twin.ensures.unit in
    let count = counted-at (λ (u : Unit). is_snap_in slot u.work) order c.args.place unit within (sym c.index.ensures) in
    let all = c.self.invariant.snapping.counts slot below in
    let some : cond (is_snap_in slot unit.work) 1 0 ≤ slice_index c.self.inside.snaps.items slot = omega arith in
    subst (λ (u : Unit). cond (is_snap_in slot u.work) 1 0 ≤ slice_index c.self.inside.snaps.items slot) (sym same) some

pub invariant_of-self : goal.invariant_of-self
invariant_of-self c =
    let order = c.self.inside.order.items in
    let unit = c.index.result.now in
    let line = c.index_mut-line.result.now in
    let within : c.args.place < length order = subst (λ (q : Queued). c.args.place < length q.units) (sym c.self.view_is) c.requires in
    let same = twin-there c.self.inside.lines.items order c.args.place c.rank_of-rank.result line unit c.take_out-twin.result c.self.invariant.same within (sym c.index.ensures) c.index_mut-line.ensures.value c.rank_of-rank.ensures c.take_out-twin.ensures.unit in
    let fewer = subst (λ (r : Option Unit). OnSome r (c.remove.new.self.items ≡ remove order c.args.place)) (c.remove.ensures.succeeds unit (omega arith)) c.remove.ensures.items in
    indexed-remove order _ c.args.place c.self.inside.lines.items c.self.inside.scans _ c.self.inside.snaps.items _ line c.take_out-twin.new.self unit c.self.invariant within (sym c.index.ensures) fewer c.index_mut-line.ensures.value
    (c.take_out-twin.ensures.units ∙ ap (λ (n : ℕ). remove line.units n) c.rank_of-rank.ensures)
    (subst (λ (u : Unit). c.scans_without-self-inside.result + cond (is_scan u.work) 1 0 ≡ c.self.inside.scans) same c.scans_without-self-inside.ensures)
    c.forget_snap.ensures.slots
    (λ slot below. subst (λ (u : Unit). slice_index c.forget_snap.new.snaps.items slot + cond (is_snap_in slot u.work) 1 0 ≡ slice_index c.self.inside.snaps.items slot) same (c.forget_snap.ensures.counts slot below))

pub returns-clause-unit : goal.returns-clause-unit
returns-clause-unit c =
    let order = c.self.inside.order.items in
    let unit = c.index.result.now in
    let within : c.args.place < length order = subst (λ (q : Queued). c.args.place < length q.units) (sym c.self.view_is) c.requires in
    ap (λ (q : Queued). slice_get q.units c.args.place) (sym c.self.view_is) ∙ slice_get-get_or order c.args.place unit within
    ∙ sym (c.remove.ensures.succeeds unit (omega arith)) ∙ c.unwrap-unit.ensures

pub returns-clause-twin : goal.returns-clause-twin
returns-clause-twin c =
    let order = c.self.inside.order.items in
    let unit = c.index.result.now in
    let line = c.index_mut-line.result.now in
    let within : c.args.place < length order = subst (λ (q : Queued). c.args.place < length q.units) (sym c.self.view_is) c.requires in
    let same = twin-there c.self.inside.lines.items order c.args.place c.rank_of-rank.result line unit c.take_out-twin.result c.self.invariant.same within (sym c.index.ensures) c.index_mut-line.ensures.value c.rank_of-rank.ensures c.take_out-twin.ensures.unit in
    same ∙ c.index.ensures ∙ same_Some (get_or order c.args.place unit) c.unwrap-unit.result (sym (c.remove.ensures.succeeds unit (omega arith)) ∙ c.unwrap-unit.ensures)
