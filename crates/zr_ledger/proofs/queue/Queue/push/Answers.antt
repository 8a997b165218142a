use Rattle.std.proofs.Common.{◌-◌, ◌≤◌, ◌++◌, ◌∷◌, [], ap, arith, count_by, deque_capacity, length, slice_index, subst, sym, ◌∙◌}
use Rattle.std.proofs.lemmas.List.{length_push}
use Rattle.zr_names.specs.declared.unit.Unit.{Unit}
use Rattle.zr_ledger.specs.Queue.{HasRoomFor, Queued, is_of_job}
use Rattle.zr_ledger.proofs.Indexing.{indexed-push, job-inside, room-push, room-there}
use Rattle.zr_ledger.proofs.queue.Queue.push.Goals as goal

pub index_mut-line-requires : goal.index_mut-line-requires
index_mut-line-requires c =
    let unit = c.args.unit in
    let room = subst (λ (q : Queued). count_by (is_of_job unit.job) (unit ∷ []) ≤ slice_index q.rooms unit.job) (sym c.self.view_is) (c.requires.room.lines unit.job) in
    let inside = (job-inside c.self.inside.lines.items unit room).0 in
    omega arith

pub push-requires : goal.push-requires
push-requires c =
    let unit = c.args.unit in
    let room = subst (λ (q : Queued). count_by (is_of_job unit.job) (unit ∷ []) ≤ slice_index q.rooms unit.job) (sym c.self.view_is) (c.requires.room.lines unit.job) in
    let inside = job-inside c.self.inside.lines.items unit room in
    let some = inside.1 in
    let there = room-there c.self.inside.lines.items unit.job c.index_mut-line.result.now inside.0 c.index_mut-line.ensures.value in
    omega arith

pub invariant_of-self : goal.invariant_of-self
invariant_of-self c =
    let unit = c.args.unit in
    let line = c.index_mut-line.result.now in
    let room = subst (λ (q : Queued). count_by (is_of_job unit.job) (unit ∷ []) ≤ slice_index q.rooms unit.job) (sym c.self.view_is) (c.requires.room.lines unit.job) in
    let inside = (job-inside c.self.inside.lines.items unit room).0 in
    indexed-push c.self.inside.order.items _ c.self.inside.lines.items c.self.inside.scans _ c.self.inside.snaps.items _ line c.push.new.self unit c.self.invariant c.push_back_reserved.ensures.items inside c.index_mut-line.ensures.value
    (c.push.ensures.units ∙ ap (λ (u : Unit). line.units ++ u ∷ []) c.requires.same) c.scans_with-self-inside.ensures c.count_snap.ensures.slots c.count_snap.ensures.counts

pub returns-clause-room : goal.returns-clause-room
returns-clause-room c = λ rest has.
    let unit = c.args.unit in
    let order = c.self.inside.order in
    let room = subst (λ (q : Queued). count_by (is_of_job unit.job) (unit ∷ []) ≤ slice_index q.rooms unit.job) (sym c.self.view_is) (c.requires.room.lines unit.job) in
    let inside = (job-inside c.self.inside.lines.items unit room).0 in
    let old = subst (λ (q : Queued). HasRoomFor q (unit ∷ rest)) (sym c.self.view_is) has in
    let some = old.order in
    let same = c.push_back_reserved.ensures.capacity in
    let more = ap length c.push_back_reserved.ensures.items ∙ length_push order.items unit in
    room-push order.items c.push_back_reserved.new.self.items c.self.inside.lines.items (deque_capacity order - length order.items) (deque_capacity c.push_back_reserved.new.self - length c.push_back_reserved.new.self.items) c.index_mut-line.result.now c.push.new.self unit inside c.index_mut-line.ensures.value c.push.ensures.room (omega arith) rest old
