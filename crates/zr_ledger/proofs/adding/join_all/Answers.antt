use Rattle.std.proofs.Common.{◌≡◌, ◌++◌, ◌∷◌, [], ℕ, List, drop, length, map, ap, ap₂, sym, ◌∙◌, append_assoc, rules, subst}
use Rattle.std.proofs.lemmas.List.{drop_more, length_push, map_push}
use Rattle.std.proofs.lemmas.Iterator.Adapters.{YieldsList-from_vec}
use Rattle.std.proofs.lemmas.Iterator.Consumers.{YieldsList-turn}
use Rattle.zr_names.specs.declared.unit.Unit.{Unit}
use Rattle.zr_ledger.specs.Queue.{HasRoomFor}
use Rattle.zr_ledger.specs.Steps.{is_new, joined, standing, with_one}
use Rattle.zr_ledger.specs.declared.state.Entry.{Entry}
use Rattle.zr_ledger.specs.declared.state.Entry.TheVariants.{Add}
use Rattle.zr_ledger.specs.declared.state.State.{State}
use Rattle.zr_ledger.proofs.Replays.{coalesced_from-push, joined_all-push}
use Rattle.zr_ledger.proofs.adding.join_all.Goals as goal

pub loop-spare-preserved : goal.loop-spare-preserved
loop-spare-preserved c =
    let s : State = standing c.args.limits.now c.args.waiting.now.units c.args.outs.now c.args.counts.now in
    let so = c.loop-spare.invariant in
    let units = c.loop-spare.yielded in
    let unit = c.in-Some.spare in
    let step = c.join-fresh.ensures in
    let turn = YieldsList-turn (YieldsList-from_vec c.args.spares.items (search rules) (search rules)) units c.loop-spare.spare-iterator c.loop-spare.yielded_by c.next.result c.next.new.self unit c.in-Some.is c.next.ensures.steps in
    let inside = turn.0 in
    let here = sym turn.1 in
    let behind : drop (length units) c.args.spares.items ≡ unit ∷ drop (length (units ++ unit ∷ [])) c.args.spares.items =
    drop_more c.args.spares.items (length units) unit inside
    ∙ ap₂ (λ (x : Unit) (n : ℕ). x ∷ drop n c.args.spares.items) here (sym (length_push units unit)) in
    record {
      counted = c.count_on-coalesced.ensures ∙ ap₂ with_one so.counted (step.answer ∙ ap (λ (state : State). is_new state unit) so.added) ∙ sym (coalesced_from-push 0 s units unit);
      added = step.state ∙ ap (λ (state : State). joined state unit) so.added ∙ sym (joined_all-push s units unit);
      told = step.history ∙ ap (λ (entries : List Entry). entries ++ Add unit ∷ []) so.told ∙ append_assoc c.args.history.now.items (map Add units) (Add unit ∷ []) ∙ ap (λ (entries : List Entry). c.args.history.now.items ++ entries) (sym (map_push Add units unit));
      room = step.room (drop (length (units ++ unit ∷ [])) c.args.spares.items) (subst (HasRoomFor c.loop-spare.waiting) behind so.room);
      capacity = step.history_room ∙ so.capacity;
    }
