use Rattle.std.proofs.Common.{rules, ◌≡◌, [], List, All, MatchOption, ap, ap₂, arith, length, subst, sym, ◌∙◌}
use Rattle.zr_names.specs.declared.unit.Unit.{Unit}
use Rattle.zr_ledger.specs.Kept.{HasLimit, Seen}
use Rattle.zr_ledger.specs.Out.{Out}
use Rattle.zr_ledger.specs.Steps.{is_long, joined_all, next_base, standing}
use Rattle.zr_ledger.specs.declared.limits.Limits.{Limits}
use Rattle.zr_ledger.specs.declared.state.Entry.{Entry}
use Rattle.zr_ledger.specs.declared.state.State.{State}
use Rattle.zr_ledger.proofs.Counting.{counts-added, totals-added}
use Rattle.zr_ledger.proofs.Holding.{anew, holds-added}
use Rattle.zr_ledger.proofs.ledger.Ledger.add.Goals as goal

pub invariant_of-self-2 : goal.invariant_of-self-2
invariant_of-self-2 g c =
    let here = c.self.inside in
    let s : State = standing here.limits here.waiting.units here.outs.items here.counts in
    let spares = c.in_ok-spares.spares.items in
    let room = c.in_ok-reserve_all.ensures in
    let all = c.join_all.ensures in
    let next = c.in_ok-next.ensures
    ∙ ap₂ (λ (entries : List Entry) (outs : List Out). next_base (is_long entries) (standing here.limits here.waiting.units outs here.counts)) c.as_slice-2.ensures.value c.as_slice.ensures.value in
    let begun_is = subst (λ (entries : List Entry). MatchOption c.in_ok-next.next (c.begin_anew.new.history.items ≡ entries) (λ (state : State). c.begin_anew.new.history.items ≡ [])) room.history c.begin_anew.ensures.history in
    let begun = anew (is_long here.history.items) c.in_ok-next.next here.base c.begin_anew.new.base here.history.items c.begin_anew.new.history.items s next c.self.invariant.replayed c.begin_anew.ensures.base begun_is in
    let outs = c.as_slice-4.ensures.value ∙ room.outs in
    let is = ap (λ (outs : List Out). standing here.limits c.join_all.new.waiting.units outs c.join_all.new.counts) (sym c.as_slice-4.ensures.value) ∙ all.state
    ∙ ap₂ (λ (units : List Unit) (outs : List Out). joined_all (standing here.limits units outs here.counts) spares) room.waiting outs in
    let has = subst (λ (limits : Limits). All (HasLimit limits) spares) (sym (ap (λ (seen : Seen). seen.state.limits) c.self.view_is))
    (subst (λ (units : List Unit). All (HasLimit c.args.self.now.state.limits) units) (sym c.in_ok-spares.ensures) c.requires) in
    let long = ap (λ (units : List Unit). length units) c.as_slice-3.ensures.value in
    let shorter = begun.1 in
    let outs_ok = room.outs_ok in
    let history_ok = room.history_ok in
    let anew_room = c.begin_anew.ensures.room in
    let all_room = all.history_room in
    holds-added here.base c.begin_anew.new.base here.history.items c.begin_anew.new.history.items _ s _ spares _ _ _ _ c.self.invariant begun.0 all.history is has (omega arith) (omega arith)

pub returns-clause-totals : goal.returns-clause-totals
returns-clause-totals g c =
    let here = c.self.inside in
    let before = ap (λ (seen : Seen). seen.state.counts) c.self.view_is in
    let due = c.self.ranges in
    totals-added (standing here.limits c.reserve_all.new.waiting.units c.as_slice-4.result.now here.counts) (standing here.limits c.join_all.new.waiting.units c.as_slice-4.result.now c.join_all.new.counts) c.in_ok-spares.spares.items c.args.units.items c.args.self.now.state.counts c.join_all.result c.join_all.ensures.state c.join_all.ensures.answer before c.in_ok-spares.ensures (search rules) (search rules)

pub returns-clause-counts : goal.returns-clause-counts
returns-clause-counts g c =
    let here = c.self.inside in
    let before = ap (λ (seen : Seen). seen.state.counts) c.self.view_is in
    counts-added (standing here.limits c.reserve_all.new.waiting.units c.as_slice-4.result.now here.counts) (standing here.limits c.join_all.new.waiting.units c.as_slice-4.result.now c.join_all.new.counts) c.in_ok-spares.spares.items c.args.self.now.state.counts c.join_all.ensures.state before
