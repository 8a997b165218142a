use Rattle.std.proofs.Common.{◌≡◌, List, Some, position, ap, sym, ◌∙◌}
use Rattle.std.specs.List.{list_any}
use Rattle.zr_ledger.specs.Kept.{Seen}
use Rattle.zr_ledger.specs.Out.{Out}
use Rattle.zr_ledger.specs.Ready.{is_ticket}
use Rattle.zr_ledger.specs.Steps.{standing}
use Rattle.zr_ledger.specs.declared.state.State.{State}
use Rattle.zr_ledger.proofs.Holding.{ended-is, holds-ended}
use Rattle.zr_ledger.proofs.Starting.{found-some, not-found}
use Rattle.zr_ledger.proofs.ledger.Ledger.give.Goals as goal

pub invariant_of-self : goal.invariant_of-self
invariant_of-self g c =
    let s : State = standing c.self.inside.limits c.self.inside.waiting.units c.self.inside.outs.items c.self.inside.counts in
    let found : position (is_ticket c.args.ticket) s.outs ≡ Some c.in-Some.place =
    sym (c.in-Some.ensures ∙ ap (λ (outs : List Out). position (is_ticket c.args.ticket) outs) c.as_slice.ensures.value) in
    holds-ended c.self.inside.base c.self.inside.history.items _ s _ c.in-Some.place c.args.ticket c.args.outcome.now _ _ _ _ c.self.invariant found c.push_reserved.ensures.items
    (ended-is s c.in-Some.place c.args.outcome.now _ _ c.end_out.ensures.items c.end.ensures) c.end_out.ensures.room c.push_reserved.ensures.capacity

pub returns-in-Some-clause-found : goal.returns-in-Some-clause-found
returns-in-Some-clause-found g c =
    sym (found-some (is_ticket c.args.ticket) c.as_slice.result.now c.in-Some.place c.args.ticket (sym c.in-Some.ensures))
    ∙ ap (λ (outs : List Out). list_any (is_ticket c.args.ticket) outs) (c.as_slice.ensures.value ∙ ap (λ (seen : Seen). seen.state.outs) c.self.view_is)

pub returns-in-None-clause-found : goal.returns-in-None-clause-found
returns-in-None-clause-found g c =
    sym (not-found (is_ticket c.args.ticket) c.as_slice.result.now (sym c.in-None.ensures))
    ∙ ap (λ (outs : List Out). list_any (is_ticket c.args.ticket) outs) (c.as_slice.ensures.value ∙ ap (λ (seen : Seen). seen.state.outs) c.self.view_is)
