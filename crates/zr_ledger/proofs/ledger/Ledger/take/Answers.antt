use Rattle.std.proofs.Common.{◌≡◌, List, None, Some, ap, rules, subst, sym, ◌∙◌, false}
use Rattle.zr_ledger.specs.Kept.{IsKept, Seen}
use Rattle.zr_ledger.specs.Out.{Out}
use Rattle.zr_ledger.specs.Ready.{first_ready}
use Rattle.zr_ledger.specs.Steps.{standing}
use Rattle.zr_ledger.specs.Turns.{idle, is_spent}
use Rattle.zr_ledger.specs.declared.state.State.{State}
use Rattle.zr_ledger.proofs.Answering.{ended-by, over-by, waits-for-none}
use Rattle.zr_ledger.proofs.Holding.{holds-started, started-is}
use Rattle.zr_ledger.proofs.ledger.Ledger.take.Goals as goal

pub invariant_of-self : goal.invariant_of-self
invariant_of-self g c =
    let s : State = standing c.self.inside.limits c.self.inside.waiting.units c.self.inside.outs.items c.self.inside.counts in
    let found : first_ready s.limits s.waiting s.outs ≡ Some c.in-Some.place =
    sym (c.in-Some.ensures ∙ ap (λ (outs : List Out). first_ready s.limits s.waiting outs) c.as_slice.ensures.value) in
    let out = c.send_out-ticket.ensures in
    holds-started c.self.inside.base c.self.inside.history.items _ s _ c.in-Some.place c.send_out-ticket.result.unit _ _ _ _ c.self.invariant found out.unit c.push_reserved.ensures.items
    (started-is s c.in-Some.place c.send_out-ticket.result _ _ _ out.waiting out.outs out.run out.counts) out.room c.push_reserved.ensures.capacity

pub returns-in-None-clause-starts : goal.returns-in-None-clause-starts
returns-in-None-clause-starts g c = λ some none left.
    let s : State = c.args.self.now.state in
    let same = ap (λ (seen : Seen). seen.state) c.self.view_is in
    let unready : first_ready s.limits s.waiting s.outs ≡ None = search rules in
    absurd (waits-for-none s (subst IsKept same c.self.invariant.keeps) unready none some)

pub returns-in-None-clause-ended : goal.returns-in-None-clause-ended
returns-in-None-clause-ended g c =
    let s : State = c.args.self.now.state in
    let same = ap (λ (seen : Seen). seen.state) c.self.view_is in
    let unready : first_ready s.limits s.waiting s.outs ≡ None = search rules in
    let left : is_spent s ≡ false = search rules in
    let answer : c.idle.result ≡ idle c.args.self.now.clock s.outs = search rules in (
      over-by s c.args.self.now.clock c.idle.result (subst IsKept same c.self.invariant.keeps) unready answer,
      ended-by s c.args.self.now.clock c.idle.result left answer,
    )
