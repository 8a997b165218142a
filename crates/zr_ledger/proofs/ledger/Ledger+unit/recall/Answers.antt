use Rattle.std.proofs.Common.{List, ap}
use Rattle.zr_ledger.specs.Out.{Out}
use Rattle.zr_ledger.specs.Steps.{standing}
use Rattle.zr_ledger.specs.declared.state.State.{State}
use Rattle.zr_ledger.proofs.Holding.{holds-recalled}
use Rattle.zr_ledger.proofs.ledger.Ledger+unit.recall.Goals as goal

pub invariant_of-self : goal.invariant_of-self
invariant_of-self c =
    let s : State = standing c.self.inside.limits c.self.inside.waiting.units c.self.inside.outs.items c.self.inside.counts in
    let done = c.give_up.ensures in
    holds-recalled c.self.inside.base c.self.inside.history.items _ s _ _ _ _ _ c.self.invariant done.history
    (ap (λ (outs : List Out). standing c.self.inside.limits c.self.inside.waiting.units outs c.self.inside.counts) done.outs) done.outs_room done.history_room
