use Rattle.std.proofs.Common.{sym, ◌∙◌}
use Rattle.zr_ledger.specs.Seats.{same_key}
use Rattle.zr_ledger.proofs.Lookups.{none-in-slot}
use Rattle.zr_ledger.proofs.queue.Queue.has_snap_like.Goals as goal

pub returns-else-may_have_snap : goal.returns-else-may_have_snap
returns-else-may_have_snap c =
    c.if-may_have_snap.false ∙ sym (none-in-slot c.args.path.now (same_key c.args.unit.now) c.args.self.now.units c.requires
    (sym c.may_have_snap.ensures ∙ c.if-may_have_snap.false))
