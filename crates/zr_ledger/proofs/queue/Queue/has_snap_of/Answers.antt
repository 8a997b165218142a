use Rattle.std.proofs.Common.{sym, ◌∙◌}
use Rattle.zr_names.specs.declared.unit.Unit.{Unit}
use Rattle.zr_ledger.specs.Seats.{is_snap_of}
use Rattle.zr_ledger.proofs.Lookups.{none-in-slot}
use Rattle.zr_ledger.proofs.queue.Queue.has_snap_of.Goals as goal

pub returns-else-may_have_snap : goal.returns-else-may_have_snap
returns-else-may_have_snap c =
    c.if-may_have_snap.false ∙ sym (none-in-slot c.args.path.now (λ (unit : Unit). is_snap_of c.args.path.now unit.work) c.args.self.now.units (λ unit is. is)
    (sym c.may_have_snap.ensures ∙ c.if-may_have_snap.false))
