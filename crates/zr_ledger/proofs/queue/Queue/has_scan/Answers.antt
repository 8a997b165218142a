use Rattle.std.proofs.Common.{ap, ltb, ◌∙◌}
use Rattle.std.specs.List.{list_any}
use Rattle.zr_names.specs.declared.unit.Unit.{Unit}
use Rattle.zr_ledger.specs.Queue.{Queued}
use Rattle.zr_ledger.specs.Seats.{is_scan}
use Rattle.zr_ledger.proofs.Lookups.{any-count}
use Rattle.zr_ledger.proofs.queue.Queue.has_scan.Goals as goal

pub returns : goal.returns
returns c =
    ap (ltb 0) c.self.invariant.scanning ∙ any-count (λ (unit : Unit). is_scan unit.work) c.self.inside.order.items
    ∙ ap (λ (queue : Queued). list_any (λ (unit : Unit). is_scan unit.work) queue.units) c.self.view_is
