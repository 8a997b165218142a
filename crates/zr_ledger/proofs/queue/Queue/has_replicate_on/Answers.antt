use Rattle.std.proofs.Common.{List, ap, refl, ◌∙◌}
use Rattle.std.specs.List.{list_any}
use Rattle.zr_names.specs.declared.unit.Unit.{Unit}
use Rattle.zr_names.specs.declared.unit.Work.TheVariants as work
use Rattle.zr_ledger.specs.Seats.{has_key}
use Rattle.zr_ledger.proofs.Lookups.{any-key}
use Rattle.zr_ledger.proofs.queue.Queue.has_replicate_on.Goals as goal

pub returns : goal.returns
returns c =
    c.replicate_waits.ensures ∙ ap (λ (units : List Unit). list_any (has_key c.args.job (work.Replicate c.args.path.now)) units) c.line.ensures
    ∙ any-key c.args.job (work.Replicate c.args.path.now) c.args.self.now.units refl
