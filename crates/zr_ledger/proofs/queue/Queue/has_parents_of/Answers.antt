use Rattle.std.proofs.Common.{List, ap, refl, ◌∙◌}
use Rattle.std.specs.List.{list_any}
use Rattle.zr_names.specs.declared.unit.Unit.{Unit}
use Rattle.zr_names.specs.declared.unit.Work.TheVariants as work
use Rattle.zr_ledger.specs.Seats.{has_key}
use Rattle.zr_ledger.proofs.Lookups.{any-key}
use Rattle.zr_ledger.proofs.queue.Queue.has_parents_of.Goals as goal

pub returns : goal.returns
returns c =
    c.parents_wait.ensures ∙ ap (λ (units : List Unit). list_any (has_key c.args.job work.Parents) units) c.line.ensures
    ∙ any-key c.args.job work.Parents c.args.self.now.units refl
