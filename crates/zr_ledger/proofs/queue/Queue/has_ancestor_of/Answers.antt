use Rattle.std.proofs.Common.{List, ap, ◌∙◌}
use Rattle.std.specs.List.{list_any}
use Rattle.zr_names.specs.declared.unit.Unit.{Unit}
use Rattle.zr_ledger.specs.Seats.{is_ancestor_of}
use Rattle.zr_ledger.proofs.Lookups.{any-ancestor}
use Rattle.zr_ledger.proofs.queue.Queue.has_ancestor_of.Goals as goal

pub returns : goal.returns
returns c =
    c.ancestor_waits.ensures ∙ ap (λ (units : List Unit). list_any (is_ancestor_of c.args.job c.args.path.now) units) c.line.ensures
    ∙ any-ancestor c.args.job c.args.path.now c.args.self.now.units
