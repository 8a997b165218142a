use Rattle.std.proofs.Common.{List, ap, ◌∙◌}
use Rattle.std.specs.List.{list_any}
use Rattle.zr_names.specs.declared.unit.Unit.{Unit}
use Rattle.zr_ledger.specs.Seats.{same_key}
use Rattle.zr_ledger.proofs.Lookups.{any-key}
use Rattle.zr_ledger.proofs.queue.Queue.has_like_of_job.Goals as goal

pub returns : goal.returns
returns c =
    c.key_waits.ensures ∙ ap (λ (units : List Unit). list_any (same_key c.args.unit.now) units) c.line.ensures
    ∙ any-key c.args.unit.now.job c.args.unit.now.work c.args.self.now.units c.requires
