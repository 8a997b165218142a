use Rattle.std.proofs.Common.{◌∙◌, sym, rules}
use Rattle.zr_jobset.specs.Units.{is_scanned}
use Rattle.zr_top.proofs.Ranges.{one-fails, one-passes}
use Rattle.zr_top.proofs.once.due_jobs.Goals.{then-is_scanned+in_ok-push, else-is_scanned}
use Rattle.zr_top.proofs.once.due_jobs.Goals as goal

pub loop-number-preserved : goal.loop-number-preserved
loop-number-preserved c = elim c.if-is_scanned.branch [
  | then-is_scanned+in_ok-push w ↦
      let more = one-passes (is_scanned c.args.jobs.now) c.loop-number.number (sym c.is_scanned.ensures ∙ w.if-is_scanned.true) in search rules
  | else-is_scanned w ↦
      let same = one-fails (is_scanned c.args.jobs.now) c.loop-number.number (sym c.is_scanned.ensures ∙ w.if-is_scanned.false) in search rules
]
