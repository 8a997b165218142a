use Rattle.std.proofs.Common.{rules, ap, ◌∙◌}
use Rattle.std.proofs.lemmas.Bool.Decides.{Decides-at}
use Rattle.zr_names.specs.declared.marks.MarkKind.{MarkKind}
use Rattle.zr_command.specs.Kinds.{is_cursor}
use Rattle.zr_known.proofs.Decisions.{cursor-decides}
use Rattle.zr_known.proofs.deciding.is_cursor_text.Goals as goal

pub returns : goal.returns
returns c =
    Decides-at c.is_cursor.result _ (c.is_cursor.ensures ∙ ap (λ (k : MarkKind). is_cursor c.args.guid k) c.mark_of.ensures.kind) (cursor-decides c.args.name.now c.args.job.now c.args.guid (search rules))
