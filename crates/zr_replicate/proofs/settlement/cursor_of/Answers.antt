use Rattle.std.proofs.Common.{rules, ◌≡◌, ℕ, List, sym}
use Rattle.zr_names.specs.Marks.{cursor_text, mark_kind}
use Rattle.zr_names.specs.declared.marks.MarkKind.TheVariants.{Cursor}
use Rattle.zr_names.proofs.MarkKinds.{kind_of_mark}
use Rattle.zr_replicate.proofs.Lists.{if-ok}
use Rattle.zr_replicate.proofs.settlement.cursor_of.Goals as goal

pub returns-clause-kind : goal.returns-clause-kind
returns-clause-kind c =
    let job = c.args.job.now in
    let guid = c.args.guid in
    if-ok (λ (name : List ℕ). name ≡ cursor_text guid.0 job) (λ (name : List ℕ). mark_kind name job ≡ Cursor guid) c.cursor_name.result (λ name is. sym (kind_of_mark name job (Cursor guid) (search rules) is)) c.cursor_name.ensures
