use Rattle.std.proofs.Common.{◌≡◌, ◌≢◌, List, ℕ, Err, subst}
use Rattle.zr_jobwalk.specs.declared.texts.Unread.{Unread}
use Rattle.zr_jobwalk.specs.Texts.{IsLocal, ReadsText}
use Rattle.zr_jobwalk.proofs.BadTexts.{bad_text}
use Rattle.zr_jobwalk.proofs.table.Table.local.Goals as goal

pub returns-in-Err-clause-fault : goal.returns-in-Err-clause-fault
returns-in-Err-clause-fault c other =
    let Refused : Unread → Type 0 = λ unread. ReadsText IsLocal c.in_ok-text.text.now (Err unread) in
    let bad = subst Refused (c.unread.ensures.bad other) c.in-Err.ensures in
    bad_text IsLocal _ _ c.in_ok-text.text.now _ c.in_ok-text.ensures.text bad (c.unread.ensures.told other)
