use Rattle.std.proofs.Common.{◌∙◌, ℕ, List, inl, refl, subst, sym}
use Rattle.zr_top.specs.Records.{RefusalPrinted}
use Rattle.zr_top.specs.Status.{IsRefused}
use Rattle.zr_top.proofs.Refusing.{unread, unread-not-refused}
use Rattle.zr_top.proofs.Recording.{idle-no-memory, ran-file, unread-unrun}
use Rattle.zr_top.proofs.top.run_named.Goals as goal

pub returns-in-Ok-clause-refusal_printed : goal.returns-in-Ok-clause-refusal_printed
returns-in-Ok-clause-refusal_printed g c = λ is whole there.
    let bytes = c.as_slice.ensures.value ∙ c.in-Ok.ensures.bytes whole there in
    let Says : List ℕ → Type 0 = λ read. RefusalPrinted read (g.S.Sink.written c.args.out.now) (g.S.Sink.written c.run_file.new.out) in
    subst Says bytes (c.run_file.ensures.refusal_printed is)

pub returns-in-Err-Failed-clause-refusal_printed : goal.returns-in-Err-Failed-clause-refusal_printed
returns-in-Err-Failed-clause-refusal_printed g c = λ is whole there.
    absurd (unread-not-refused _ c.unreadable.ensures.printed is)

pub returns-in-Ok-clause-refused : goal.returns-in-Ok-clause-refused
returns-in-Ok-clause-refused g c = λ whole there refused.
    let bytes = c.as_slice.ensures.value ∙ c.in-Ok.ensures.bytes whole there in
    inl (c.run_file.ensures.refused (subst IsRefused (sym bytes) refused))

pub returns-in-Ok-clause-refused_only : goal.returns-in-Ok-clause-refused_only
returns-in-Ok-clause-refused_only g c = λ is whole there.
    let bytes = c.as_slice.ensures.value ∙ c.in-Ok.ensures.bytes whole there in
    subst IsRefused bytes (c.run_file.ensures.refused_only is)

pub returns-in-Err-Failed-clause-refused : goal.returns-in-Err-Failed-clause-refused
returns-in-Err-Failed-clause-refused g c = λ whole there refused. unread _ c.unreadable.ensures.printed

pub returns-in-Err-Failed-clause-refused_only : goal.returns-in-Err-Failed-clause-refused_only
returns-in-Err-Failed-clause-refused_only g c = λ is whole there.
    absurd (unread-not-refused _ c.unreadable.ensures.printed is)

pub returns-in-Ok-clause-ran : goal.returns-in-Ok-clause-ran
returns-in-Ok-clause-ran g c =
    ran-file _ _ _ _ _ _ _ _ c.as_slice.ensures.value c.in-Ok.ensures.bytes (c.run_file.ensures.ran _)

pub returns-in-Err-Failed-clause-ran : goal.returns-in-Err-Failed-clause-ran
returns-in-Err-Failed-clause-ran g c = inl (unread-unrun _ _ _ _ refl c.unreadable.ensures.printed c.unreadable.ensures.front c.unreadable.ensures.whole)

pub returns-clause-ran : goal.returns-clause-ran
returns-clause-ran g c = inl (idle-no-memory c.args.file.now _ _ refl refl)
