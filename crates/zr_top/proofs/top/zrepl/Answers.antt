use Rattle.std.proofs.Common.{◌∙◌, ◌∷◌, ◌++◌, [], ℕ, ap, inl, inr, refl, subst, sym}
use Rattle.std.specs.Io.KnownBytes.{append_known}
use Rattle.std.specs.List.{Contains}
use Rattle.std.specs.Prelude.{codes}
use Rattle.zr_top.specs.Records.{is_silent}
use Rattle.zr_top.specs.Status.{is_idle}
use Rattle.zr_top.proofs.Outcomes.{fault-code, no-command, sound-codes, unread-code, unwritable-code, usage-caused, usage-code}
use Rattle.zr_top.proofs.Refusing.{asks-named, job_file-code, read-not-refused, refused-codes, same-file}
use Rattle.zr_top.proofs.Recording.{ran-named, usage-codes}
use Rattle.zr_top.proofs.top.zrepl.Goals as goal

pub returns-in-Some-clause-kept : goal.returns-in-Some-clause-kept
returns-in-Some-clause-kept g c =
    let content = g.F.Files.content c.args.files.now in
    let run = c.run_named.ensures in
    record {
      usage_only = λ two. absurd (run.no_usage (usage-code _ (sym c.code.ensures ∙ two)));
      usage = λ none. absurd (no-command _ _ none (sym c.in-Some.ensures));
      refused_only = λ three file whole finds.
          run.refused_only (job_file-code c.run_named.result (sym c.code.ensures ∙ three)) whole
          (ap content (same-file _ _ file c.in-Some.ensures finds.named) ∙ finds.there);
      refused = λ file whole finds refused.
          let codes = refused-codes c.run_named.result (run.refused whole (ap content (same-file _ _ file c.in-Some.ensures finds.named) ∙ finds.there) refused) in
          let among : ℕ → Type 0 = λ code. Contains (3 ∷ 7 ∷ 8 ∷ 9 ∷ []) code in
          subst among (sym c.code.ensures) codes;
      ran = λ file named.
          ran-named content _ file _ _ _ _ _ (same-file _ _ file c.in-Some.ensures named) c.code.ensures run.ran;
      asked = λ file named. asks-named _ _ _ file (same-file _ _ file c.in-Some.ensures named) run.asked;
      unasked = λ none. absurd (no-command _ _ none (sym c.in-Some.ensures));
      failed_rose = λ five. run.failed (fault-code _ (sym c.code.ensures ∙ five));
      complete = λ file whole jobs finds reads sound.
          let at = same-file _ _ file c.in-Some.ensures finds.named in
          let among : ℕ → Type 0 = λ code. Contains (0 ∷ 4 ∷ 6 ∷ 9 ∷ []) code in
          subst among (sym c.code.ensures) (sound-codes c.run_named.result (record {
            no_usage = run.no_usage;
            accepted = λ is. read-not-refused _ jobs reads (run.refused_only is whole (ap content at ∙ finds.there));
            readable = λ is. sound.files (run.unreadable is).0;
            writable = λ is. sound.output (run.unwritable is);
            no_fault = λ is. sound.children (run.failed is);
          }));
      usage_printed = λ two. absurd (run.no_usage (usage-code _ (sym c.code.ensures ∙ two)));
      usage_front = λ none. absurd (no-command _ _ none (sym c.in-Some.ensures));
      usage_whole = λ none. absurd (no-command _ _ none (sym c.in-Some.ensures));
      refusal_printed = λ three file whole finds.
          run.refusal_printed (job_file-code c.run_named.result (sym c.code.ensures ∙ three)) whole
          (ap content (same-file _ _ file c.in-Some.ensures finds.named) ∙ finds.there);
      unread_printed = λ seven file named.
          run.unread_printed (unread-code c.run_named.result (sym c.code.ensures ∙ seven))
          ∙ ap (λ name. append_known (g.S.Sink.written c.args.out.now) (codes "cannot read " ++ name ++ 10 ∷ [])) (same-file _ _ file c.in-Some.ensures named);
      unreadable = λ seven.
          let failed = run.unreadable (unread-code _ (sym c.code.ensures ∙ seven)) in
          (failed.0, sym c.in-Some.ensures ∙ sym failed.1);
      unwritable = λ eight. run.unwritable (unwritable-code _ (sym c.code.ensures ∙ eight));
    }

pub returns-in-None-clause-kept : goal.returns-in-None-clause-kept
returns-in-None-clause-kept g c =
    let none = sym c.in-None.ensures in
    let caused = usage-caused c.print.result c.print.ensures.printed in
    record {
      usage_only = λ two. none;
      usage = λ no_file.
          let among : ℕ → Type 0 = λ code. Contains (2 ∷ 8 ∷ 9 ∷ []) code in
          subst among (sym c.code-in-None.ensures) (usage-codes _ c.print.ensures.printed);
      refused_only = λ three file whole finds. absurd (no-command _ file none finds.named);
      refused = λ file whole finds refused. absurd (no-command _ file none finds.named);
      ran = λ file named. absurd (no-command _ file none named);
      asked = λ file named. absurd (no-command _ file none named);
      unasked = λ no_file. refl;
      failed_rose = λ five. absurd (caused.0 (sym c.code-in-None.ensures ∙ five));
      complete = λ file whole jobs finds reads sound. absurd (no-command _ file none finds.named);
      usage_printed = λ two. c.print.ensures.wrote (ap is_silent (usage-code c.print.result (sym c.code-in-None.ensures ∙ two)));
      usage_front = λ no_file. c.print.ensures.front;
      usage_whole = λ no_file. c.print.ensures.whole;
      refusal_printed = λ three file whole finds. absurd (no-command _ file none finds.named);
      unread_printed = λ seven file named. absurd (no-command _ file none named);
      unreadable = λ seven. absurd (caused.1 (sym c.code-in-None.ensures ∙ seven));
      unwritable = λ eight. c.print.ensures.cause (unwritable-code c.print.result (sym c.code-in-None.ensures ∙ eight));
    }

pub returns-in-Some-clause-idle : goal.returns-in-Some-clause-idle
returns-in-Some-clause-idle g c = λ idle.
    c.run_named.ensures.idle (elim idle [
      | inl two ↦ ap is_idle (usage-code c.run_named.result (sym c.code.ensures ∙ two))
      | inr rest ↦ elim rest [
        | inl three ↦ ap is_idle (job_file-code c.run_named.result (sym c.code.ensures ∙ three))
        | inr seven ↦ ap is_idle (unread-code c.run_named.result (sym c.code.ensures ∙ seven))
      ]
    ])
