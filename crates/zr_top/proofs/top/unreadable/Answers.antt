use Rattle.std.proofs.Common.{◌∙◌, ℕ, List, subst}
use Rattle.zr_top.specs.Records.{WroteAllOrNothing}
use Rattle.zr_top.proofs.top.unreadable.Goals as goal

pub returns-in-Ok-clause-whole : goal.returns-in-Ok-clause-whole
returns-in-Ok-clause-whole g c =
    let Says : List ℕ → Type 0 = λ text. WroteAllOrNothing (g.S.Sink.faults c.args.out.now) (g.S.Sink.faults c.print.new.out) (g.S.Sink.written c.args.out.now) (g.S.Sink.written c.print.new.out) text in
    subst Says (c.as_str.ensures.value ∙ c.in-Ok.ensures.ok) c.print.ensures.whole
