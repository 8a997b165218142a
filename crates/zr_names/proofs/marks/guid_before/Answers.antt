use Rattle.std.proofs.Common.{codes, arith, ap, sym, ◌∙◌, not}
use Rattle.std.proofs.lemmas.List.{append_cancel_left}
use Rattle.std.proofs.lemmas.Slice.Eq.{bytes_eq-Decides}
use Rattle.zr_names.specs.Hex.{hex_text}
use Rattle.zr_names.proofs.Parts.{parts_of}
use Rattle.zr_names.proofs.marks.guid_before.Goals as goal

pub returns-then-text-lt16 : goal.returns-then-text-lt16
returns-then-text-lt16 c = λ guid same.
    let parts = parts_of c.args.text.now guid c.args.job.now same in
    omega arith

pub returns-in_default : goal.returns-in_default
returns-in_default c = λ guid same.
    let parts = parts_of c.args.text.now guid c.args.job.now same in
    c.in_default.ensures c.args.job.now (c.split_at.ensures.back ∙ parts.rest)

pub returns-then-ne : goal.returns-then-ne
returns-then-ne c = λ guid same.
    let parts = parts_of c.args.text.now guid c.args.job.now same in
    let own = append_cancel_left (codes "_J_") c.in-Some.own.now c.args.job.now (sym c.in-Some.ensures ∙ c.split_at.ensures.back ∙ parts.rest) in
    let equal = (bytes_eq-Decides c.in-Some.own.now c.args.job.now).1 own in
    let negated = ap not equal in
    let apart = c.if-ne.ensures in
    cc

pub returns-in-None : goal.returns-in-None
returns-in-None c = λ guid same.
    let parts = parts_of c.args.text.now guid c.args.job.now same in
    c.in-None.ensures guid (c.split_at.ensures.front ∙ parts.digits ∙ ap (λ k. hex_text k guid) (sym c.split_at.ensures.front_len))
