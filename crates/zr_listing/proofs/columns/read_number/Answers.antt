use Rattle.std.proofs.Common.{sym, ◌∙◌}
use Rattle.zr_listing.proofs.Numbers.{front-printed, printed, parsed-some, parsed-none}
use Rattle.zr_listing.proofs.columns.read_number.Goals as goal

pub returns-then-not-has_printed_front-clause-none : goal.returns-then-not-has_printed_front-clause-none
returns-then-not-has_printed_front-clause-none c = λ n small is.
    front-printed c.args.text.now n small is (sym c.has_printed_front.ensures ∙ c.if-not-has_printed_front.true)

pub returns-in-Err-clause-none : goal.returns-in-Err-clause-none
returns-in-Err-clause-none c = λ n small is. c.in-Err.ensures.cases.0 (printed c.args.text.now n small is).utf8

pub returns-in-Ok-clause-some : goal.returns-in-Ok-clause-some
returns-in-Ok-clause-some c =
    let parses = rw c.in-Ok.ensures.cases.0 at c.parse.ensures.value.0 in
    let front = sym c.has_printed_front.ensures ∙ c.if-not-has_printed_front.false in
    rw c.ok.ensures.value (parsed-some c.args.text.now c.parse.result parses front)

pub returns-in-Ok-clause-none : goal.returns-in-Ok-clause-none
returns-in-Ok-clause-none c =
    let parses = rw c.in-Ok.ensures.cases.0 at c.parse.ensures.value.0 in
    rw c.ok.ensures.value (parsed-none c.args.text.now c.parse.result parses)
