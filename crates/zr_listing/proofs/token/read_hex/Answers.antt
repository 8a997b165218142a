use Rattle.std.proofs.Common.{sym, ◌∙◌}
use Rattle.zr_listing.proofs.Hexadecimal.{hex-utf8, hex-none}
use Rattle.zr_listing.proofs.token.read_hex.Goals as goal

pub returns-in-Ok-clause-none : goal.returns-in-Ok-clause-none
returns-in-Ok-clause-none c =
    let parses = rw c.in-Ok.ensures.cases.0 at c.from_str_radix.ensures.value in
    rw c.ok.ensures.value (hex-none c.args.text.now c.from_str_radix.result parses (sym c.is_hex_long.ensures ∙ c.if-not-is_hex_long.false))

pub returns-in-Err-clause-none : goal.returns-in-Err-clause-none
returns-in-Err-clause-none c = λ n is. c.in-Err.ensures.cases.0 (hex-utf8 c.args.text.now n is)
