use Rattle.std.proofs.Common.{arith}
use Rattle.std.proofs.lemmas.Grind.{common_steps}
use Rattle.zr_names.proofs.HexText.{hex_text-none, hex_text-more}
use Rattle.zr_names.proofs.hex.+push_hex.Goals as goal

pub returns-then-digits-eq0 : goal.returns-then-digits-eq0
returns-then-digits-eq0 t c =
    let none = hex_text-none c.args.digits c.args.n c.if-digits-eq0.true in
    grind (arith, common_steps, none)

pub returns : goal.returns
returns t c =
    let more = hex_text-more c.args.digits c.args.n (omega arith) in
    grind (arith, common_steps, more)
