use Rattle.std.proofs.Common.{arith}
use Rattle.std.proofs.lemmas.Bool.Decides.{nat_tests}
use Rattle.std.proofs.lemmas.Str.{utf8_valid_len-IsUtf8}
use Rattle.zr_yaml.proofs.lines.is_text.Goals as goal

pub returns-in-Ok : goal.returns-in-Ok
returns-in-Ok c = let whole = utf8_valid_len-IsUtf8 c.args.line.now c.in-Ok.ensures.cases.1 in grind (arith, nat_tests)
