use Rattle.zr_names.proofs.hex.read_hex.Given as goal
use Rattle.zr_names.proofs.HexText.{IsRead}

-- the digits so far are those of the number
abbrev pub invariant-loop-digit : goal.invariant-loop-digit
invariant-loop-digit l = IsRead l.digits l.digit-index l.n
