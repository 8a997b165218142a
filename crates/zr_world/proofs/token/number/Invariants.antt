use Rattle.std.proofs.Common.{◌≡◌, drop}
use Rattle.zr_world.specs.Tokens.{number_behind}
use Rattle.zr_world.proofs.token.number.Given as goal

-- the number so far, and then the digits that are left
abbrev pub invariant-loop-digit : goal.invariant-loop-digit
invariant-loop-digit l = number_behind l.number (drop l.digit-index l.digits) ≡ number_behind 0 l.digits
