use Rattle.std.proofs.Common.{◌≡◌, vec_len}
use Rattle.zrepl_main.proofs.runners.Given as goal

-- each turn makes one
abbrev pub invariant-loop : goal.invariant-loop
invariant-loop g l = vec_len l.runners ≡ l.counter
