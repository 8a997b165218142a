use Rattle.std.proofs.Common.{◌≤◌, vec_len}
use Rattle.zr_pipe.proofs.reading.read_through.Given as goal

-- what was read stays within the limit
abbrev pub invariant-loop : goal.invariant-loop
invariant-loop g l = vec_len l.read ≤ l.limit
