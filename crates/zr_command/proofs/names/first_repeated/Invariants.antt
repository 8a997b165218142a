use Rattle.std.proofs.Common.{◌≢◌, ◌≤◌, AllPairs, length, take}
use Rattle.zr_command.proofs.names.first_repeated.Given as goal

-- the names so far differ
abbrev pub invariant-loop-place : goal.invariant-loop-place
invariant-loop-place l = record {
  inside : l.place ≤ length l.names;
  differ : AllPairs (λ a b. a ≢ b) (take l.place l.names);
}
