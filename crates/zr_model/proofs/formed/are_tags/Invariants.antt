use Rattle.std.proofs.Common.{◌≢◌, List, ℕ}
use Rattle.zr_model.proofs.Pairs.{PairsBelow}
use Rattle.zr_model.proofs.formed.are_tags.Given as goal

-- each one so far stands so to all that follow
abbrev pub invariant-loop-place : goal.invariant-loop-place
invariant-loop-place l = PairsBelow (λ (a : List ℕ) (b : List ℕ). a ≢ b) l.tags l.place
