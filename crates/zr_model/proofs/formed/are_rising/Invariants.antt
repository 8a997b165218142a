use Rattle.std.proofs.Common.{◌≡◌, true}
use Rattle.zr_command.specs.Names.{is_below}
use Rattle.zr_world.specs.declared.pools.Dataset.{Dataset}
use Rattle.zr_model.proofs.Pairs.{PairsBelow}
use Rattle.zr_model.proofs.formed.are_rising.Given as goal

-- each one so far stands so to all that follow
abbrev pub invariant-loop-place : goal.invariant-loop-place
invariant-loop-place l = PairsBelow (λ (a : Dataset) (b : Dataset). is_below a.path b.path ≡ true) l.sets l.place
