use Rattle.std.proofs.Common.{◌≡◌, drop}
use Rattle.zr_world.specs.Effect.{without_all}
use Rattle.zr_world.proofs.effects.remove_all.Given as goal

-- what is left is to be taken away from the pools as they are now
abbrev pub invariant-loop-name : goal.invariant-loop-name
invariant-loop-name l =
    without_all l.pools l.path (drop l.name-index l.names) ≡ without_all l.initial.pools l.path l.names
