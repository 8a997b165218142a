use Rattle.std.proofs.Common.{◌≡◌, ◌++◌, drop}
use Rattle.zr_world.specs.Effect.{chosen}
use Rattle.zr_world.proofs.effects.chosen.Given as goal

-- behind the names so far come those that the rest of the bits choose of the others
abbrev pub invariant-loop-name : goal.invariant-loop-name
invariant-loop-name l =
    l.some.items ++ chosen l.bits (drop l.name-index l.names) ≡ chosen l.initial.bits l.names
