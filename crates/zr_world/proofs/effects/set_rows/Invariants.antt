use Rattle.std.proofs.Common.{◌≡◌, map, take}
use Rattle.zr_world.specs.Rows.{row_of_set}
use Rattle.zr_world.proofs.effects.set_rows.Given as goal

-- the rows so far are those of the items so far
abbrev pub invariant-loop-set : goal.invariant-loop-set
invariant-loop-set l = l.rows.items ≡ map row_of_set (take l.set-index l.sets)
