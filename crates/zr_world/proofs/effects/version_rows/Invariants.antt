use Rattle.std.proofs.Common.{◌≡◌, map, take}
use Rattle.zr_world.specs.Rows.{row_of_version}
use Rattle.zr_world.proofs.effects.version_rows.Given as goal

-- the rows so far are those of the items so far
abbrev pub invariant-loop-version : goal.invariant-loop-version
invariant-loop-version l = l.rows.items ≡ map row_of_version (take l.version-index l.versions)
