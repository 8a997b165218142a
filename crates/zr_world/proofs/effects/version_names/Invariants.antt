use Rattle.std.proofs.Common.{◌≡◌, map, take}
use Rattle.zr_command.specs.declared.version.VersionName.TheVariants.{Snap}
use Rattle.zr_world.proofs.effects.version_names.Given as goal

-- the names so far are those of snapshots
abbrev pub invariant-loop-name : goal.invariant-loop-name
invariant-loop-name l = l.versions.items ≡ map Snap (take l.name-index l.names)
