use Rattle.std.proofs.Common.{◌≡◌, ◌++◌, drop}
use Rattle.zr_known.specs.Known.{without_name}
use Rattle.zr_known.proofs.updates.without_name.Given as goal

-- the others so far, and those of the names that are left, are those of all names
abbrev pub invariant-loop-other : goal.invariant-loop-other
invariant-loop-other l =
    l.others ++ without_name l.name (drop l.other-index l.names) ≡ without_name l.name l.names
