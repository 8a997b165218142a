use Rattle.std.proofs.Common.{◌≡◌, ◌++◌, take}
use Rattle.std.specs.List.{flat_map}
use Rattle.std.specs.String.{string_bytes}
use Rattle.zr_grid.specs.Canonical.{next_text}
use Rattle.zr_grid.proofs.print.print_others.Given as goal

abbrev pub invariant-loop-interval : goal.invariant-loop-interval
invariant-loop-interval l = string_bytes l.text ≡ string_bytes l.initial.text ++ flat_map next_text (take l.interval-index l.others)
