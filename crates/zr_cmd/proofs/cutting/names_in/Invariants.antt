use Rattle.std.proofs.Common.{◌≡◌, ◌+◌, ◌++◌, [], length}
use Rattle.std.specs.List.{AllByRecursion}
use Rattle.std.specs.Option.{option_map_or}
use Rattle.zr_cmd.specs.Forms.{names_in}
use Rattle.zr_cmd.specs.Words.{IsVersion}
use Rattle.zr_cmd.proofs.cutting.names_in.Given as goal

-- the names so far stand before those of the rest
abbrev pub invariant-loop-rest : goal.invariant-loop-rest
invariant-loop-rest l = record {
  cut : names_in l.text ≡ l.names.items ++ option_map_or (λ rest. names_in rest.now) l.rest [];
  named : AllByRecursion (λ name. IsVersion name) l.names.items;
}

abbrev pub decreases-loop-rest : goal.decreases-loop-rest
decreases-loop-rest l = option_map_or (λ rest. length rest.now + 1) l.rest 0
