use Rattle.std.proofs.Common.{◌≡◌, ◌++◌, take}
use Rattle.std.specs.List.{AllByRecursion}
use Rattle.zr_cmd.specs.Steps.{with_commas}
use Rattle.zr_cmd.specs.Words.{IsVersion}
use Rattle.zr_cmd.proofs.argv.push_others.Given as goal

-- the names so far are put behind, and are names
abbrev pub invariant-loop-name : goal.invariant-loop-name
invariant-loop-name l = record {
  text : l.text.items ≡ l.initial.text.items ++ with_commas (take l.name-index l.names);
  named : AllByRecursion (λ name. IsVersion name) (take l.name-index l.names);
}
