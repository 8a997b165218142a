use Rattle.std.proofs.Common.{take}
use Rattle.std.specs.Prelude.{All}
use Rattle.zr_rules.specs.Specs.{HasGrid}
use Rattle.zr_rules.proofs.compiling.have_grids.Given as goal

abbrev pub invariant-loop-spec : goal.invariant-loop-spec
invariant-loop-spec l = All HasGrid (take l.spec-index l.specs)
