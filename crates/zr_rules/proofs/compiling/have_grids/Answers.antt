use Rattle.std.proofs.Common.{refl}
use Rattle.zr_rules.specs.Specs.{HasGrid}
use Rattle.zr_rules.proofs.Taken.{All-more, All-whole}
use Rattle.zr_rules.proofs.compiling.have_grids.Goals as goal

pub loop-spec-preserved : goal.loop-spec-preserved
loop-spec-preserved c =
    All-more HasGrid c.args.specs.now c.loop-spec.spec-index c.spec-item.result c.loop-spec-test.true c.spec-item.is c.loop-spec.invariant (c.has_grid.ensures.0 c.if-not-has_grid.false)

pub returns : goal.returns
returns c = (λ _. All-whole HasGrid c.args.specs.now c.loop-spec.spec-index c.loop-spec-test.false c.loop-spec.invariant, λ _. refl)
