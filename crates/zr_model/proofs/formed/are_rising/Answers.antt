use Rattle.std.proofs.Common.{◌≡◌, refl, true}
use Rattle.zr_command.specs.Names.{is_below}
use Rattle.zr_world.specs.declared.pools.Dataset.{Dataset}
use Rattle.zr_model.proofs.Pairs.{AllPairs-at, AllPairs-below, PairsBelow-more, PairsBelow-none}
use Rattle.zr_model.proofs.formed.are_rising.Goals as goal

pub loop-place-init : goal.loop-place-init
loop-place-init c = PairsBelow-none _ _

pub loop-place-preserved : goal.loop-place-preserved
loop-place-preserved c =
    PairsBelow-more _ _ _ _ c.loop-place.invariant c.loop-place-test.true c.index-sets-place.is (c.if-not-is_below_all.ensures.below refl)

pub returns-clause-rising : goal.returns-clause-rising
returns-clause-rising c = λ passed. AllPairs-below _ _ _ c.loop-place-test.false c.loop-place.invariant

pub returns-then-not-is_below_all-clause-only : goal.returns-then-not-is_below_all-clause-only
returns-then-not-is_below_all-clause-only c = λ rising.
    c.if-not-is_below_all.ensures.only (AllPairs-at (λ (a : Dataset) (b : Dataset). is_below a.path b.path ≡ true) _ _ _ rising c.loop-place-test.true c.index-sets-place.is)
