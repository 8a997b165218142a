use Rattle.std.proofs.Common.{refl}
use Rattle.zr_model.proofs.Pairs.{AllPairs-below, PairsBelow-more, PairsBelow-none}
use Rattle.zr_model.proofs.formed.are_tags.Goals as goal

pub loop-place-init : goal.loop-place-init
loop-place-init c = PairsBelow-none _ _

pub loop-place-preserved : goal.loop-place-preserved
loop-place-preserved c =
    PairsBelow-more _ _ _ _ c.loop-place.invariant c.loop-place-test.true c.index-tags-place.is (c.if-not-differs_from_all.ensures.differs refl)

pub returns-clause-differ : goal.returns-clause-differ
returns-clause-differ c = λ passed. AllPairs-below _ _ _ c.loop-place-test.false c.loop-place.invariant
