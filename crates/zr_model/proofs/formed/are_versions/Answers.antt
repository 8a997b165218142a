use Rattle.std.proofs.Common.{◌≡◌, ◌≢◌, refl, true}
use Rattle.zr_command.specs.Listings.{stands_before}
use Rattle.zr_world.specs.declared.pools.Version.{Version}
use Rattle.zr_model.proofs.Pairs.{AllPairs-at, AllPairs-below, PairsBelow-more, PairsBelow-none}
use Rattle.zr_model.proofs.formed.are_versions.Goals as goal

pub loop-place-init : goal.loop-place-init
loop-place-init c = record {
  in_order = PairsBelow-none _ _;
  names_differ = PairsBelow-none _ _;
}

pub loop-place-preserved : goal.loop-place-preserved
loop-place-preserved c = record {
  in_order = PairsBelow-more _ _ _ _ c.loop-place.invariant.in_order c.loop-place-test.true c.index-versions-place.is (c.if-not-may_precede_all.ensures.in_order refl);
  names_differ = PairsBelow-more _ _ _ _ c.loop-place.invariant.names_differ c.loop-place-test.true c.index-versions-place.is (c.if-not-may_precede_all.ensures.names_differ refl);
}

pub returns-clause-in_order : goal.returns-clause-in_order
returns-clause-in_order c = λ passed. AllPairs-below _ _ _ c.loop-place-test.false c.loop-place.invariant.in_order

pub returns-clause-names_differ : goal.returns-clause-names_differ
returns-clause-names_differ c = λ passed. AllPairs-below _ _ _ c.loop-place-test.false c.loop-place.invariant.names_differ

pub returns-then-not-may_precede_all-clause-only : goal.returns-then-not-may_precede_all-clause-only
returns-then-not-may_precede_all-clause-only c = λ in_order names_differ.
    c.if-not-may_precede_all.ensures.only (AllPairs-at (λ (a : Version) (b : Version). stands_before a.txg a.name b.txg b.name ≡ true) _ _ _ in_order c.loop-place-test.true c.index-versions-place.is) (AllPairs-at (λ (a : Version) (b : Version). a.name ≢ b.name) _ _ _ names_differ c.loop-place-test.true c.index-versions-place.is)
