use Rattle.std.proofs.Common.{arith, refl}
use Rattle.std.proofs.lemmas.Option.{slice_get_within}
use Rattle.zr_grid.proofs.Sweeps.{begun}
use Rattle.zr_grid.proofs.kept.grid_keeps.Goals as goal

pub loop-i-init : goal.loop-i-init
loop-i-init c = record {
  swept = begun c.as_slice-intervals.result.now c.newest_creation-newest.result c.args.rows.now c.beyond-place.result c.beyond-place.ensures.stands c.beyond-place.ensures.none;
  passed = λ k row at low. absurd (omega arith);
  ahead = λ k _. refl;
}

pub returns-clause-kept : goal.returns-clause-kept
returns-clause-kept c = λ i row at. let inside = slice_get_within c.args.rows.now i row at in c.loop-i.invariant.passed i row at (omega (arith, inside, c.loop-i-test.false))
