use Rattle.std.proofs.Common.{false, sym}
use Rattle.zr_grid.specs.declared.kept.GridRow.{GridRow}
use Rattle.zr_grid.proofs.Valid.{ascends}
use Rattle.zr_grid.proofs.kept.is_ascending.Goals as goal

abbrev nothing : GridRow
nothing = record { creation = 0; txg = 0; matches = false }

pub loop-i-preserved : goal.loop-i-preserved
loop-i-preserved c = ascends c.args.rows.now c.loop-i.i nothing c.loop-i.auto.i c.loop-i-test.true c.loop-i.invariant (sym c.if-not-comes_before.ensures)
