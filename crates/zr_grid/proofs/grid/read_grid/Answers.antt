use Rattle.std.proofs.lemmas.Result.{err_from_is_err_and}
use Rattle.zr_grid.proofs.Limits.{left_within, reads_fault, reads_unbuilt, reads_built}
use Rattle.zr_grid.proofs.grid.read_grid.Goals as goal

pub fault_of-requires : goal.fault_of-requires
fault_of-requires c = left_within _ _ c.in-Err.ensures

pub returns-in-Err : goal.returns-in-Err
returns-in-Err c = rw c.fault_of.ensures (reads_fault _ _ c.in-Err.ensures)

pub returns-in_err-build : goal.returns-in_err-build
returns-in_err-build c =
    let p = err_from_is_err_and c.from_residual.result c.from_residual.ensures.1 in
    rw (p.1, p.2) (reads_unbuilt c.args.text.now c.in-Ok.forms.items c.as_slice.result.now c.in_err-build.field-0.0 c.in-Ok.ensures c.as_slice.ensures.value c.in_err-build.ensures)

pub returns : goal.returns
returns c = reads_built c.args.text.now c.in-Ok.forms.items c.as_slice.result.now c.in_ok-build.field-0.items c.from_vec-intervals.result c.in-Ok.ensures c.as_slice.ensures.value c.in_ok-build.ensures c.from_vec-intervals.ensures
