use Rattle.std.proofs.Common.{◌<◌, arith}
use Rattle.zr_grid.specs.declared.span.TheConstants.{MAX_SPAN}
use Rattle.zr_grid.specs.Grammar.{Span}
use Rattle.zr_grid.specs.Scan.{capped}
use Rattle.zr_grid.proofs.Faults.{found_within, stuck_within}
use Rattle.zr_grid.proofs.Spans.{span_found, span_stuck, reads_ok, reads_big, reads_more, reads_stuck}
use Rattle.zr_grid.proofs.span.read_span.Goals as goal

pub overflow_sub-result : goal.overflow_sub-result
overflow_sub-result c = found_within Span capped _ _ _ (span_found _ _ _ c.in-Ok.ensures)

pub overflow_sub-result-in-Err : goal.overflow_sub-result-in-Err
overflow_sub-result-in-Err c = stuck_within Span _ _ (span_stuck _ _ c.in-Err.ensures)

pub returns-in-Ok-default-empty : goal.returns-in-Ok-default-empty
returns-in-Ok-default-empty c =
    reads_ok _ _ _ c.in-Ok-default-empty.ensures c.in-Ok-default-empty.len_below c.if-seconds-le-MAX_SPAN.true

pub returns-in-Ok-default-empty-2 : goal.returns-in-Ok-default-empty-2
returns-in-Ok-default-empty-2 c =
    let above : MAX_SPAN < c.in-Ok-default-empty.seconds = omega (arith, c.if-seconds-le-MAX_SPAN.false) in
    reads_big _ _ _ c.in-Ok-default-empty.ensures c.in-Ok-default-empty.len_below above

pub returns-in-Ok : goal.returns-in-Ok
returns-in-Ok c = reads_more _ _ _ c.in-Ok.ensures c.in-Ok.len_at_least

pub returns-in-Err : goal.returns-in-Err
returns-in-Err c = reads_stuck _ _ c.in-Err.ensures
