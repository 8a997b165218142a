use Rattle.std.proofs.Common.{◌∙◌, sym, rules, IfErr}
use Rattle.zr_listing.specs.Columns.{IsSetLine}
use Rattle.zr_listing.specs.Lines.{IsBadAt}
use Rattle.zr_listing.proofs.Exact.{lines-one, garbled-none}
use Rattle.zr_listing.proofs.Rows.{IsSetLine-one}
use Rattle.zr_listing.proofs.sets.read_sets.Goals as goal

pub returns-in_err-read_lines-clause-none : goal.returns-in_err-read_lines-clause-none
returns-in_err-read_lines-clause-none c = λ garbled rows is.
    let bytes = c.args.bytes.now in
    let bad : IfErr c.from_residual.result (IsBadAt IsSetLine (λ row. row.path) bytes) = search rules in
    garbled-none IsSetLine IsSetLine-one (λ row. row.path) bytes c.from_residual.result bad garbled rows is.lines is.paths_differ

pub returns-clause-only : goal.returns-clause-only
returns-clause-only c = λ others is.
    lines-one IsSetLine IsSetLine-one c.args.bytes.now others c.in_ok-read_lines.field-0.items is.lines c.in_ok-read_lines.ensures.rows
    ∙ sym c.from_vec.ensures
