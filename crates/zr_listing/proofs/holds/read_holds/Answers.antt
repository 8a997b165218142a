use Rattle.std.proofs.Common.{◌∙◌, sym, rules, IfErr}
use Rattle.zr_listing.specs.Columns.{IsHoldLine}
use Rattle.zr_listing.specs.Lines.{IsBadAt}
use Rattle.zr_listing.proofs.Exact.{lines-one, garbled-none}
use Rattle.zr_listing.proofs.Rows.{IsHoldLine-one}
use Rattle.zr_listing.proofs.holds.read_holds.Goals as goal

pub returns-in_err-read_lines-clause-none : goal.returns-in_err-read_lines-clause-none
returns-in_err-read_lines-clause-none c = λ garbled tags is.
    let bytes = c.args.bytes.now in
    let spells = IsHoldLine c.args.path.now c.args.snap.now in
    let one = IsHoldLine-one c.args.path.now c.args.snap.now in
    let bad : IfErr c.from_residual.result (IsBadAt spells (λ tag. tag) bytes) = search rules in
    garbled-none spells one (λ tag. tag) bytes c.from_residual.result bad garbled tags is.lines is.tags_differ

pub returns-clause-only : goal.returns-clause-only
returns-clause-only c = λ others is.
    let path = c.args.path.now in
    let snap = c.args.snap.now in
    lines-one (IsHoldLine path snap) (IsHoldLine-one path snap) c.args.bytes.now others c.in_ok-read_lines.field-0.items is.lines c.in_ok-read_lines.ensures.rows
    ∙ sym c.from_vec.ensures
