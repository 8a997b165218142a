use Rattle.zr_listing.specs.Columns.{IsVersionName, IsRefs, IsVersionLine}
use Rattle.zr_listing.proofs.Rows.{bad-name, bad-refs, handed-on}
use Rattle.zr_listing.proofs.versions.version_row.Goals as goal

pub returns-in_err-name : goal.returns-in_err-name
returns-in_err-name c =
    let path = c.args.path.now in
    let k = c.in-Some.columns in
    handed-on (IsVersionName path k.name.now) (IsVersionLine path c.args.line.now) c.in_err-name.field-0.0 c.from_residual.result
    c.in_err-name.ensures c.from_residual.ensures.1
    (bad-name path c.args.line.now k.name.now k.guid.now k.txg.now k.creation.now k.refs.now c.in-Some.ensures.some)

pub returns-in_err-refs : goal.returns-in_err-refs
returns-in_err-refs c =
    let path = c.args.path.now in
    let k = c.in-Some.columns in
    let name = c.in_ok-name.name in
    handed-on (IsRefs name k.refs.now) (IsVersionLine path c.args.line.now) c.in_err-refs.field-0.0 c.from_residual-in_err-refs.result
    c.in_err-refs.ensures c.from_residual-in_err-refs.ensures.1
    (bad-refs path c.args.line.now k.name.now k.guid.now k.txg.now k.creation.now k.refs.now name c.in-Some.ensures.some c.in_ok-name.ensures)
