use Rattle.std.proofs.Common.{◌+◌, ap, arith, Err}
use Rattle.zr_listing.specs.Met.{was_met}
use Rattle.zr_listing.proofs.Reading.{repeated, more, stopped, not-added, was-added, some-length}
use Rattle.zr_listing.proofs.lines.read_lines.Goals as goal

pub returns-then-not-branch-clause-garbled : goal.returns-then-not-branch-clause-garbled
returns-then-not-branch-clause-garbled g c =
    let kind = c.args.kind.now in
    let first = c.in-Ok.field-0 in
    repeated (g.K.Kind.spells kind) (g.K.Kind.name kind) c.args.bytes.now c.loop-rest.rest.now c.loop-rest.rows.items (was_met c.loop-rest.names) (c.len.result + 1)
    first.row first.after.now first.name.now c.loop-rest.invariant
    (omega (arith, c.len.ensures, c.loop-rest.rows.ok.0)) c.in-Ok.ensures.row
    (not-added _ _ c.in_ok-push_row-in-Ok.ensures.added c.if-not-branch.true)

pub loop-rest-preserved : goal.loop-rest-preserved
loop-rest-preserved g c =
    let kind = c.args.kind.now in
    let first = c.in-Ok.field-0 in
    more (g.K.Kind.spells kind) (g.K.Kind.name kind) c.args.bytes.now c.loop-rest.rest.now c.loop-rest.rows.items c.push_row.new.rows.items (was_met c.loop-rest.names) (was_met c.push_row.new.names)
    first.row first.after.now first.name.now c.loop-rest.invariant c.in-Ok.ensures.row
    (was-added _ _ c.in_ok-push_row-in-Ok.ensures.added c.if-not-branch.false)
    c.in_ok-push_row-in-Ok.ensures.met
    (c.in_ok-push_row-in-Ok.ensures.row c.if-not-branch.false)

pub returns-in-Err-Bad-clause-garbled : goal.returns-in-Err-Bad-clause-garbled
returns-in-Err-Bad-clause-garbled g c =
    let kind = c.args.kind.now in
    stopped (g.K.Kind.spells kind) (g.K.Kind.name kind) c.args.bytes.now c.loop-rest.rest.now c.loop-rest.rows.items (was_met c.loop-rest.names) (c.len.result + 1)
    c.loop-rest.invariant (omega (arith, c.len.ensures, c.loop-rest.rows.ok.0)) (c.in-Err-Bad.ensures.bad (ap Err c.in-Err-Bad.field-0-is))
    (some-length c.loop-rest.rest.now c.is_empty.result c.is_empty.ensures c.loop-rest-test.true)
