use Rattle.std.proofs.Common.{◌≡◌, ℕ, ◌≤◌, get_or, sym, subst, ap, ◌∙◌}
use Rattle.std.proofs.lemmas.Option.{slice_get-get_or, get_or_from_slice_get}
use Rattle.zr_grid.specs.declared.kept.GridRow.{GridRow}
use Rattle.zr_grid.specs.Kept.{slots, age_of}
use Rattle.zr_grid.specs.Sweep.{Moves, Sweeps}
use Rattle.zr_grid.proofs.Sweeps.{IsTop, nothing, newest_top, not_kept, skipped, come, kept, counted}
use Rattle.zr_grid.proofs.kept.keeps_next.Goals.{After-moved}
use Rattle.zr_grid.proofs.kept.keeps_next.Goals as goal

pub returns-then-not-row-clause-kept : goal.returns-then-not-row-clause-kept
returns-then-not-row-clause-kept c = λ row at.
    let same = get_or_from_slice_get c.args.rows.now c.args.i row nothing at in
    not_kept (slots c.args.intervals.now) c.args.top c.args.rows.now c.args.i row (sym (ap (λ (r : GridRow). r.matches) same) ∙ c.if-not-row.true)

pub returns-then-not-row-clause-swept : goal.returns-then-not-row-clause-swept
returns-then-not-row-clause-swept c =
    skipped c.args.intervals.now c.args.top c.args.rows.now c.args.i (get_or c.args.rows.now c.args.i nothing) c.args.place.now (slice_get-get_or c.args.rows.now c.args.i nothing c.requires.index) c.if-not-row.true c.requires.swept

-- where the sweep stands at the row
here : (c : After-moved) → Sweeps c.args.intervals.now c.args.top c.args.rows.now c.args.i c.moved.result × (c.moved.result.begin ≤ age_of c.args.top (get_or c.args.rows.now c.args.i nothing))
here c =
    come c.args.intervals.now c.args.top c.args.rows.now c.args.i (get_or c.args.rows.now c.args.i nothing) c.args.place.now c.moved.result c.requires.rows (slice_get-get_or c.args.rows.now c.args.i nothing c.requires.index)
    (subst (λ (age : ℕ). Moves c.args.intervals.now c.args.place.now age c.moved.result) c.age.ensures c.moved.ensures) c.requires.swept

pub returns-clause-kept : goal.returns-clause-kept
returns-clause-kept c = λ row at.
    let place = here (goal.at.returns-clause-kept c).After-moved in
    let same : get_or c.args.rows.now c.args.i nothing ≡ row = get_or_from_slice_get c.args.rows.now c.args.i row nothing at in
    let tops : IsTop c.args.top c.args.rows.now = subst (λ (top : ℕ). IsTop top c.args.rows.now) (sym c.requires.top) (newest_top c.args.rows.now) in
    c.has_room-kept.ensures
    ∙ kept c.args.intervals.now c.args.top c.args.rows.now c.args.i row c.moved.result c.requires.rows tops at (sym (ap (λ (r : GridRow). r.matches) same) ∙ c.if-not-row.false)
    (subst (λ (r : GridRow). c.moved.result.begin ≤ age_of c.args.top r) same place.1) place.0

pub returns-clause-swept : goal.returns-clause-swept
returns-clause-swept c =
    let place = here (goal.at.returns-clause-swept c).After-moved in
    counted c.args.intervals.now c.args.top c.args.rows.now c.args.i (get_or c.args.rows.now c.args.i nothing) c.moved.result (slice_get-get_or c.args.rows.now c.args.i nothing c.requires.index) c.if-not-row.false place.1 place.0
