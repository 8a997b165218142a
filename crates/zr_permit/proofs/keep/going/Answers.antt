use Rattle.std.proofs.Common.{◌≡◌, ◌∙◌, ◌+◌, ◌<◌, ◌++◌, ℕ, ap, arith, drop, length, rules, subst, sym}
use Rattle.std.specs.List.{slice_get}
use Rattle.std.proofs.lemmas.Option.{get_or_from_slice_get}
use Rattle.zr_permit.specs.Keep.{cursor_txg, going_from, rule_row, snaps_of}
use Rattle.zr_permit.proofs.Snaps.{at-place, inside, names-more, names-same, place-more, place-same}
use Rattle.zr_permit.proofs.keep.going.Goals as goal
use Rattle.zr_permit.proofs.keep.going.Goals.{then-is_snap+in_ok-note_gone, else-is_snap}

pub bounds-marks-place : goal.bounds-marks-place
bounds-marks-place c =
    let within = inside c.args.rows.now c.loop-row.row-index c.row-item.result c.loop-row-test.true c.row-item.is (sym c.is_snap.ensures ∙ c.if-is_snap.true) in
    omega (arith, within, c.loop-row.invariant.place, c.requires)

pub overflow_add-place : goal.overflow_add-place
overflow_add-place c =
    let within = inside c.args.rows.now c.loop-row.row-index c.row-item.result c.loop-row-test.true c.row-item.is (sym c.is_snap.ensures ∙ c.if-is_snap.true) in
    let few : c.loop-row.place < length c.args.marks.now = omega (arith, within, c.loop-row.invariant.place, c.requires) in
    search rules

pub loop-row-preserved : goal.loop-row-preserved
loop-row-preserved c =
    let rows = c.args.rows.now in
    let i = c.loop-row.row-index in
    let place = c.loop-row.place in
    let row = c.row-item.result in
    let inv = c.loop-row.invariant in
    elim c.if-is_snap.branch [
      | then-is_snap+in_ok-note_gone w ↦
          let snap = sym c.is_snap.ensures ∙ w.if-is_snap.true in
          record {
            place = w.place-is ∙ place-more rows i place row c.loop-row-test.true c.row-item.is snap inv.place;
            names = λ rules job marked.
                let here = ap (λ n. slice_get (snaps_of rows) n) inv.place ∙ at-place rows i row c.loop-row-test.true c.row-item.is snap in
                let kept = get_or_from_slice_get c.args.marks.now place _ _ (marked.tell place (rule_row row) here) in
                let At : ℕ → Type 0 = λ n. c.if-is_snap.names.items ++ going_from rules (snaps_of rows) (cursor_txg job rows) n (drop (i + 1) rows) ≡ going_from rules (snaps_of rows) (cursor_txg job rows) 0 rows in
                subst At (sym w.place-is)
                (names-more rules (snaps_of rows) (cursor_txg job rows) rows i place row _ c.loop-row.names.items c.if-is_snap.names.items (going_from rules (snaps_of rows) (cursor_txg job rows) 0 rows) c.loop-row-test.true c.row-item.is snap kept (ap (λ n. n.items) w.names-is ∙ w.in_ok-note_gone.ensures) (inv.names rules job marked));
          }
      | else-is_snap w ↦
          let mark = sym c.is_snap.ensures ∙ w.if-is_snap.false in
          record {
            place = w.place-is ∙ place-same rows i place row c.loop-row-test.true c.row-item.is mark inv.place;
            names = λ rules job marked.
                let At : ℕ → Type 0 = λ n. c.if-is_snap.names.items ++ going_from rules (snaps_of rows) (cursor_txg job rows) n (drop (i + 1) rows) ≡ going_from rules (snaps_of rows) (cursor_txg job rows) 0 rows in
                subst At (sym w.place-is)
                (names-same rules (snaps_of rows) (cursor_txg job rows) rows i place row c.if-is_snap.names.items (going_from rules (snaps_of rows) (cursor_txg job rows) 0 rows) c.loop-row-test.true c.row-item.is mark (ap (λ n. n.items ++ going_from rules (snaps_of rows) (cursor_txg job rows) place (drop i rows)) w.names-is ∙ inv.names rules job marked));
          }
    ]
