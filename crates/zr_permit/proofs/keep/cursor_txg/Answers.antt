use Rattle.std.proofs.Common.{◌≡◌, ◌∙◌, ◌+◌, ◌++◌, ◌∷◌, [], ℕ, Option, Some, ap, sym, take}
use Rattle.std.proofs.lemmas.List.{take_more}
use Rattle.zr_permit.specs.Keep.{cursor_txg, lesser}
use Rattle.zr_permit.proofs.Cursors.{cursor_more, cursor_same}
use Rattle.zr_permit.proofs.keep.cursor_txg.Goals as goal
use Rattle.zr_permit.proofs.keep.cursor_txg.Goals.{then-is_own_cursor, else-is_own_cursor}

pub loop-row-preserved : goal.loop-row-preserved
loop-row-preserved c =
    let job = c.args.job.now in
    let rows = c.args.rows.now in
    let i = c.loop-row.row-index in
    let row = c.row-item.result in
    let grown : take (i + 1) rows ≡ take i rows ++ row ∷ [] = take_more rows i row c.loop-row-test.true ∙ ap (λ r. take i rows ++ r ∷ []) (sym c.row-item.is) in
    let so_far : c.loop-row.least ≡ cursor_txg job (take i rows) = c.loop-row.invariant in
    let next : cursor_txg job (take (i + 1) rows) ≡ cursor_txg job (take i rows ++ row ∷ []) = ap (cursor_txg job) grown in
    let Less : Option ℕ → Option ℕ = λ l. Some (lesser row.txg l) in
    elim c.if-is_own_cursor.branch [
      | then-is_own_cursor w ↦
          w.least-is ∙ ap Some w.lesser.ensures ∙ ap Less so_far ∙ sym (cursor_more job (take i rows) row (sym c.is_own_cursor.ensures ∙ w.if-is_own_cursor.true)) ∙ sym next
      | else-is_own_cursor w ↦
          w.least-is ∙ so_far ∙ sym (cursor_same job (take i rows) row (sym c.is_own_cursor.ensures ∙ w.if-is_own_cursor.false)) ∙ sym next
    ]
