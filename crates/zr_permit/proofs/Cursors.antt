-- The least transaction group of a job's own cursors, one row more at a time.
use Rattle.std.proofs.Common.{◌≡◌, ◌∙◌, ℕ, true, false, List, [], ◌∷◌, ◌++◌, Option, Some, None, Bool, ap, arith, map, min, refl}
use Rattle.std.specs.Bool.{if◌then◌else◌}
use Rattle.std.specs.List.{filter}
use Rattle.zr_command.specs.declared.version.VersionRow.{VersionRow}
use Rattle.zr_permit.specs.Keep.{cursor_txg, is_own_cursor, least, lesser}

least-push : (ns : List ℕ) (n : ℕ) → least (ns ++ n ∷ []) ≡ Some (lesser n (least ns))
least-push [] n = refl
least-push (m ∷ ms) n = ap (λ l. Some (lesser m l)) (least-push ms n) ∙ ap Some (turned (least ms)) where
  turned : (l : Option ℕ) → min m (lesser n l) ≡ min n (lesser m l)
  turned None = omega arith
  turned (Some k) = omega arith

txgs-more : (job : List ℕ) (rows : List VersionRow) (row : VersionRow) → is_own_cursor job row ≡ true → map (λ (r : VersionRow). r.txg) (filter (is_own_cursor job) (rows ++ row ∷ [])) ≡ map (λ (r : VersionRow). r.txg) (filter (is_own_cursor job) rows) ++ row.txg ∷ []
txgs-more job [] row own = rw own
txgs-more job (first ∷ rows) row own = choose (is_own_cursor job first) (txgs-more job rows row own) where
  choose : (b : Bool) → map (λ (r : VersionRow). r.txg) (filter (is_own_cursor job) (rows ++ row ∷ [])) ≡ map (λ (r : VersionRow). r.txg) (filter (is_own_cursor job) rows) ++ row.txg ∷ [] → map (λ (r : VersionRow). r.txg) (if b then first ∷ filter (is_own_cursor job) (rows ++ row ∷ []) else filter (is_own_cursor job) (rows ++ row ∷ [])) ≡ map (λ (r : VersionRow). r.txg) (if b then first ∷ filter (is_own_cursor job) rows else filter (is_own_cursor job) rows) ++ row.txg ∷ []
  choose true rest = ap (λ ns. first.txg ∷ ns) rest
  choose false rest = rest

same-filter : (job : List ℕ) (rows : List VersionRow) (row : VersionRow) → is_own_cursor job row ≡ false → filter (is_own_cursor job) (rows ++ row ∷ []) ≡ filter (is_own_cursor job) rows
same-filter job [] row other = rw other
same-filter job (first ∷ rows) row other = choose (is_own_cursor job first) (same-filter job rows row other) where
  choose : (b : Bool) → filter (is_own_cursor job) (rows ++ row ∷ []) ≡ filter (is_own_cursor job) rows → (if b then first ∷ filter (is_own_cursor job) (rows ++ row ∷ []) else filter (is_own_cursor job) (rows ++ row ∷ [])) ≡ (if b then first ∷ filter (is_own_cursor job) rows else filter (is_own_cursor job) rows)
  choose true rest = ap (λ rs. first ∷ rs) rest
  choose false rest = rest

-- a cursor more
pub cursor_more : (job : List ℕ) (rows : List VersionRow) (row : VersionRow) → is_own_cursor job row ≡ true → cursor_txg job (rows ++ row ∷ []) ≡ Some (lesser row.txg (cursor_txg job rows))
cursor_more job rows row own =
    ap least (txgs-more job rows row own) ∙ least-push (map (λ (r : VersionRow). r.txg) (filter (is_own_cursor job) rows)) row.txg

-- another row
pub cursor_same : (job : List ℕ) (rows : List VersionRow) (row : VersionRow) → is_own_cursor job row ≡ false → cursor_txg job (rows ++ row ∷ []) ≡ cursor_txg job rows
cursor_same job rows row other =
    ap (λ (rs : List VersionRow). least (map (λ (r : VersionRow). r.txg) rs)) (same-filter job rows row other)
