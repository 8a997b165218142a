-- Grids and rows that callers make themselves.
use Rattle.std.proofs.Common.{◌≡◌, ℕ, ◌+◌, ◌-◌, ◌<◌, ◌≤◌, ◌⊎◌, true, ◌||◌, ◌&&◌, eqb, ltb, leb, List, length, get_or, take, sym, subst, inl, inr, arith}
use Rattle.std.specs.Prelude.{All}
use Rattle.std.proofs.lemmas.Bool.{cases_eq}
use Rattle.std.proofs.lemmas.Bool.Decides.{nat_tests}
use Rattle.std.proofs.lemmas.List.{take_more, get_or_default}
use Rattle.std.proofs.lemmas.List.Elements.{All-push}
use Rattle.std.proofs.lemmas.List.Sums.{sum_by_more}
use Rattle.zr_grid.specs.declared.grid.Interval.{Interval}
use Rattle.zr_grid.specs.declared.kept.GridRow.{GridRow}
use Rattle.zr_grid.specs.Grid.{IsInterval, total}
use Rattle.zr_grid.specs.Kept.{comes_before}

pub total_more : (intervals : List Interval) (i : ℕ) (d : Interval) → i < length intervals → total (take (i + 1) intervals) ≡ total (take i intervals) + (get_or intervals i d).count
total_more intervals i d h = sum_by_more (λ (interval : Interval). interval.count) intervals i d h

pub each_more : (intervals : List Interval) (i : ℕ) (d : Interval) → i < length intervals → All IsInterval (take i intervals) → IsInterval (get_or intervals i d) → All IsInterval (take (i + 1) intervals)
each_more intervals i d h before here = subst (All IsInterval) (sym (take_more intervals i d h)) (All-push IsInterval (take i intervals) (get_or intervals i d) before here)

-- ---- rows

before_orders : (ac at bc bt cc ct : ℕ) → (ltb ac bc || (eqb ac bc && leb at bt)) ≡ true → (ltb bc cc || (eqb bc cc && leb bt ct)) ≡ true → (ltb ac cc || (eqb ac cc && leb at ct)) ≡ true
before_orders ac at bc bt cc ct p q = grind (arith, nat_tests)

before_then : (a b c : GridRow) → comes_before a b ≡ true → comes_before b c ≡ true → comes_before a c ≡ true
before_then a b c p q = before_orders a.creation a.txg b.creation b.txg c.creation c.txg p q

abbrev UpTo : List GridRow → ℕ → Type 0
UpTo rows n = (a b : ℕ) (d : GridRow) → a < b → b < n → comes_before (get_or rows a d) (get_or rows b d) ≡ true

up_to_more : (rows : List GridRow) (i a b : ℕ) (d e : GridRow) → 1 ≤ i → i < length rows → UpTo rows i → comes_before (get_or rows (i - 1) e) (get_or rows i e) ≡ true → a < b → b < i + 1 → (b ≡ i) ⊎ (b ≡ i → ⊥) → (a ≡ i - 1) ⊎ (a ≡ i - 1 → ⊥)
    → comes_before (get_or rows a d) (get_or rows b d) ≡ true
up_to_more rows i a b d e pos h inv here ab bi (inr other) _ = inv a b d ab (omega arith)
up_to_more rows i a b d e pos h inv here ab bi (inl last) (inl neighbour) =
    let before : i - 1 < length rows = omega arith in
    rw (last, neighbour, get_or_default rows i d e h, get_or_default rows (i - 1) d e before) here
up_to_more rows i a b d e pos h inv here ab bi (inl last) (inr far) =
    let before : i - 1 < length rows = omega arith in
    let near : comes_before (get_or rows (i - 1) d) (get_or rows i d) ≡ true = rw (get_or_default rows i d e h, get_or_default rows (i - 1) d e before) here in
    rw last (before_then (get_or rows a d) (get_or rows (i - 1) d) (get_or rows i d) (inv a (i - 1) d (omega arith) (omega arith)) near)

pub ascends : (rows : List GridRow) (i : ℕ) (e : GridRow) → 1 ≤ i → i < length rows → UpTo rows i → comes_before (get_or rows (i - 1) e) (get_or rows i e) ≡ true → UpTo rows (i + 1)
ascends rows i e pos h inv here = λ a b d ab bi. up_to_more rows i a b d e pos h inv here ab bi (cases_eq b i) (cases_eq a (i - 1))
