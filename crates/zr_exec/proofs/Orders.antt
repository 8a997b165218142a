use Rattle.std.proofs.Common.{◌≡◌, ℕ, zero, suc, ◌+◌, Bool, true, false, List, [], ◌∷◌, IsPermutation, get_or, refl, arith, subst}
use Rattle.std.specs.Prelude.{if◌then◌else◌}
use Rattle.std.specs.List.Sorted.{IsSortedBy}
use Rattle.std.specs.Ordering.{is_lt}
use Rattle.std.proofs.lemmas.List.Sorted.{IsPermutation-refl, IsPermutation-cons, IsPermutation-swap, IsPermutation-trans}
use Rattle.zr_listing.specs.Order.{row_cmp}
use Rattle.zr_listing.proofs.Sorting.{row_ranks}
use Rattle.zr_command.specs.declared.version.VersionRow.{VersionRow}
use Rattle.zr_exec.specs.Rows.{in_order, in_place}

-- each row is not below the one before it
Rises : List VersionRow → Type 0
Rises [] = Unit {0}
Rises (row ∷ []) = Unit {0}
Rises (row ∷ next ∷ rows) = (is_lt (row_cmp next row) ≡ false) × Rises (next ∷ rows)

-- the first row, if there is one, is not below this one
NotBelow : VersionRow → List VersionRow → Type 0
NotBelow row [] = Unit {0}
NotBelow row (next ∷ rows) = is_lt (row_cmp next row) ≡ false

rises-cons : (row : VersionRow) (rows : List VersionRow) → NotBelow row rows → Rises rows → Rises (row ∷ rows)
unfolding Rises NotBelow
rises-cons row [] first rest = tt
rises-cons row (next ∷ rows) first rest = (first, rest)

rises-head : (row : VersionRow) (rows : List VersionRow) → Rises (row ∷ rows) → NotBelow row rows
unfolding Rises NotBelow
rises-head row [] rises = tt
rises-head row (next ∷ rows) rises = rises.0

rises-tail : (row : VersionRow) (rows : List VersionRow) → Rises (row ∷ rows) → Rises rows
unfolding Rises
rises-tail row [] rises = tt
rises-tail row (next ∷ rows) rises = rises.1

in_place-first : (low row : VersionRow) (rows : List VersionRow) → is_lt (row_cmp row low) ≡ false → NotBelow low rows → NotBelow low (in_place row rows)
unfolding NotBelow
in_place-first low row [] below rest = below
in_place-first low row (next ∷ rows) below rest = choose (is_lt (row_cmp row next)) where
  choose : (b : Bool) → NotBelow low (if b then row ∷ next ∷ rows else (next ∷ in_place row rows))
  choose true = below
  choose false = rest

in_place-rises : (row : VersionRow) (rows : List VersionRow) → Rises rows → Rises (in_place row rows)
unfolding Rises NotBelow
in_place-rises row [] rises = tt
in_place-rises row (next ∷ rows) rises =
    choose (is_lt (row_cmp row next)) refl (in_place-rises row rows (rises-tail next rows rises)) where
      choose : (b : Bool) → is_lt (row_cmp row next) ≡ b → Rises (in_place row rows) → Rises (if b then row ∷ next ∷ rows else (next ∷ in_place row rows))
      choose true below rest = rises-cons row (next ∷ rows) (row_ranks.one_way row next below) rises
      choose false below rest =
          rises-cons next (in_place row rows) (in_place-first next row rows below (rises-head next rows rises)) rest

in_order-rises : (rows : List VersionRow) → Rises (in_order rows)
unfolding Rises
in_order-rises [] = tt
in_order-rises (row ∷ rows) = in_place-rises row (in_order rows) (in_order-rises rows)

rises-sorted : (rows : List VersionRow) → Rises rows → IsSortedBy (λ a b. is_lt (row_cmp a b)) rows
unfolding Rises
rises-sorted [] rises k d low inside = absurd (omega arith)
rises-sorted (row ∷ []) rises k d low inside = absurd (omega arith)
rises-sorted (row ∷ next ∷ rows) rises zero d low inside = rises.0
rises-sorted (row ∷ next ∷ rows) rises (suc k) d low inside =
    let all = row ∷ next ∷ rows in
    let one_on : suc (k + 1) ≡ suc k + 1 = omega arith in
    let rest = rises-sorted (next ∷ rows) rises.1 k d (omega arith) (omega arith) in
    subst (λ (n : ℕ). is_lt (row_cmp (get_or all n d) (get_or all (suc k) d)) ≡ false) one_on rest

-- rows put into order are sorted
pub in_order-sorted : (rows : List VersionRow) → IsSortedBy (λ a b. is_lt (row_cmp a b)) (in_order rows)
in_order-sorted rows = rises-sorted (in_order rows) (in_order-rises rows)

in_place-same : (row : VersionRow) (rows : List VersionRow) → IsPermutation (row ∷ rows) (in_place row rows)
in_place-same row [] = IsPermutation-refl (row ∷ [])
in_place-same row (next ∷ rows) = choose (is_lt (row_cmp row next)) (in_place-same row rows) where
  choose : (b : Bool) → IsPermutation (row ∷ rows) (in_place row rows) → IsPermutation (row ∷ next ∷ rows) (if b then row ∷ next ∷ rows else (next ∷ in_place row rows))
  choose true rest = IsPermutation-refl (row ∷ next ∷ rows)
  choose false rest =
      IsPermutation-trans (row ∷ next ∷ rows) (next ∷ row ∷ rows) (next ∷ in_place row rows)
      (IsPermutation-swap (row ∷ next ∷ rows) (next ∷ row ∷ rows) 0 1 (omega arith) (omega arith) refl)
      (IsPermutation-cons next (row ∷ rows) (in_place row rows) rest)

-- rows put into order are the same rows
pub in_order-same : (rows : List VersionRow) → IsPermutation rows (in_order rows)
in_order-same [] = IsPermutation-refl []
in_order-same (row ∷ rows) =
    IsPermutation-trans (row ∷ rows) (row ∷ in_order rows) (in_order (row ∷ rows))
    (IsPermutation-cons row rows (in_order rows) (in_order-same rows))
    (in_place-same row (in_order rows))
