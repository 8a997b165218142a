-- The places of rows whose flags are set in an order are marked.
use Rattle.std.proofs.Common.{◌≡◌, ℕ, ◌+◌, ◌<◌, Bool, true, false, ◌||◌, ⊎_elim, List, length, get_or, set, map, Some, sym, ap, subst, ◌∙◌, arith, true≢false, option_map}
use Rattle.std.specs.Prelude.{slice_get, Option}
use Rattle.std.specs.List.{Contains}
use Rattle.std.proofs.lemmas.Bool.{cases_Bool, cases_eq, cases_lt}
use Rattle.std.proofs.lemmas.List.{get_or-set_same, get_or-set_other, get_or_default, get_or-map, length-map, length-set}
use Rattle.std.proofs.lemmas.List.Sorted.{Contains-permutation, IsPermutation-map}
use Rattle.std.proofs.lemmas.Option.{slice_get-map, slice_get-get_or, slice_get_within, get_or_from_slice_get, same_Some}
use Rattle.zr_grid.specs.declared.kept.GridRow.{GridRow}
use Rattle.zr_grid.specs.Kept.{IsAscending}
use Rattle.zr_rules.specs.declared.rule.RuleRow.{RuleRow}
use Rattle.zr_rules.specs.declared.ordering.Placed.{Placed}
use Rattle.zr_rules.specs.Keeps.{seen}
use Rattle.zr_rules.specs.Marks.{AlsoMarks}
use Rattle.zr_rules.specs.Order.{placed_from, IsOrder, no_row, in_places, MarksPlaces}
use Rattle.zr_rules.proofs.Marked.{or-yes, or-no}
use Rattle.zr_rules.proofs.Seats.{Seat, IsStable}
use Rattle.zr_rules.proofs.Orders.{nothing, at-place, length-placed, place_of, PlacesDiffer, order-differs, seat_in, order-keeps, list-keeps, order-ascends, order-rows, list-rows}

row-is : (rows : List Placed) (k : ℕ) (one other : Placed) → k < length rows → one ≡ get_or rows k one → slice_get rows k ≡ Some other → other ≡ one
row-is rows k one other inside is at = same_Some other one (sym at ∙ slice_get-get_or rows k one inside ∙ ap Some (sym is))

pub places-yes : (rows : List Placed) (flags : List Bool) (k : ℕ) (before after : List Bool) (one : Placed) → k < length rows → one ≡ get_or rows k one → one.place < length after → get_or flags k false ≡ true → MarksPlaces rows flags k before after → MarksPlaces rows flags (k + 1) before (set after one.place true)
places-yes rows flags k before after one inside is within flagged so_far = record {
  set = λ j other low at marked. ⊎_elim
      (λ same. rw same (get_or-set_same after one.place true false within))
      (λ apart. get_or-set_other after one.place other.place true false apart ∙ ⊎_elim
      (λ last. absurd (apart (ap (λ (o : Placed). o.place) (row-is rows k one other inside is (subst (λ n. slice_get rows n ≡ Some other) last at)))))
      (λ earlier. so_far.set j other (omega arith) at marked)
      (cases_eq j k))
      (cases_eq other.place one.place);
  others = λ i none. get_or-set_other after one.place i true false (λ same. none k one (omega arith) (slice_get-get_or rows k one inside ∙ ap Some (sym is)) flagged (sym same))
      ∙ so_far.others i (λ j other low. none j other (omega arith));
  as_long = length-set after one.place true ∙ so_far.as_long;
}

pub places-no : (rows : List Placed) (flags : List Bool) (k : ℕ) (before after : List Bool) → get_or flags k false ≡ false → MarksPlaces rows flags k before after → MarksPlaces rows flags (k + 1) before after
places-no rows flags k before after unflagged so_far = record {
  set = λ j other low at marked. ⊎_elim
      (λ last. let yes_it : get_or flags k false ≡ true = subst (λ n. get_or flags n false ≡ true) last marked in absurd cc)
      (λ earlier. so_far.set j other (omega arith) at marked)
      (cases_eq j k);
  others = λ i none. so_far.others i (λ j other low. none j other (omega arith));
  as_long = so_far.as_long;
}

same-place : (ys : List Placed) (j k : ℕ) (a b : Placed) → PlacesDiffer ys → j < length ys → k < length ys → get_or ys j a ≡ a → get_or ys k b ≡ b → a.place ≡ b.place → j ≡ k
same-place ys j k a b differ in_j in_k is_a is_b same = ⊎_elim
    (λ less. absurd (differ j k a less in_k (ap place_of is_a ∙ same ∙ sym (ap place_of (get_or_default ys k a b in_k ∙ is_b)))))
    (λ far. ⊎_elim (λ equal. equal)
    (λ apart. absurd (differ k j b (omega arith) in_j (ap place_of is_b ∙ sym same ∙ sym (ap place_of (get_or_default ys j b a in_j ∙ is_a)))))
    (cases_eq j k))
    (cases_lt j k)

row-seen : {X Y : Type 0} (f : X → Y) (rows : List X) (i : ℕ) (row : X) → slice_get rows i ≡ Some row → slice_get (map f rows) i ≡ Some (f row)
row-seen f rows i row at = slice_get-map f rows i ∙ ap (option_map f) at

also-seen : {X Y : Type 0} (f : X → Y) (test : ℕ → Y → Bool) (rows : List X) (before after : List Bool) → AlsoMarks test (map f rows) before after → AlsoMarks (λ i row. test i (f row)) rows before after
also-seen f test rows before after also = record {
  marks = λ i row at. also.marks i (f row) (row-seen f rows i row at);
  as_long = also.as_long;
}

-- the rows as they were seen in an order, and their flags, as a function has them
module _ (pattern : Option (List ℕ)) (rows : List RuleRow) (order : List Placed) (is : IsOrder rows order) (rows_seen view : List GridRow) (seen_is : rows_seen ≡ in_places (map (seen pattern) rows) order) (view_is : view ≡ rows_seen) where
  pub view-ascends : IsAscending view
  view-ascends = subst IsAscending (sym (view_is ∙ seen_is)) (order-ascends rows order is pattern)

  pub flags-long : (flags flags_view : List Bool) → flags_view ≡ flags → length flags ≡ length view → length flags_view ≡ length order
  flags-long flags flags_view flags_is long = ap length flags_is ∙ long ∙ ap length (view_is ∙ seen_is) ∙ length-map order (λ one. get_or (map (seen pattern) rows) one.place no_row)

-- where the flags of an order say what a test says of the rows in it, the marks say what it says of the rows in the list
module _ (pattern : Option (List ℕ)) (rows : List RuleRow) (order : List Placed) (is : IsOrder rows order) (test : List GridRow → ℕ → GridRow → Bool) (stable : IsStable test) where
  abbrev all : List GridRow
  all = map (seen pattern) rows

  abbrev seat : Placed → Seat
  seat = seat_in pattern rows

  abbrev Flagged : List Bool → Type 0
  Flagged flags = (k : ℕ) (row : GridRow) → slice_get (in_places all order) k ≡ Some row → get_or flags k false ≡ test (in_places all order) k row

  -- where the row at a place of the list stands in the order
  abbrev Stands : ℕ → Type 0
  Stands i = (k : ℕ) × (one : Placed) × (k < length order) × (slice_get order k ≡ Some one) × (get_or order k one ≡ one) × (one.place ≡ i)

  stands-at : (i : ℕ) → i < length rows → Stands i
  stands-at i inside =
      let one : Placed = get_or (placed_from 0 rows) i nothing in
      let long = length-placed 0 rows in
      let within : i < length (placed_from 0 rows) = omega (arith, long, inside) in
      let found : Contains order one = Contains-permutation (placed_from 0 rows) order one is.same_rows (i, within, get_or_default (placed_from 0 rows) i one nothing within) in
      (found.0, one, found.1, slice_get-get_or order found.0 one found.1 ∙ ap Some found.2, found.2, at-place rows i nothing inside)

  flag-is : (flags : List Bool) (i : ℕ) (row : GridRow) → Flagged flags → slice_get all i ≡ Some row → (s : Stands i) → get_or flags s.0 false ≡ test all i row
  flag-is flags i row flagged at s =
      let k = s.0 in
      let one = s.1 in
      let in_all : i < length all = slice_get_within all i row at in
      let seen_long = length-map rows (seen pattern) in
      let long = length-placed 0 rows in
      let inside : i < length rows = omega (arith, seen_long, in_all) in
      let t : Seat = record { row = row; place = i } in
      let there : get_or all one.place no_row ≡ row = ap (λ (n : ℕ). get_or all n no_row) s.5 ∙ get_or_from_slice_get all i row no_row at in
      let is_seat : seat one ≡ t = λ z. record { row = there z; place = s.5 z } in
      let is_y : get_or (map seat order) k t ≡ t = get_or-map seat order k one t s.2 ∙ ap seat s.4 ∙ is_seat in
      let here : get_or all (get_or (placed_from 0 rows) i nothing).place no_row ≡ row = ap (λ (n : ℕ). get_or all n no_row) (at-place rows i nothing inside) ∙ get_or_from_slice_get all i row no_row at in
      let in_list : i < length (placed_from 0 rows) = omega (arith, long, inside) in
      let is_x : get_or (map seat (placed_from 0 rows)) i t ≡ t = get_or-map seat (placed_from 0 rows) i nothing t in_list ∙ (λ z. record { row = here z; place = at-place rows i nothing inside z }) in
      let row_at : slice_get (in_places all order) k ≡ Some row =
      slice_get-map (λ (o : Placed). get_or all o.place no_row) order k ∙ ap (option_map (λ (o : Placed). get_or all o.place no_row)) s.3 ∙ ap Some there in
      let order_long = length-map order seat in
      let list_long = length-map (placed_from 0 rows) seat in
      flagged k row row_at
      ∙ ap (λ (list : List GridRow). test list k row) (sym (order-rows rows order is pattern))
      ∙ stable (map seat (placed_from 0 rows)) (map seat order) i k t (IsPermutation-map seat (placed_from 0 rows) order is.same_rows) (list-keeps rows order is pattern) (order-keeps rows order is pattern)
      (omega (arith, list_long, in_list)) (sym is_x) (omega (arith, order_long, s.2)) (sym is_y)
      ∙ ap (λ (list : List GridRow). test list i row) (list-rows rows order is pattern)

  pub marks-of : (flags before after : List Bool) → Flagged flags → MarksPlaces order flags (length order) before after → AlsoMarks (test all) all before after
  marks-of flags before after flagged marked = record {
    marks = λ i row at.
        let in_all : i < length all = slice_get_within all i row at in
        let seen_long = length-map rows (seen pattern) in
        let s = stands-at i (omega (arith, seen_long, in_all)) in
        let k = s.0 in
        let flag : get_or flags k false ≡ test all i row = flag-is flags i row flagged at s in
        ⊎_elim
        (λ set_it. subst (λ (n : ℕ). get_or after n false ≡ true) s.5 (marked.set k s.1 s.2 s.3 set_it) ∙ sym (ap (λ (b : Bool). get_or before i false || b) (sym flag ∙ set_it) ∙ or-yes (get_or before i false)))
        (λ unset. marked.others i (λ j other low at_j flagged_j same.
        let same_k : j ≡ k = same-place order j k other s.1 (order-differs rows order is) low s.2 (get_or_from_slice_get order j other other at_j) s.4 (same ∙ sym s.5) in
        let both : get_or flags k false ≡ true = subst (λ (n : ℕ). get_or flags n false ≡ true) same_k flagged_j in
        true≢false (sym both ∙ unset))
        ∙ sym (ap (λ (b : Bool). get_or before i false || b) (sym flag ∙ unset) ∙ or-no (get_or before i false)))
        (cases_Bool (get_or flags k false));
    as_long = marked.as_long;
  }

  -- the same, of the lists as a function has them: the rows as they were seen in the order, and their flags
  module _ (rows_seen view : List GridRow) (flags flags_view : List Bool) (seen_is : rows_seen ≡ in_places all order) (view_is : view ≡ rows_seen) (flags_is : flags_view ≡ flags) where
    pub marked : (before after : List Bool) → ((k : ℕ) (row : GridRow) → slice_get view k ≡ Some row → get_or flags k false ≡ test view k row) → MarksPlaces order flags_view (length order) before after
        → AlsoMarks (λ i row. test all i (seen pattern row)) rows before after
    marked before after flag_is places =
        let is_view : in_places all order ≡ view = sym (view_is ∙ seen_is) in
        also-seen (seen pattern) (test all) rows before after
        (marks-of flags before after
        (λ k row at. flag_is k row (subst (λ (list : List GridRow). slice_get list k ≡ Some row) is_view at) ∙ ap (λ (list : List GridRow). test list k row) (sym is_view))
        (subst (λ (list : List Bool). MarksPlaces order list (length order) before after) flags_is places))
