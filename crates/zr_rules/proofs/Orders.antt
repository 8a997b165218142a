-- Rows from the oldest to the newest.
use Rattle.std.proofs.Common.{◌≡◌, ◌≢◌, ℕ, zero, suc, ◌+◌, ◌<◌, ◌==◌, ◌&&◌, ◌||◌, Bool, true, false, nat_lt, nat_le, cond, List, [], ◌∷◌, length, get_or, map, refl, arith, AllPairs, IsPermutation, sym, ap, subst, ◌∙◌}
use Rattle.std.specs.Prelude.{All, Option}
use Rattle.std.specs.List.Sorted.{IsSortedBy}
use Rattle.std.specs.Cmp.{IsTotalOrder, IsStrictWeakOrder}
use Rattle.std.specs.Ordering.{nat_cmp, is_lt, ordering_then}
use Rattle.std.specs.declared.cmp.Ordering.{Ordering}
use Rattle.std.specs.declared.cmp.Ordering.TheVariants.{Less, Equal, Greater}
use Rattle.std.proofs.lemmas.Bool.Decides.{nat_tests}
use Rattle.std.proofs.lemmas.Cmp.{on_total, then_total, nat_cmp_total}
use Rattle.std.proofs.Common.{zero-add, take, ◌++◌}
use Rattle.std.proofs.lemmas.List.{get_or-map, get_or_default, length-map, length-take-le, take_more, same_lists}
use Rattle.std.proofs.lemmas.Bool.Decides.{Decides-eqb}
use Rattle.std.proofs.lemmas.Map.Keys.{IsDistinct-IsPermutation}
use Rattle.std.proofs.lemmas.Map.Made.{AllPairs-from_IsDistinct, IsDistinct-from_AllPairs}
use Rattle.std.proofs.lemmas.List.Sorted.{ranks_by, sorted_far, IsPermutation-map, All-permutation}
use Rattle.zr_grid.specs.declared.kept.GridRow.{GridRow}
use Rattle.zr_grid.specs.Kept.{IsAscending}
use Rattle.zr_rules.specs.declared.rule.RuleRow.{RuleRow}
use Rattle.zr_rules.specs.declared.ordering.Placed.{Placed}
use Rattle.zr_rules.specs.Keeps.{seen}
use Rattle.zr_rules.specs.Order.{placed_from, placed_cmp, IsOrder, no_row, in_places}
use Rattle.zr_rules.proofs.Seats.{Seat, row_of, KeepsOrder}

placed_total : IsTotalOrder placed_cmp
placed_total =
    then_total (on_total (λ (p : Placed). p.creation) nat_cmp_total)
    (then_total (on_total (λ (p : Placed). p.txg) nat_cmp_total)
    (on_total (λ (p : Placed). p.place) nat_cmp_total))

pub placed_ranks : IsStrictWeakOrder (λ a b. is_lt (placed_cmp a b))
placed_ranks = ranks_by placed_total (λ (p : Placed). p)

then-cases : (lt eq gt same : Bool) (rest : Ordering) (then : Bool) → (lt ≡ false → eq ≡ false → gt ≡ true) → (eq ≡ true → same ≡ true) → is_lt (ordering_then (cond lt Less (cond eq Equal Greater)) rest) ≡ false → (is_lt rest ≡ false → then ≡ true) → (gt || (same && then)) ≡ true
then-cases true eq gt same rest then one two low next = cc
then-cases false true true same rest then one two low next = refl
then-cases false true false same rest then one two low next = rw (two refl, next low) refl
then-cases false false gt same rest then one two low next = rw (one refl refl) refl

-- two numbers in order, or equal and then what follows
in-order : (m n : ℕ) (rest : Ordering) (then : Bool) → is_lt (ordering_then (nat_cmp n m) rest) ≡ false → (is_lt rest ≡ false → then ≡ true) → (nat_lt m n || (m == n && then)) ≡ true
in-order m n rest then low next =
    let later : nat_lt n m ≡ false → (n == m) ≡ false → nat_lt m n ≡ true = λ h k. grind (arith, nat_tests) in
    let same : (n == m) ≡ true → (m == n) ≡ true = λ h. grind (arith, nat_tests) in
    then-cases (nat_lt n m) (n == m) (nat_lt m n) (m == n) rest then later same low next

last-order : (m n : ℕ) → is_lt (nat_cmp n m) ≡ false → nat_le m n ≡ true
last-order m n low = in-last (nat_lt n m) (n == m) (nat_le m n) (λ h. grind (arith, nat_tests)) low
  where
    in-last : (lt eq le : Bool) → (lt ≡ false → le ≡ true) → is_lt (cond lt Less (cond eq Equal Greater)) ≡ false → le ≡ true
    in-last true eq le h low = cc
    in-last false eq le h low = h refl

abbrev pub stands_before : Placed → Placed → Bool
stands_before a b = nat_lt a.creation b.creation || (a.creation == b.creation && (nat_lt a.txg b.txg || (a.txg == b.txg && nat_le a.place b.place)))

stands : (a b : Placed) → is_lt (placed_cmp b a) ≡ false → stands_before a b ≡ true
stands a b low =
    in-order a.creation b.creation (ordering_then (nat_cmp b.txg a.txg) (nat_cmp b.place a.place)) (nat_lt a.txg b.txg || (a.txg == b.txg && nat_le a.place b.place)) low
    (λ next. in-order a.txg b.txg (nat_cmp b.place a.place) (nat_le a.place b.place) next (last-order a.place b.place))

sorted-stands : (xs : List Placed) → IsSortedBy (λ a b. is_lt (placed_cmp a b)) xs → AllPairs (λ a b. stands_before a b ≡ true) xs
sorted-stands xs sorted = λ i j d less inside. stands (get_or xs i d) (get_or xs j d) (sorted_far (λ a b. is_lt (placed_cmp a b)) placed_ranks xs sorted i j d (omega arith) inside)

-- ---- places

pub place-at : (n : ℕ) (rows : List RuleRow) (i : ℕ) (d : Placed) (e : RuleRow) → i < length rows → get_or (placed_from n rows) i d ≡ record { creation = (get_or rows i e).creation; txg = (get_or rows i e).txg; place = n + i }
place-at n [] i d e inside = absurd (omega arith)
place-at n (row ∷ rows) zero d e inside = let same : n ≡ n + 0 = omega arith in ap (λ (m : ℕ). record { creation = row.creation; txg = row.txg; place = m }) same
place-at n (row ∷ rows) (suc i) d e inside =
    let same : n + 1 + i ≡ n + suc i = omega arith in
    place-at (n + 1) rows i d e (omega arith) ∙ ap (λ (m : ℕ). record { creation = (get_or rows i e).creation; txg = (get_or rows i e).txg; place = m }) same

pub length-placed : (n : ℕ) (rows : List RuleRow) → length (placed_from n rows) ≡ length rows
length-placed n [] = refl
length-placed n (row ∷ rows) = ap suc (length-placed (n + 1) rows)

placed-push : (n : ℕ) (rows : List RuleRow) (row : RuleRow) → placed_from n (rows ++ row ∷ []) ≡ placed_from n rows ++ record { creation = row.creation; txg = row.txg; place = n + length rows } ∷ []
placed-push n [] row = let same : n ≡ n + 0 = omega arith in ap (λ (m : ℕ). record { creation = row.creation; txg = row.txg; place = m } ∷ []) same
placed-push n (first ∷ rows) row =
    let same : n + 1 + length rows ≡ n + suc (length rows) = omega arith in
    ap (λ (others : List Placed). record { creation = first.creation; txg = first.txg; place = n } ∷ others)
    (placed-push (n + 1) rows row ∙ ap (λ (m : ℕ). placed_from (n + 1) rows ++ record { creation = row.creation; txg = row.txg; place = m } ∷ []) same)

pub placed-more : (rows : List RuleRow) (i : ℕ) (row : RuleRow) (before after : List Placed) → i < length rows → row ≡ get_or rows i row → before ≡ placed_from 0 (take i rows)
    → after ≡ before ++ record { creation = row.creation; txg = row.txg; place = i } ∷ [] → after ≡ placed_from 0 (take (i + 1) rows)
placed-more rows i row before after inside at is pushed =
    let e : i ≡ 0 + length (take i rows) = sym (zero-add (length (take i rows)) ∙ length-take-le i rows (omega arith)) in
    pushed ∙ (λ k. is k ++ record { creation = row.creation; txg = row.txg; place = e k } ∷ []) ∙ sym (placed-push 0 (take i rows) row)
    ∙ ap (λ (one : RuleRow). placed_from 0 (take i rows ++ one ∷ [])) at ∙ ap (placed_from 0) (sym (take_more rows i row inside))

abbrev pub place_of : Placed → ℕ
place_of one = one.place

abbrev pub PlacesDiffer : List Placed → Type 0
PlacesDiffer xs = AllPairs (λ a b. a.place ≢ b.place) xs

abbrev pub nothing : Placed
nothing = record { creation = 0; txg = 0; place = 0 }

-- a row to read past the end
abbrev pub no_rule_row : RuleRow
no_rule_row = record { name = []; txg = 0; creation = 0 }

pub at-place : (rows : List RuleRow) (i : ℕ) (d : Placed) → i < length rows → (get_or (placed_from 0 rows) i d).place ≡ i
at-place rows i d inside = ap place_of (place-at 0 rows i d no_rule_row inside) ∙ zero-add i

placed-differ : (rows : List RuleRow) → PlacesDiffer (placed_from 0 rows)
placed-differ rows = λ i j d less inside same.
    let within : j < length rows = subst (λ (n : ℕ). j < n) (length-placed 0 rows) inside in
    let one = at-place rows i d (omega arith) in
    let two = at-place rows j d within in
    omega (arith, one, two, same)

flips : (x y : ℕ) → (x == y) ≡ (y == x)
flips x y = grind (arith, nat_tests)

-- places that differ stay so when the rows change places
differ-permutation : (xs ys : List Placed) → IsPermutation xs ys → PlacesDiffer xs → PlacesDiffer ys
differ-permutation xs ys p differ =
    let E : ℕ → ℕ → Bool = λ a b. a == b in
    let mapped : AllPairs (λ a b. a ≢ b) (map place_of xs) = λ i j d less inside same.
    let within : j < length xs = rw (length-map xs place_of) at inside in
    let before : i < length xs = omega arith in
    differ i j nothing less within (sym (get_or-map place_of xs i nothing d before) ∙ same ∙ get_or-map place_of xs j nothing d within) in
    let apart : AllPairs (λ a b. a ≢ b) (map place_of ys) =
    AllPairs-from_IsDistinct Decides-eqb (map place_of ys)
    (IsDistinct-IsPermutation E flips (map place_of xs) (map place_of ys) (IsPermutation-map place_of xs ys p) (IsDistinct-from_AllPairs Decides-eqb (map place_of xs) mapped)) in
    λ i j d less inside same.
    let before : i < length ys = omega arith in
    let within : j < length (map place_of ys) = rw (length-map ys place_of) inside in
    apart i j d.place less within (get_or-map place_of ys i d d.place before ∙ same ∙ sym (get_or-map place_of ys j d d.place inside))

in-places : (ac bc at bt ap bp : ℕ) → (nat_lt ac bc || (ac == bc && (nat_lt at bt || (at == bt && nat_le ap bp)))) ≡ true → ac ≡ bc → at ≡ bt → ap ≢ bp → ap < bp
in-places ac bc at bt ap bp h same_creation same_txg apart = grind (arith, nat_tests)

comes-first : (ac bc at bt ap bp : ℕ) → (nat_lt ac bc || (ac == bc && (nat_lt at bt || (at == bt && nat_le ap bp)))) ≡ true → (nat_lt ac bc || (ac == bc && nat_le at bt)) ≡ true
comes-first ac bc at bt ap bp h = grind (arith, nat_tests)

-- ---- an order of rows, and the rows under a pattern in it

-- a row with its place, as the pattern sees it
abbrev pub seat_in : Option (List ℕ) → List RuleRow → Placed → Seat
seat_in pattern rows one = record { row = get_or (map (seen pattern) rows) one.place no_row; place = one.place }

module _ (rows : List RuleRow) (order : List Placed) (is : IsOrder rows order) where
  pub order-differs : PlacesDiffer order
  order-differs = differ-permutation (placed_from 0 rows) order is.same_rows (placed-differ rows)

  -- each place is one of the list
  pub order-within : All (λ one. one.place < length rows) order
  order-within =
      All-permutation (λ (one : Placed). one.place < length rows) (placed_from 0 rows) order is.same_rows (λ k d inside.
      let within : k < length rows = subst (λ (m : ℕ). k < m) (length-placed 0 rows) inside in
      let place = at-place rows k d within in
      omega (arith, place, within))

  pub order-marks : (marks : List Bool) → length marks ≡ length rows → All (λ one. one.place < length marks) order
  order-marks marks long = λ k d inside. let within = order-within k d inside in omega (arith, within, long)

  module _ (pattern : Option (List ℕ)) where
    abbrev all_seen : List GridRow
    all_seen = map (seen pattern) rows

    abbrev seat : Placed → Seat
    seat = seat_in pattern rows

    abbrev Agrees : Placed → Type 0
    Agrees one = ((get_or all_seen one.place no_row).creation ≡ one.creation) × ((get_or all_seen one.place no_row).txg ≡ one.txg)

    order-agrees : All Agrees order
    order-agrees = All-permutation Agrees (placed_from 0 rows) order is.same_rows (λ k d inside.
        let within : k < length rows = subst (λ (m : ℕ). k < m) (length-placed 0 rows) inside in
        let r = get_or rows k no_rule_row in
        let there : get_or all_seen (0 + k) no_row ≡ seen pattern r = ap (λ (n : ℕ). get_or all_seen n no_row) (zero-add k) ∙ get_or-map (seen pattern) rows k no_rule_row no_row within in
        subst Agrees (sym (place-at 0 rows k d no_rule_row within)) (ap (λ (g : GridRow). g.creation) there, ap (λ (g : GridRow). g.txg) there))

    -- rows that are as old stand in the order of the list
    pub order-keeps : AllPairs KeepsOrder (map (seat_in pattern rows) order)
    order-keeps = λ i j d less inside.
        let within : j < length order = rw (length-map order seat) at inside in
        let a = get_or order i nothing in
        let b = get_or order j nothing in
        let h : stands_before a b ≡ true = sorted-stands order is.in_order i j nothing less within in
        let apart : a.place ≢ b.place = order-differs i j nothing less within in
        let agree_a : Agrees a = order-agrees i nothing (omega arith) in
        let agree_b : Agrees b = order-agrees j nothing within in
        let keeps : KeepsOrder (seat a) (seat b) = λ same_creation same_txg.
        in-places a.creation b.creation a.txg b.txg a.place b.place h (sym agree_a.0 ∙ same_creation ∙ agree_b.0) (sym agree_a.1 ∙ same_txg ∙ agree_b.1) apart in
        subst (λ (x : Seat). KeepsOrder x (get_or (map seat order) j d)) (sym (get_or-map seat order i nothing d (omega arith)))
        (subst (λ (y : Seat). KeepsOrder (seat a) y) (sym (get_or-map seat order j nothing d within)) keeps)

    pub list-keeps : AllPairs KeepsOrder (map (seat_in pattern rows) (placed_from 0 rows))
    list-keeps = λ i j d less inside _ _.
        let long : length (map seat (placed_from 0 rows)) ≡ length rows = length-map (placed_from 0 rows) seat ∙ length-placed 0 rows in
        let within : j < length rows = omega (arith, long, inside) in
        let placed = length-placed 0 rows in
        let one = ap (λ (s : Seat). s.place) (get_or-map seat (placed_from 0 rows) i nothing d (omega (arith, placed, within, less))) ∙ at-place rows i nothing (omega arith) in
        let two = ap (λ (s : Seat). s.place) (get_or-map seat (placed_from 0 rows) j nothing d (omega (arith, placed, within))) ∙ at-place rows j nothing within in
        omega (arith, one, two, less)

    pub order-ascends : IsAscending (in_places (map (seen pattern) rows) order)
    order-ascends = λ i j d less inside.
        let f : Placed → GridRow = λ one. get_or all_seen one.place no_row in
        let within : j < length order = rw (length-map order f) at inside in
        let a = get_or order i nothing in
        let b = get_or order j nothing in
        let h : stands_before a b ≡ true = sorted-stands order is.in_order i j nothing less within in
        let agree_a : Agrees a = order-agrees i nothing (omega arith) in
        let agree_b : Agrees b = order-agrees j nothing within in
        rw (get_or-map f order i nothing d (omega arith), get_or-map f order j nothing d within, agree_a.0, agree_a.1, agree_b.0, agree_b.1)
        (comes-first a.creation b.creation a.txg b.txg a.place b.place h)

    rows-seated : (xs : List Placed) → map row_of (map seat xs) ≡ in_places all_seen xs
    rows-seated [] = refl
    rows-seated (x ∷ xs) = ap (λ (others : List GridRow). get_or all_seen x.place no_row ∷ others) (rows-seated xs)

    pub order-rows : map row_of (map (seat_in pattern rows) order) ≡ in_places (map (seen pattern) rows) order
    order-rows = rows-seated order

    pub list-rows : map row_of (map (seat_in pattern rows) (placed_from 0 rows)) ≡ map (seen pattern) rows
    list-rows = rows-seated (placed_from 0 rows) ∙ same_lists (in_places all_seen (placed_from 0 rows)) all_seen
        (length-map (placed_from 0 rows) (λ one. get_or all_seen one.place no_row) ∙ length-placed 0 rows ∙ sym (length-map rows (seen pattern)))
        (λ k d inside.
        let long : length (in_places all_seen (placed_from 0 rows)) ≡ length rows = length-map (placed_from 0 rows) (λ one. get_or all_seen one.place no_row) ∙ length-placed 0 rows in
        let within : k < length rows = omega (arith, long, inside) in
        let placed = length-placed 0 rows in
        let seen_long = length-map rows (seen pattern) in
        get_or-map (λ one. get_or all_seen one.place no_row) (placed_from 0 rows) k nothing d (omega (arith, placed, within))
        ∙ ap (λ (n : ℕ). get_or all_seen n no_row) (at-place rows k nothing within)
        ∙ get_or_default all_seen k no_row d (omega (arith, seen_long, within)))
