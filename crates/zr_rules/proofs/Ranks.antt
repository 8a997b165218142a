-- A grid and `last_n` keep the same rows in whatever order they stand, where rows that are as old keep their order.
use Rattle.std.proofs.Common.{◌≡◌, ℕ, zero, suc, ◌+◌, ◌-◌, ◌<◌, ◌≤◌, Bool, true, false, cond, ◌||◌, ◌&&◌, ◌==◌, nat_lt, List, [], ◌∷◌, length, get_or, take, drop, map, filter, fold, max, refl, sym, ap, subst, ◌∙◌, ⊎_elim, arith, add-one, zero-add, add_assoc, AllPairs, IsPermutation, count_by}
use Rattle.std.specs.List.{list_any}
use mathlib.Core.Path.{fun_ext}
use Rattle.std.proofs.lemmas.Bool.{cases_eq}
use Rattle.std.proofs.lemmas.Bool.Decides.{nat_tests}
use Rattle.std.proofs.lemmas.List.{get_or_default, get_or-map, length-map}
use Rattle.std.proofs.lemmas.List.Sums.{sum_by-cons}
use Rattle.std.proofs.lemmas.List.Sorted.{sum_by-IsPermutation, list_any-IsPermutation}
use Rattle.zr_grid.specs.declared.grid.Interval.{Interval}
use Rattle.zr_grid.specs.declared.kept.GridRow.{GridRow}
use Rattle.zr_grid.specs.Kept.{Slot, slots, newest, age_of, lies_in, is_in, is_older, is_twin, older_in, some_slot, has_room, slots_keep, grid_kept}
use Rattle.zr_grid.proofs.Sweeps.{newest_top}
use Rattle.zr_rules.specs.Keeps.{is_newer, is_as_old, newer_than, is_of_newest}
use Rattle.zr_rules.proofs.Seats.{Seat, row_of, KeepsOrder, IsStable}

-- ---- the newest matching row

abbrev pub is_above : ℕ → GridRow → Bool
is_above n row = row.matches && nat_lt n row.creation

abbrev greatest : ℕ → List GridRow → ℕ
greatest a rows = fold (λ top row. max top row.creation) a (filter (λ row. row.matches) rows)

below-max : (n a c : ℕ) (rest : Bool) → (nat_lt n (max a c) || rest) ≡ (nat_lt n a || (nat_lt n c || rest))
below-max n a c true = grind (arith, nat_tests)
below-max n a c false = grind (arith, nat_tests)

greatest-cons : (n a : ℕ) (row : GridRow) (m : Bool) (rows : List GridRow) (any : Bool) → ((b : ℕ) → nat_lt n (greatest b rows) ≡ (nat_lt n b || any)) →
    nat_lt n (fold (λ (top : ℕ) (r : GridRow). max top r.creation) a (cond m (row ∷ filter (λ r. r.matches) rows) (filter (λ r. r.matches) rows))) ≡ (nat_lt n a || ((m && nat_lt n row.creation) || any))
greatest-cons n a row true rows any h = h (max a row.creation) ∙ below-max n a row.creation any
greatest-cons n a row false rows any h = h a

-- the greatest creation is above a number where one is
greatest-above : (n a : ℕ) (rows : List GridRow) → nat_lt n (greatest a rows) ≡ (nat_lt n a || list_any (is_above n) rows)
greatest-above n a [] = grind (arith, nat_tests)
greatest-above n a (row ∷ rows) = greatest-cons n a row row.matches rows (list_any (is_above n) rows) (λ b. greatest-above n b rows)

newest-above : (n : ℕ) (rows : List GridRow) → nat_lt n (newest rows) ≡ list_any (is_above n) rows
newest-above n rows = greatest-above n 0 rows ∙ none-below n (list_any (is_above n) rows)
  where
    none-below : (n : ℕ) (any : Bool) → (nat_lt n 0 || any) ≡ any
    none-below n true = grind (arith, nat_tests)
    none-below n false = grind (arith, nat_tests)

same-tests : (x y : ℕ) → ((n : ℕ) → nat_lt n x ≡ nat_lt n y) → x ≡ y
same-tests x y h =
    let one : nat_lt y x ≡ nat_lt y y = h y in
    let two : nat_lt x x ≡ nat_lt x y = h x in
    grind (arith, nat_tests)

any-row : (p : GridRow → Bool) (xs : List Seat) → list_any p (map row_of xs) ≡ list_any (λ one. p one.row) xs
any-row p [] = refl
any-row p (x ∷ xs) = ap (λ b. p x.row || b) (any-row p xs)

top-same : (xs ys : List Seat) → IsPermutation xs ys → newest (map row_of ys) ≡ newest (map row_of xs)
top-same xs ys p = same-tests (newest (map row_of ys)) (newest (map row_of xs)) (λ n.
    newest-above n (map row_of ys) ∙ any-row (is_above n) ys ∙ sym (list_any-IsPermutation (λ (one : Seat). is_above n one.row) xs ys p)
    ∙ sym (any-row (is_above n) xs) ∙ sym (newest-above n (map row_of xs)))

-- no matching row is above the newest
abbrev pub IsBounded : ℕ → List Seat → Type 0
IsBounded top xs = (k : ℕ) (d : Seat) → k < length xs → (get_or xs k d).row.matches ≡ true → (get_or xs k d).row.creation ≤ top

top-bounds : (xs : List Seat) → IsBounded (newest (map row_of xs)) xs
top-bounds xs = λ k d inside matching.
    let one : get_or (map row_of xs) k d.row ≡ (get_or xs k d).row = get_or-map row_of xs k d d.row inside in
    let long = length-map xs row_of in
    subst (λ (r : GridRow). r.creation ≤ newest (map row_of xs)) one
    (newest_top (map row_of xs) k d.row (omega (arith, long, inside)) (subst (λ (r : GridRow). r.matches ≡ true) (sym one) matching))

-- ---- counts

count-cons : {X : Type 0} (p : X → Bool) (x : X) (xs : List X) → count_by p (x ∷ xs) ≡ cond (p x) 1 0 + count_by p xs
count-cons p x xs = sum_by-cons (λ y. cond (p y) 1 0) x xs

seat-count : (g : GridRow → Bool) (xs : List Seat) → count_by g (map row_of xs) ≡ count_by (λ one. g one.row) xs
seat-count g [] = refl
seat-count g (x ∷ xs) = count-cons g x.row (map row_of xs) ∙ ap (λ n. cond (g x.row) 1 0 + n) (seat-count g xs) ∙ sym (count-cons (λ (one : Seat). g one.row) x xs)

later-count : (g : GridRow → Bool) (w : Seat → Bool) (xs : List Seat) → ((j : ℕ) (d : Seat) → j < length xs → g (get_or xs j d).row ≡ w (get_or xs j d)) → count_by g (map row_of xs) ≡ count_by w xs
later-count g w [] h = refl
later-count g w (x ∷ xs) h =
    let rest = later-count g w xs (λ j d inside. h (suc j) d (omega arith)) in
    let here : g x.row ≡ w x = h 0 x (omega arith) in
    count-cons g x.row (map row_of xs) ∙ (λ i. cond (here i) 1 0 + rest i) ∙ sym (count-cons w x xs)

-- a row counts what stands before it by one test and what stands behind it by another, where a third is both
ranked : (f g : GridRow → Bool) (w : Seat → Bool) (xs : List Seat) (k : ℕ) (t : Seat) → k < length xs → t ≡ get_or xs k t → w t ≡ false
    → ((j : ℕ) (d : Seat) → j < k → f (get_or xs j d).row ≡ w (get_or xs j d))
    → ((j : ℕ) (d : Seat) → k < j → j < length xs → g (get_or xs j d).row ≡ w (get_or xs j d))
    → count_by f (take k (map row_of xs)) + count_by g (drop (suc k) (map row_of xs)) ≡ count_by w xs
ranked f g w [] k t inside is none before behind = absurd (omega arith)
ranked f g w (x ∷ xs) zero t inside is none before behind =
    let self : w x ≡ false = ap w (sym is) ∙ none in
    zero-add _ ∙ later-count g w xs (λ j d within. behind (suc j) d (omega arith) (omega arith))
    ∙ sym (count-cons w x xs ∙ ap (λ b. cond b 1 0 + count_by w xs) self ∙ zero-add _)
ranked f g w (x ∷ xs) (suc k) t inside is none before behind =
    let rest = ranked f g w xs k t (omega arith) is none (λ j d low. before (suc j) d (omega arith)) (λ j d far within. behind (suc j) d (omega arith) (omega arith)) in
    let here : f x.row ≡ w x = before 0 x (omega arith) in
    ap (λ n. n + count_by g (drop (suc k) (map row_of xs))) (count-cons f x.row (take k (map row_of xs)))
    ∙ add_assoc (cond (f x.row) 1 0) (count_by f (take k (map row_of xs))) (count_by g (drop (suc k) (map row_of xs)))
    ∙ (λ i. cond (here i) 1 0 + rest i) ∙ sym (count-cons w x xs)

front-test : (inside older twin below : Bool) → (inside ≡ true → twin ≡ true → below ≡ true) → (inside && (older || twin)) ≡ (inside && (older || (twin && below)))
front-test false older twin below h = refl
front-test true true twin below h = refl
front-test true false true below h = sym (h refl refl)
front-test true false false below h = refl

back-test : (inside older twin below : Bool) → (inside ≡ true → twin ≡ true → below ≡ false) → (inside && older) ≡ (inside && (older || (twin && below)))
back-test false older twin below h = refl
back-test true true twin below h = refl
back-test true false true below h = sym (h refl refl)
back-test true false false below h = refl

-- how a row in a slot counts as older than another
abbrev pub ranks_older : List Slot → ℕ → ℕ → Seat → Seat → Bool
ranks_older all top slot t one = is_in all top slot one.row && (is_older top one.row t.row || (is_twin top one.row t.row && nat_lt one.place t.place))

and-left : (a b : Bool) → (a && b) ≡ true → a ≡ true
and-left true b e = refl
and-left false b e = e

twins : (top oc tc ox tx : ℕ) → oc ≤ top → tc ≤ top → (top - oc == top - tc && ox == tx) ≡ true → (oc ≡ tc) × (ox ≡ tx)
twins top oc tc ox tx low below same = (grind (arith, nat_tests), grind (arith, nat_tests))

itself-not : (all : List Slot) (top slot : ℕ) (t : Seat) → ranks_older all top slot t t ≡ false
itself-not all top slot t = never (is_in all top slot t.row) (nat_lt (age_of top t.row) (age_of top t.row)) (age_of top t.row == age_of top t.row) (nat_lt t.row.txg t.row.txg) (is_twin top t.row t.row) (nat_lt t.place t.place) (grind (arith, nat_tests)) (grind (arith, nat_tests)) (grind (arith, nat_tests))
  where
    never : (inside older same less twin below : Bool) → older ≡ false → less ≡ false → below ≡ false → (inside && ((older || (same && less)) || (twin && below))) ≡ false
    never false older same less twin below a b c = refl
    never true true same less twin below a b c = absurd cc
    never true false same true twin below a b c = absurd cc
    never true false same less twin true a b c = absurd cc
    never true false true false true false a b c = refl
    never true false true false false false a b c = refl
    never true false false false true false a b c = refl
    never true false false false false false a b c = refl

pub counted : (all : List Slot) (top : ℕ) (xs : List Seat) (k : ℕ) (t : Seat) (slot : ℕ) → k < length xs → t ≡ get_or xs k t → AllPairs KeepsOrder xs → IsBounded top xs → t.row.matches ≡ true
    → older_in all top (map row_of xs) slot k t.row ≡ count_by (ranks_older all top slot t) xs
counted all top xs k t slot inside is orders bounds matching =
    let f : GridRow → Bool = λ other. is_in all top slot other && (is_older top other t.row || is_twin top other t.row) in
    let g : GridRow → Bool = λ other. is_in all top slot other && is_older top other t.row in
    let w = ranks_older all top slot t in
    let low : t.row.creation ≤ top = subst (λ (o : Seat). o.row.matches ≡ true → o.row.creation ≤ top) (sym is) (bounds k t inside) matching in
    ap (λ n. count_by f (take k (map row_of xs)) + count_by g (drop n (map row_of xs))) (add-one k)
    ∙ ranked f g w xs k t inside is (itself-not all top slot t)
    (λ j d before.
    let o = get_or xs j d in
    let within : j < length xs = omega arith in
    let o_is : t ≡ get_or xs k d = is ∙ get_or_default xs k t d inside in
    let order : KeepsOrder o t = subst (KeepsOrder o) (sym o_is) (orders j k d before inside) in
    front-test (is_in all top slot o.row) (is_older top o.row t.row) (is_twin top o.row t.row) (nat_lt o.place t.place) (λ there twin.
    let same = twins top o.row.creation t.row.creation o.row.txg t.row.txg (bounds j d within (and-left o.row.matches _ there)) low twin in
    let less : o.place < t.place = order same.0 same.1 in grind (arith, nat_tests)))
    (λ j d after within.
    let o = get_or xs j d in
    let o_is : t ≡ get_or xs k d = is ∙ get_or_default xs k t d inside in
    let order : KeepsOrder t o = subst (λ (z : Seat). KeepsOrder z o) (sym o_is) (orders k j d after within) in
    back-test (is_in all top slot o.row) (is_older top o.row t.row) (is_twin top o.row t.row) (nat_lt o.place t.place) (λ there twin.
    let same = twins top o.row.creation t.row.creation o.row.txg t.row.txg (bounds j d within (and-left o.row.matches _ there)) low twin in
    let less : t.place < o.place = order (sym same.0) (sym same.1) in grind (arith, nat_tests)))

-- ---- the grid

only-if : (m a b : Bool) → (m ≡ true → a ≡ b) → (m && a) ≡ (m && b)
only-if true a b h = h refl
only-if false a b h = refl

pub kept-same : (intervals : List Interval) → IsStable (grid_kept intervals)
unfolding slots_keep
kept-same intervals = λ xs ys i k t p order_xs order_ys in_xs is_x in_ys is_y.
    let all = slots intervals in
    let top = newest (map row_of xs) in
    let tops : newest (map row_of ys) ≡ top = top-same xs ys p in
    let bound_ys : IsBounded top ys = subst (λ (n : ℕ). IsBounded n ys) tops (top-bounds ys) in
    ap (λ (n : ℕ). slots_keep all n (map row_of ys) k t.row) tops
    ∙ only-if t.row.matches _ _ (λ matching.
    ap (λ (older : ℕ → ℕ). some_slot (λ place slot. lies_in all (age_of top t.row) place && has_room slot.keep (older place)) all)
    (fun_ext (λ (slot : ℕ).
    counted all top ys k t slot in_ys is_y order_ys bound_ys matching
    ∙ sum_by-IsPermutation (λ (o : Seat). cond (ranks_older all top slot t o) 1 0) xs ys p
    ∙ sym (counted all top xs i t slot in_xs is_x order_xs (top-bounds xs) matching))))

-- ---- the newest rows

-- how a row counts as newer than another
abbrev ranks_newer : Seat → Seat → Bool
ranks_newer t one = one.row.matches && (is_newer one.row t.row || (is_as_old one.row t.row && nat_lt t.place one.place))

-- two tests of which each row passes one at most, where a third is both
pub both-count : {X : Type 0} (f g w : X → Bool) (xs : List X) → ((j : ℕ) (d : X) → j < length xs → cond (f (get_or xs j d)) 1 0 + cond (g (get_or xs j d)) 1 0 ≡ cond (w (get_or xs j d)) 1 0)
    → count_by f xs + count_by g xs ≡ count_by w xs
both-count f g w [] h = refl
both-count f g w (x ∷ xs) h =
    let rest = both-count f g w xs (λ j d inside. h (suc j) d (omega arith)) in
    let here = h 0 x (omega arith) in
    let one = count-cons f x xs in
    let two = count-cons g x xs in
    let three = count-cons w x xs in
    omega (arith, rest, here, one, two, three)

-- the tests of a row against the rows of its list, and against those behind it alone
newer-parts : (f g : GridRow → Bool) (w : Seat → Bool) (xs : List Seat) (k : ℕ) (t : Seat) → k < length xs → t ≡ get_or xs k t
    → ((j : ℕ) (d : Seat) → j ≤ k → f (get_or xs j d).row ≡ w (get_or xs j d))
    → ((j : ℕ) (d : Seat) → k < j → j < length xs → cond (f (get_or xs j d).row) 1 0 + cond (g (get_or xs j d).row) 1 0 ≡ cond (w (get_or xs j d)) 1 0)
    → count_by f (map row_of xs) + count_by g (drop (suc k) (map row_of xs)) ≡ count_by w xs
newer-parts f g w [] k t inside is front behind = absurd (omega arith)
newer-parts f g w (x ∷ xs) zero t inside is front behind =
    let here : f x.row ≡ w x = front 0 x (omega arith) in
    let rest : count_by f (map row_of xs) + count_by g (map row_of xs) ≡ count_by w xs =
    (λ i. seat-count f xs i + seat-count g xs i) ∙ both-count (λ one. f one.row) (λ one. g one.row) w xs (λ j d within. behind (suc j) d (omega arith) (omega arith)) in
    ap (λ n. n + count_by g (map row_of xs)) (count-cons f x.row (map row_of xs))
    ∙ add_assoc (cond (f x.row) 1 0) (count_by f (map row_of xs)) (count_by g (map row_of xs))
    ∙ (λ i. cond (here i) 1 0 + rest i) ∙ sym (count-cons w x xs)
newer-parts f g w (x ∷ xs) (suc k) t inside is front behind =
    let rest = newer-parts f g w xs k t (omega arith) is (λ j d low. front (suc j) d (omega arith)) (λ j d far within. behind (suc j) d (omega arith) (omega arith)) in
    let here : f x.row ≡ w x = front 0 x (omega arith) in
    ap (λ n. n + count_by g (drop (suc k) (map row_of xs))) (count-cons f x.row (map row_of xs))
    ∙ add_assoc (cond (f x.row) 1 0) (count_by f (map row_of xs)) (count_by g (drop (suc k) (map row_of xs)))
    ∙ (λ i. cond (here i) 1 0 + rest i) ∙ sym (count-cons w x xs)

-- a row that is not behind another is newer only by age
front-newer : (m newer old behind : Bool) → (old ≡ true → behind ≡ false) → (m && newer) ≡ (m && (newer || (old && behind)))
front-newer false newer old behind h = refl
front-newer true true old behind h = refl
front-newer true false true behind h = sym (h refl)
front-newer true false false behind h = refl

-- a row behind another is newer by age, or as old
back-newer : (m newer old behind : Bool) → (newer ≡ true → old ≡ false) → (old ≡ true → behind ≡ true) → cond (m && newer) 1 0 + cond (m && old) 1 0 ≡ cond (m && (newer || (old && behind))) 1 0
back-newer false newer old behind apart h = refl
back-newer true true true behind apart h = absurd (let e = apart refl in cc)
back-newer true true false behind apart h = refl
back-newer true false true behind apart h = let e = h refl in rw e refl
back-newer true false false behind apart h = refl

not-both : (oc tc ox tx : ℕ) → (nat_lt tc oc || (oc == tc && nat_lt tx ox)) ≡ true → (oc == tc && ox == tx) ≡ false
not-both oc tc ox tx h = grind (arith, nat_tests)

as-old : (oc tc ox tx : ℕ) → (oc == tc && ox == tx) ≡ true → (oc ≡ tc) × (ox ≡ tx)
as-old oc tc ox tx h = (grind (arith, nat_tests), grind (arith, nat_tests))

newer-counted : (xs : List Seat) (k : ℕ) (t : Seat) → k < length xs → t ≡ get_or xs k t → AllPairs KeepsOrder xs → newer_than (map row_of xs) k t.row ≡ count_by (ranks_newer t) xs
newer-counted xs k t inside is orders =
    let f : GridRow → Bool = λ other. other.matches && is_newer other t.row in
    let g : GridRow → Bool = λ other. other.matches && is_as_old other t.row in
    ap (λ n. count_by f (map row_of xs) + count_by g (drop n (map row_of xs))) (add-one k)
    ∙ newer-parts f g (ranks_newer t) xs k t inside is
    (λ j d low.
    let o = get_or xs j d in
    front-newer o.row.matches (is_newer o.row t.row) (is_as_old o.row t.row) (nat_lt t.place o.place) (λ old.
    let same = as-old o.row.creation t.row.creation o.row.txg t.row.txg old in
    ⊎_elim
    (λ itself. let equal : o ≡ t = ap (λ n. get_or xs n d) itself ∙ get_or_default xs k d t inside ∙ sym is in
    let place = ap (λ (z : Seat). z.place) equal in grind (arith, nat_tests))
    (λ apart. let o_is : t ≡ get_or xs k d = is ∙ get_or_default xs k t d inside in
    let less : o.place < t.place = subst (KeepsOrder o) (sym o_is) (orders j k d (omega arith) inside) same.0 same.1 in grind (arith, nat_tests))
    (cases_eq j k)))
    (λ j d after within.
    let o = get_or xs j d in
    back-newer o.row.matches (is_newer o.row t.row) (is_as_old o.row t.row) (nat_lt t.place o.place)
    (not-both o.row.creation t.row.creation o.row.txg t.row.txg)
    (λ old.
    let same = as-old o.row.creation t.row.creation o.row.txg t.row.txg old in
    let o_is : t ≡ get_or xs k d = is ∙ get_or_default xs k t d inside in
    let less : t.place < o.place = subst (λ (z : Seat). KeepsOrder z o) (sym o_is) (orders k j d after within) (sym same.0) (sym same.1) in grind (arith, nat_tests)))

pub newest-stable : (count : ℕ) → IsStable (is_of_newest count)
newest-stable count = λ xs ys i k t p order_xs order_ys in_xs is_x in_ys is_y.
    ap (λ (n : ℕ). t.row.matches && nat_lt n count)
    (newer-counted ys k t in_ys is_y order_ys
    ∙ sum_by-IsPermutation (λ (o : Seat). cond (ranks_newer t o) 1 0) xs ys p
    ∙ sym (newer-counted xs i t in_xs is_x order_xs))
