-- A sweep from the oldest row on decides as the grid filter does.
use Rattle.std.proofs.Common.{◌≡◌, ℕ, zero, suc, ◌+◌, ◌-◌, ◌<◌, ◌≤◌, Bool, true, false, ◌&&◌, ◌||◌, cond, eqb, ltb, leb, max, List, [], ◌∷◌, length, get_or, take, drop, fold, filter, Some, count_by, refl, sym, ap, subst, ◌∙◌, inl, inr, ⊎_elim, arith, add-zero}
use Rattle.std.specs.Prelude.{slice_get}
use Rattle.std.proofs.lemmas.Bool.{cases_eq, cases_lt, and_from, and_left, true≢false}
use Rattle.std.proofs.lemmas.Bool.Decides.{nat_tests}
use Rattle.std.proofs.lemmas.List.{get_or-take, get_or-drop, length-take-le, length-drop}
use Rattle.std.proofs.lemmas.List.Sums.{sum_by-cons, count_by_more_yes, count_by_more_no}
use Rattle.std.proofs.lemmas.Option.{slice_get-get_or, slice_get_within, get_or_from_slice_get, same_Some}
use Rattle.zr_grid.specs.declared.grid.Keep.{Keep}
use Rattle.zr_grid.specs.declared.grid.Interval.{Interval}
use Rattle.zr_grid.specs.declared.kept.GridRow.{GridRow}
use Rattle.zr_grid.specs.declared.sweep.Place.{Place}
use Rattle.zr_grid.specs.Grid.{total}
use Rattle.zr_grid.specs.Kept.{Slot, slots, lies_in, some_slot, newest, age_of, is_in, is_older, is_twin, older_in, comes_before, has_room, slots_keep, IsAscending}
use Rattle.zr_grid.specs.Sweep.{keep_at, IsAt, Enters, Moves, Sweeps}
use Rattle.zr_grid.proofs.Places.{lies_between, edges_of, parted, no_room, decided, slots_long}

-- ---- the newest matching row

abbrev greatest : ℕ → List GridRow → ℕ
greatest a rows = fold (λ top row. max top row.creation) a (filter (λ row. row.matches) rows)

grows_with : (a : ℕ) (row : GridRow) (m : Bool) (rows : List GridRow) (c : ℕ) → ((b : ℕ) → a ≤ b → c ≤ greatest b rows)
    → c ≤ fold (λ (top : ℕ) (r : GridRow). max top r.creation) a (cond m (row ∷ filter (λ r. r.matches) rows) (filter (λ r. r.matches) rows))
grows_with a row true rows c h = h (max a row.creation) (omega arith)
grows_with a row false rows c h = h a (omega arith)

above_start : (a : ℕ) (rows : List GridRow) → a ≤ greatest a rows
above_start a [] = omega arith
above_start a (row ∷ rows) = grows_with a row row.matches rows a (λ b le. let more = above_start b rows in omega (arith, le, more))

above_here : (a : ℕ) (row : GridRow) (m : Bool) (rows : List GridRow) → m ≡ true
    → row.creation ≤ fold (λ (top : ℕ) (r : GridRow). max top r.creation) a (cond m (row ∷ filter (λ r. r.matches) rows) (filter (λ r. r.matches) rows))
above_here a row true rows e = let more = above_start (max a row.creation) rows in omega (arith, more)
above_here a row false rows e = absurd cc

above_each : (a : ℕ) (rows : List GridRow) (k : ℕ) (d : GridRow) → k < length rows → (get_or rows k d).matches ≡ true → (get_or rows k d).creation ≤ greatest a rows
above_each a [] k d inside matching = absurd (omega arith)
above_each a (row ∷ rows) zero d inside matching = above_here a row row.matches rows matching
above_each a (row ∷ rows) (suc k) d inside matching = grows_with a row row.matches rows (get_or rows k d).creation (λ b le. above_each b rows k d (omega arith) matching)

-- no matching row is newer than this
abbrev pub IsTop : ℕ → List GridRow → Type 0
IsTop top rows = (k : ℕ) (d : GridRow) → k < length rows → (get_or rows k d).matches ≡ true → (get_or rows k d).creation ≤ top

pub newest_top : (rows : List GridRow) → IsTop (newest rows) rows
newest_top rows = above_each 0 rows

-- ---- counts

pub count_same : {X : Type 0} (p q : X → Bool) (xs : List X) → ((j : ℕ) (d : X) → j < length xs → p (get_or xs j d) ≡ q (get_or xs j d)) → count_by p xs ≡ count_by q xs
count_same p q [] h = refl
count_same p q (x ∷ xs) h =
    let rest = count_same p q xs (λ j d inside. h (suc j) d (omega arith)) in
    let here : p x ≡ q x = h 0 x (omega arith) in
    sum_by-cons (λ y. cond (p y) 1 0) x xs ∙ (λ i. cond (here i) 1 0 + rest i) ∙ sym (sum_by-cons (λ y. cond (q y) 1 0) x xs)

pub count_none : {X : Type 0} (p : X → Bool) (xs : List X) → ((j : ℕ) (d : X) → j < length xs → p (get_or xs j d) ≡ false) → count_by p xs ≡ 0
count_none p [] h = refl
count_none p (x ∷ xs) h =
    let rest = count_none p xs (λ j d inside. h (suc j) d (omega arith)) in
    let here : p x ≡ false = h 0 x (omega arith) in
    sum_by-cons (λ y. cond (p y) 1 0) x xs ∙ (λ i. cond (here i) 1 0 + rest i)

-- ---- rows that ascend

not_after : (oc ot rc rt : ℕ) → (ltb oc rc || (eqb oc rc && leb ot rt)) ≡ true → oc ≤ rc
not_after oc ot rc rt before = grind (arith, nat_tests)

older_before : (oc ot rc rt top : ℕ) → rc ≤ top → (ltb oc rc || (eqb oc rc && leb ot rt)) ≡ true
    → ((ltb (top - rc) (top - oc) || (eqb (top - oc) (top - rc) && ltb ot rt)) || (eqb (top - oc) (top - rc) && eqb ot rt)) ≡ true
older_before oc ot rc rt top low before = grind (arith, nat_tests)

not_older_after : (oc ot rc rt top : ℕ) → oc ≤ top → (ltb rc oc || (eqb rc oc && leb rt ot)) ≡ true → (ltb (top - rc) (top - oc) || (eqb (top - oc) (top - rc) && ltb ot rt)) ≡ false
not_older_after oc ot rc rt top low after = grind (arith, nat_tests)

and_yes : (inside test : Bool) → test ≡ true → (inside && test) ≡ inside
and_yes true test e = e
and_yes false test e = refl

only_matching : (m inside test : Bool) → (m ≡ true → test ≡ false) → ((m && inside) && test) ≡ false
only_matching true true test h = h refl
only_matching true false test h = refl
only_matching false inside test h = refl

in_none : (m inside : Bool) → (m ≡ true → inside ≡ false) → (m && inside) ≡ false
in_none true inside h = h refl
in_none false inside h = refl

pub pair_before : (rows : List GridRow) (i j : ℕ) (a b : GridRow) → IsAscending rows → slice_get rows i ≡ Some a → slice_get rows j ≡ Some b → i < j → comes_before a b ≡ true
pair_before rows i j a b ascend at_a at_b less =
    subst (λ (x : GridRow). comes_before x b ≡ true) (get_or_from_slice_get rows i a a at_a)
    (subst (λ (y : GridRow). comes_before (get_or rows i a) y ≡ true) (get_or_from_slice_get rows j b a at_b) (ascend i j a less (slice_get_within rows j b at_b)))

below_top : (top : ℕ) (rows : List GridRow) (i : ℕ) (row : GridRow) → IsTop top rows → slice_get rows i ≡ Some row → row.matches ≡ true → row.creation ≤ top
below_top top rows i row tops at matching =
    subst (λ (r : GridRow). r.matches ≡ true → r.creation ≤ top) (get_or_from_slice_get rows i row row at) (tops i row (slice_get_within rows i row at)) matching

-- the rows before a matching row are older
older_front : (all : List Slot) (top : ℕ) (rows : List GridRow) (slot i : ℕ) (row : GridRow) → IsAscending rows → IsTop top rows → slice_get rows i ≡ Some row → row.matches ≡ true
    → count_by (λ other. is_in all top slot other && (is_older top other row || is_twin top other row)) (take i rows) ≡ count_by (is_in all top slot) (take i rows)
older_front all top rows slot i row ascend tops at matching =
    let inside : i < length rows = slice_get_within rows i row at in
    let low = below_top top rows i row tops at matching in
    let long = length-take-le i rows (omega (arith, inside)) in
    count_same (λ other. is_in all top slot other && (is_older top other row || is_twin top other row)) (is_in all top slot) (take i rows) (λ j d within.
    let less : j < i = omega (arith, long, within) in
    let other : GridRow = get_or rows j d in
    let before : comes_before other row ≡ true = pair_before rows j i other row ascend (slice_get-get_or rows j d (omega (arith, less, inside))) at less in
    rw (get_or-take i rows j d less) (and_yes (is_in all top slot other) _ (older_before other.creation other.txg row.creation row.txg top low before)))

-- the rows behind a matching row are not
older_back : (all : List Slot) (top : ℕ) (rows : List GridRow) (slot i : ℕ) (row : GridRow) → IsAscending rows → IsTop top rows → slice_get rows i ≡ Some row
    → count_by (λ other. is_in all top slot other && is_older top other row) (drop (i + 1) rows) ≡ 0
older_back all top rows slot i row ascend tops at =
    let long = length-drop (i + 1) rows in
    count_none (λ other. is_in all top slot other && is_older top other row) (drop (i + 1) rows) (λ j d within.
    let inside : i + 1 + j < length rows = omega (arith, long, within) in
    let other : GridRow = get_or rows (i + 1 + j) d in
    let there = slice_get-get_or rows (i + 1 + j) d inside in
    let after : comes_before row other ≡ true = pair_before rows i (i + 1 + j) row other ascend at there (omega arith) in
    rw (get_or-drop (i + 1) rows j d) (only_matching other.matches (lies_in all (age_of top other) slot) (is_older top other row) (λ matching.
    not_older_after other.creation other.txg row.creation row.txg top (below_top top rows (i + 1 + j) other tops there matching) after)))

older_ascending : (all : List Slot) (top : ℕ) (rows : List GridRow) (slot i : ℕ) (row : GridRow) → IsAscending rows → IsTop top rows → slice_get rows i ≡ Some row → row.matches ≡ true
    → older_in all top rows slot i row ≡ count_by (is_in all top slot) (take i rows)
older_ascending all top rows slot i row ascend tops at matching =
    (λ k. older_front all top rows slot i row ascend tops at matching k + older_back all top rows slot i row ascend tops at k)
    ∙ add-zero (count_by (is_in all top slot) (take i rows))

ages_fall : (top : ℕ) (rows : List GridRow) (i j : ℕ) (a b : GridRow) → IsAscending rows → slice_get rows i ≡ Some a → slice_get rows j ≡ Some b → i ≤ j → age_of top b ≤ age_of top a
ages_fall top rows i j a b ascend at_a at_b le = ⊎_elim
    (λ same. let equal : b ≡ a = same_Some b a (sym at_b ∙ subst (λ (n : ℕ). slice_get rows n ≡ Some a) (sym same) at_a) in let ages = ap (age_of top) equal in omega (arith, ages))
    (λ apart. let before = not_after a.creation a.txg b.creation b.txg (pair_before rows i j a b ascend at_a at_b (omega arith)) in omega (arith, before))
    (cases_eq j i)

abbrev pub nothing : GridRow
nothing = record { creation = 0; txg = 0; matches = false }

pub not_kept : (all : List Slot) (top : ℕ) (rows : List GridRow) (i : ℕ) (row : GridRow) → row.matches ≡ false → false ≡ slots_keep all top rows i row
unfolding slots_keep
not_kept all top rows i row other = rw other refl

-- ---- the sweep

module _ (intervals : List Interval) (top : ℕ) (rows : List GridRow) where
  -- nothing has come yet
  pub begun : (place : Place) → IsAt intervals (total intervals) place → place.older ≡ 0 → Sweeps intervals top rows 0 place
  begun place stands none = record {
    slot = total intervals;
    stands = stands;
    counted = λ _. none;
    few = omega (arith, none);
    behind = λ j row at less _. absurd (omega arith);
    ahead = λ j row at far _ within. let long = slots_long intervals in absurd (omega (arith, long, within));
  }

  -- a row that does not match changes nothing
  pub skipped : (i : ℕ) (row : GridRow) (place : Place) → slice_get rows i ≡ Some row → row.matches ≡ false → Sweeps intervals top rows i place → Sweeps intervals top rows (i + 1) place
  skipped i row place at other sweep =
      let inside : i < length rows = slice_get_within rows i row at in
      record {
        slot = sweep.slot;
        stands = sweep.stands;
        counted = λ within. sweep.counted within ∙ sym (count_by_more_no (is_in (slots intervals) top sweep.slot) rows i row inside
            (rw (get_or_from_slice_get rows i row row at) (and_left row.matches _ other)));
        few = let few = sweep.few in omega (arith, few);
        behind = λ j r at_j less matching. ⊎_elim
            (λ same. let equal : r ≡ row = same_Some r row (sym at_j ∙ subst (λ (n : ℕ). slice_get rows n ≡ Some row) (sym same) at) in absurd (true≢false (sym matching ∙ ap (λ (x : GridRow). x.matches) equal ∙ other)))
            (λ apart. sweep.behind j r at_j (omega arith) matching)
            (cases_eq j i);
        ahead = λ j r at_j far matching within. sweep.ahead j r at_j (omega arith) matching within;
      }

  -- the sweep comes to the slot of a matching row
  entered : (i : ℕ) (row : GridRow) (before after : Place) → IsAscending rows → slice_get rows i ≡ Some row → age_of top row < before.begin
      → Enters intervals (age_of top row) after → Sweeps intervals top rows i before → Sweeps intervals top rows i after
  entered i row before after ascend at below enters sweep =
      let all = slots intervals in
      let inside : i < length rows = slice_get_within rows i row at in
      let edges = edges_of all (age_of top row) enters.slot enters.inside in
      let begins_before = sweep.stands.begins in
      let begins_after = enters.stands.begins in
      let long = length-take-le i rows (omega (arith, inside)) in
      record {
        slot = enters.slot;
        stands = enters.stands;
        counted = λ _. enters.none ∙ sym (count_none (is_in all top enters.slot) (take i rows) (λ j d within.
            let less : j < i = omega (arith, long, within) in
            let other : GridRow = get_or rows j d in
            rw (get_or-take i rows j d less) (in_none other.matches (lies_in all (age_of top other) enters.slot) (λ matching.
            let old = sweep.behind j other (slice_get-get_or rows j d (omega (arith, less, inside))) less matching in
            parted all enters.slot sweep.slot (age_of top row) (age_of top other) enters.inside (omega (arith, below, begins_before)) (omega (arith, old, begins_before))))));
        few = let none = enters.none in omega (arith, none);
        behind = λ j r at_j less matching. let old = sweep.behind j r at_j less matching in omega (arith, old, below, begins_after, edges.0);
        ahead = λ j r at_j far matching within. let fall = ages_fall top rows i j row r ascend at at_j far in omega (arith, fall, edges.1);
      }

  pub come : (i : ℕ) (row : GridRow) (before after : Place) → IsAscending rows → slice_get rows i ≡ Some row
      → Moves intervals before (age_of top row) after → Sweeps intervals top rows i before → Sweeps intervals top rows i after × (after.begin ≤ age_of top row)
  come i row before after ascend at (inl stays) sweep = (subst (Sweeps intervals top rows i) (sym stays.1) sweep, subst (λ (p : Place). p.begin ≤ age_of top row) (sym stays.1) stays.0)
  come i row before after ascend at (inr moves) sweep =
      let edges = edges_of (slots intervals) (age_of top row) moves.1.slot moves.1.inside in
      let begins = moves.1.stands.begins in
      (entered i row before after ascend at moves.0 moves.1 sweep, omega (arith, edges.0, begins))

  -- the slot where the sweep stands decides the row
  pub kept : (i : ℕ) (row : GridRow) (place : Place) → IsAscending rows → IsTop top rows → slice_get rows i ≡ Some row → row.matches ≡ true → place.begin ≤ age_of top row
      → Sweeps intervals top rows i place → has_room place.keep place.older ≡ slots_keep (slots intervals) top rows i row
  unfolding slots_keep
  kept i row place ascend tops at matching begun_there sweep =
      let all = slots intervals in
      let begins = sweep.stands.begins in
      let older : ℕ → ℕ = λ slot. older_in all top rows slot i row in
      let decides : some_slot (λ slot s. lies_in all (age_of top row) slot && has_room s.keep (older slot)) all ≡ has_room (keep_at all sweep.slot) (older sweep.slot) =
      decided all older (age_of top row) sweep.slot (omega (arith, begun_there, begins)) (λ within. sweep.ahead i row at (omega arith) matching within) in
      let room : has_room (keep_at all sweep.slot) place.older ≡ has_room (keep_at all sweep.slot) (older sweep.slot) = ⊎_elim
      (λ within. ap (has_room (keep_at all sweep.slot)) (sweep.counted within ∙ sym (older_ascending all top rows sweep.slot i row ascend tops at matching)))
      (λ past. no_room all sweep.slot place.older (older sweep.slot) past)
      (cases_lt sweep.slot (length all)) in
      rw matching (ap (λ (k : Keep). has_room k place.older) sweep.stands.keeps ∙ room ∙ sym decides)

  -- the row is counted
  pub counted : (i : ℕ) (row : GridRow) (place : Place) → slice_get rows i ≡ Some row → row.matches ≡ true → place.begin ≤ age_of top row
      → Sweeps intervals top rows i place → Sweeps intervals top rows (i + 1) (record place { older = place.older + 1 })
  counted i row place at matching begun_there sweep =
      let all = slots intervals in
      let inside : i < length rows = slice_get_within rows i row at in
      let begins = sweep.stands.begins in
      record {
        slot = sweep.slot;
        stands = record { reached = sweep.stands.reached; within = sweep.stands.within; begins = sweep.stands.begins; keeps = sweep.stands.keeps };
        counted = λ within.
            let here : is_in all top sweep.slot (get_or rows i row) ≡ true = rw (get_or_from_slice_get rows i row row at)
            (and_from row.matches _ matching (lies_between all (age_of top row) sweep.slot (omega (arith, begun_there, begins)) (sweep.ahead i row at (omega arith) matching within))) in
            ap (λ (n : ℕ). n + 1) (sweep.counted within) ∙ sym (count_by_more_yes (is_in all top sweep.slot) rows i row inside here);
        few = let few = sweep.few in omega (arith, few);
        behind = λ j r at_j less matching_j. ⊎_elim
            (λ same. let equal : r ≡ row = same_Some r row (sym at_j ∙ subst (λ (n : ℕ). slice_get rows n ≡ Some row) (sym same) at) in subst (λ (x : GridRow). place.begin ≤ age_of top x) (sym equal) begun_there)
            (λ apart. sweep.behind j r at_j (omega arith) matching_j)
            (cases_eq j i);
        ahead = λ j r at_j far matching_j within. sweep.ahead j r at_j (omega arith) matching_j within;
      }
