-- The newest matching rows of a list that ascends, as a loop from its end flags them.
use Rattle.std.proofs.Common.{◌≡◌, ℕ, ◌+◌, ◌-◌, ◌<◌, ◌≤◌, Bool, true, false, cond, ◌||◌, ◌&&◌, ◌==◌, nat_lt, nat_le, List, length, get_or, set, take, drop, Some, count_by, refl, sym, ap, subst, ◌∙◌, ⊎_elim, ◌⊎◌, inl, inr, arith}
use Rattle.std.specs.Prelude.{slice_get}
use Rattle.std.proofs.lemmas.Bool.{cases_eq, lt-ltb, le-ltb, and_left, and_right}
use Rattle.std.proofs.lemmas.Bool.Decides.{nat_tests}
use Rattle.std.proofs.lemmas.List.{get_or-take, get_or-drop, get_or-set_same, get_or-set_other, length-take, length-drop, length-set, drop_all}
use Rattle.std.proofs.lemmas.List.Sums.{sum_by-take-drop, sum_by-drop_more}
use Rattle.std.proofs.lemmas.Option.{slice_get-get_or, slice_get_within, get_or_from_slice_get}
use Rattle.zr_grid.specs.declared.kept.GridRow.{GridRow}
use Rattle.zr_grid.specs.Kept.{comes_before, IsAscending}
use Rattle.zr_grid.proofs.Sweeps.{count_none, pair_before}
use Rattle.zr_rules.specs.Keeps.{is_newer, is_as_old, newer_than, is_of_newest}
use Rattle.zr_rules.proofs.Marked.{or-yes, or-no}
use Rattle.zr_rules.proofs.Ranks.{both-count}

before-itself : (c t : ℕ) → (nat_lt c c || (c == c && nat_le t t)) ≡ true
before-itself c t = grind (arith, nat_tests)

not-newer : (oc ot rc rt : ℕ) → (nat_lt oc rc || (oc == rc && nat_le ot rt)) ≡ true → (nat_lt rc oc || (oc == rc && nat_lt rt ot)) ≡ false
not-newer oc ot rc rt h = grind (arith, nat_tests)

one-of-both : (m : Bool) (oc ot rc rt : ℕ) → (nat_lt rc oc || (rc == oc && nat_le rt ot)) ≡ true
    → cond (m && (nat_lt rc oc || (oc == rc && nat_lt rt ot))) 1 0 + cond (m && (oc == rc && ot == rt)) 1 0 ≡ cond m 1 0
one-of-both false oc ot rc rt h = refl
one-of-both true oc ot rc rt h = grind (arith, nat_tests)

bit : (b : Bool) → cond b 1 0 ≤ 1
bit true = omega arith
bit false = omega arith

none-left : (m : Bool) (left : ℕ) → (nat_lt 0 left && m) ≡ false → (left ≡ 0) ⊎ (m ≡ false)
none-left false left h = inr refl
none-left true left h = inl (grind (arith, nat_tests))

-- how many of the rows behind a place match
abbrev pub behind : List GridRow → ℕ → ℕ
behind rows i = count_by (λ row. row.matches) (drop i rows)

-- of rows that ascend, those behind a row are the newer ones
newer-behind : (rows : List GridRow) (i : ℕ) (row : GridRow) → IsAscending rows → slice_get rows i ≡ Some row → newer_than rows i row ≡ behind rows (i + 1)
newer-behind rows i row ascend at =
    let f : GridRow → Bool = λ other. other.matches && is_newer other row in
    let g : GridRow → Bool = λ other. other.matches && is_as_old other row in
    let inside : i < length rows = slice_get_within rows i row at in
    let front : count_by f (take (i + 1) rows) ≡ 0 = count_none f (take (i + 1) rows) (λ j d within.
    let low : j < i + 1 = (let long = length-take (i + 1) rows in omega (arith, long, within)) in
    let other : GridRow = get_or rows j d in
    let there : slice_get rows j ≡ Some other = slice_get-get_or rows j d (omega (arith, low, inside)) in
    let before : comes_before other row ≡ true = ⊎_elim
    (λ same. let equal : other ≡ row = ap (λ n. get_or rows n d) same ∙ get_or_from_slice_get rows i row d at in subst (λ (o : GridRow). comes_before o row ≡ true) (sym equal) (before-itself row.creation row.txg))
    (λ apart. pair_before rows j i other row ascend there at (omega arith))
    (cases_eq j i) in
    rw (get_or-take (i + 1) rows j d low) (and_right other.matches (is_newer other row) (not-newer other.creation other.txg row.creation row.txg before))) in
    let back : count_by f (drop (i + 1) rows) + count_by g (drop (i + 1) rows) ≡ behind rows (i + 1) = both-count f g (λ r. r.matches) (drop (i + 1) rows) (λ j d within.
    let there : i + 1 + j < length rows = (let long = length-drop (i + 1) rows in omega (arith, long, within)) in
    let other : GridRow = get_or rows (i + 1 + j) d in
    let after : comes_before row other ≡ true = pair_before rows i (i + 1 + j) row other ascend at (slice_get-get_or rows (i + 1 + j) d there) (omega arith) in
    rw (get_or-drop (i + 1) rows j d) (one-of-both other.matches other.creation other.txg row.creation row.txg after)) in
    let parts = sum_by-take-drop (λ (r : GridRow). cond (f r) 1 0) rows (i + 1) in
    omega (arith, front, back, parts)

behind-more : (rows : List GridRow) (i : ℕ) (d : GridRow) → i < length rows → behind rows i ≡ cond (get_or rows i d).matches 1 0 + behind rows (i + 1)
behind-more rows i d inside = sum_by-drop_more (λ (r : GridRow). cond r.matches 1 0) rows i d inside

-- the rows from this place on are flagged, and so many more are to be
pub record FlagsFrom (count : ℕ) (rows : List GridRow) (place left : ℕ) (before after : List Bool) : Type 0 where
  pub left_is : left ≡ count - behind rows place
  pub passed : (k : ℕ) (row : GridRow) → slice_get rows k ≡ Some row → place ≤ k → get_or after k false ≡ (get_or before k false || is_of_newest count rows k row)
  pub ahead : (k : ℕ) → k < place → get_or after k false ≡ get_or before k false
  pub as_long : length after ≡ length before

module _ (count : ℕ) (rows : List GridRow) (ascend : IsAscending rows) where
  pub flags-none : (flags : List Bool) (place : ℕ) → length rows ≤ place → FlagsFrom count rows place count flags flags
  flags-none flags place past = record {
    left_is = (let none : behind rows place ≡ 0 = ap (count_by (λ (r : GridRow). r.matches)) (drop_all place rows past) in omega (arith, none));
    passed = λ k row at from. let inside = slice_get_within rows k row at in absurd (omega (arith, inside, from, past));
    ahead = λ k low. refl;
    as_long = refl;
  }

  -- one more row from the end
  pub flags-yes : (place left : ℕ) (d : GridRow) (before after : List Bool) → place < length rows → length before ≡ length rows → (get_or rows place d).matches ≡ true → 0 < left
      → FlagsFrom count rows (place + 1) left before after → FlagsFrom count rows place (left - 1) before (set after place true)
  flags-yes place left d before after inside long matching some so_far =
      let more : behind rows place ≡ 1 + behind rows (place + 1) = behind-more rows place d inside ∙ ap (λ (b : Bool). cond b 1 0 + behind rows (place + 1)) matching in
      let left_is = so_far.left_is in
      let as_long = so_far.as_long in
      record {
        left_is = omega (arith, more, left_is, some);
        passed = λ k row at from. ⊎_elim
            (λ same.
            let here : slice_get rows place ≡ Some row = subst (λ (n : ℕ). slice_get rows n ≡ Some row) same at in
            let is_row : get_or rows place d ≡ row = get_or_from_slice_get rows place row d here in
            let newest : is_of_newest count rows place row ≡ true = rw (sym (ap (λ (r : GridRow). r.matches) is_row) ∙ matching, newer-behind rows place row ascend here) (lt-ltb (behind rows (place + 1)) count (omega (arith, left_is, some))) in
            rw (same, get_or-set_same after place true false (omega (arith, as_long, long, inside)), newest) (sym (or-yes (get_or before place false))))
            (λ apart. get_or-set_other after place k true false apart ∙ so_far.passed k row at (omega arith))
            (cases_eq k place);
        ahead = λ k low. get_or-set_other after place k true false (omega arith) ∙ so_far.ahead k (omega arith);
        as_long = length-set after place true ∙ as_long;
      }

  pub flags-no : (place left : ℕ) (d : GridRow) (before after : List Bool) → place < length rows → (nat_lt 0 left && (get_or rows place d).matches) ≡ false
      → FlagsFrom count rows (place + 1) left before after → FlagsFrom count rows place left before after
  flags-no place left d before after inside not_one so_far =
      let more = behind-more rows place d inside in
      let left_is = so_far.left_is in
      let cases = none-left (get_or rows place d).matches left not_one in
      record {
        left_is = ⊎_elim
            (λ full. let bound = bit (get_or rows place d).matches in omega (arith, more, left_is, full, bound))
            (λ other. let none : cond (get_or rows place d).matches 1 0 ≡ 0 = ap {B = ℕ} (λ (b : Bool). cond b 1 0) other in omega (arith, more, left_is, none))
            cases;
        passed = λ k row at from. ⊎_elim
            (λ same.
            let here : slice_get rows place ≡ Some row = subst (λ (n : ℕ). slice_get rows n ≡ Some row) same at in
            let is_row : get_or rows place d ≡ row = get_or_from_slice_get rows place row d here in
            let newest : is_of_newest count rows place row ≡ false = ⊎_elim
            (λ full. and_right row.matches _ (rw (newer-behind rows place row ascend here) (le-ltb (behind rows (place + 1)) count (omega (arith, left_is, full)))))
            (λ other. and_left row.matches _ (sym (ap (λ (r : GridRow). r.matches) is_row) ∙ other))
            cases in
            rw (same, newest, so_far.ahead place (omega arith)) (sym (or-no (get_or before place false))))
            (λ apart. so_far.passed k row at (omega arith))
            (cases_eq k place);
        ahead = λ k low. so_far.ahead k (omega arith);
        as_long = so_far.as_long;
      }
