-- Two paths joined by `/` are a path, and so is an identity.
use Rattle.std.proofs.Common.{◌≡◌, ◌≢◌, ℕ, zero, suc, ◌+◌, ◌-◌, ◌<◌, ◌≤◌, ◌==◌, ◌&&◌, ◌||◌, ◌⊎◌, inl, inr, Bool, true, false, not, cond, nat_le, List, [], ◌∷◌, length, get_or, refl, sym, ap, ◌∙◌, subst, arith, length-append}
use Rattle.std.proofs.Math.Seq.{get_or-append_seam}
use Rattle.std.proofs.lemmas.Bool.{cases_order, false_from_ne_true}
use Rattle.std.proofs.lemmas.Bool.Decides.{Decides-eqb, leb_tells}
use Rattle.std.proofs.lemmas.List.{get_or_append_left, get_or-append-add}
use Rattle.zr_names.specs.Names.{IsName, begins_component, ends_component, is_dots, is_name_byte, path_is_bad}
use Rattle.zr_names.specs.declared.names.TheConstants.{JOB_LIMIT}
use Rattle.zr_jobs.specs.Identities.{IsIdentity, is_dot_name}
use Rattle.zr_jobs.specs.Targets.{joined}

-- tests of numbers
test_true : (m n : ℕ) → m ≡ n → (m == n) ≡ true
test_true m n same = (Decides-eqb m n).1 same

test_false : (m n : ℕ) → m ≢ n → (m == n) ≡ false
test_false m n differ = false_from_ne_true (m == n) (λ e. differ ((Decides-eqb m n).0 e))

same_le : (m n p q : ℕ) → (m ≤ n → p ≤ q) → (p ≤ q → m ≤ n) → nat_le m n ≡ nat_le p q
same_le m n p q to back =
    elim (leb_tells m n) [
      | inl le ↦
          elim (leb_tells p q) [
            | inl also ↦ le.0 ∙ sym also.0
            | inr gt ↦ absurd (omega (arith, to le.1, gt.1))
          ]
      | inr gt ↦
          elim (leb_tells p q) [
            | inl le ↦ absurd (omega (arith, back le.1, gt.1))
            | inr also ↦ gt.0 ∙ sym also.0
          ]
    ]

same_test : (m n p q : ℕ) → (m ≡ n → p ≡ q) → (p ≡ q → m ≡ n) → (m == n) ≡ (p == q)
same_test m n p q to back = choose (p == q) refl where
  choose : (b : Bool) → (p == q) ≡ b → (m == n) ≡ b
  choose true e = test_true m n (back ((Decides-eqb p q).0 e))
  choose false e = test_false m n (λ same. let also = test_true p q (to same) in cc)

-- what is bad of a place, by its byte, whether a component begins there, whether dots stand there, and whether the text ends
abbrev bad_at : ℕ → Bool → Bool → Bool → Bool
bad_at byte begins dots ends = cond (byte == 47) (begins || ends) (not (is_name_byte byte) || (begins && dots))

same_bad : (byte byte2 : ℕ) (begins begins2 dots dots2 ends ends2 : Bool) → byte ≡ byte2 → begins ≡ begins2 → dots ≡ dots2 → ends ≡ ends2 → bad_at byte begins dots ends ≡ bad_at byte2 begins2 dots2 ends2
same_bad byte byte2 begins begins2 dots dots2 ends ends2 p q r s =
    ap (λ k. bad_at k begins dots ends) p ∙ ap (λ k. bad_at byte2 k dots ends) q ∙ ap (λ k. bad_at byte2 begins2 k ends) r ∙ ap (λ k. bad_at byte2 begins2 dots2 k) s

-- fewer dots and no end are no worse
less_bad : (byte : ℕ) (begins dots fewer ends : Bool) → (fewer ≡ true → dots ≡ true) → bad_at byte begins dots ends ≡ false → bad_at byte begins fewer false ≡ false
less_bad byte begins dots fewer ends kept good = at (byte == 47) (not (is_name_byte byte)) begins dots fewer ends kept good where
  at : (slash unnamed begins dots fewer ends : Bool) → (fewer ≡ true → dots ≡ true) → cond slash (begins || ends) (unnamed || (begins && dots)) ≡ false → cond slash (begins || false) (unnamed || (begins && fewer)) ≡ false
  at true unnamed true dots fewer ends kept good = cc
  at true unnamed false dots fewer ends kept good = refl
  at false true begins dots fewer ends kept good = cc
  at false false false dots fewer ends kept good = refl
  at false false true dots false ends kept good = refl
  at false false true dots true ends kept good = let was = kept refl in cc

-- at the end of a path there is no `/`
no_slash_at_end : (byte : ℕ) (begins dots ends : Bool) → ends ≡ true → bad_at byte begins dots ends ≡ false → (byte == 47) ≡ false
no_slash_at_end byte begins dots ends is good = at (byte == 47) (not (is_name_byte byte)) begins dots ends is good where
  at : (slash unnamed begins dots ends : Bool) → ends ≡ true → cond slash (begins || ends) (unnamed || (begins && dots)) ≡ false → slash ≡ false
  at false unnamed begins dots ends is good = refl
  at true unnamed true dots ends is good = cc
  at true unnamed false dots ends is good = cc

and_parts : (a b : Bool) → (a && b) ≡ true → (a ≡ true) × (b ≡ true)
and_parts true true e = (refl, refl)
and_parts true false e = cc
and_parts false b e = cc

or_cases : (a b : Bool) → (a || b) ≡ true → (a ≡ true) ⊎ (b ≡ true)
or_cases true b e = inl refl
or_cases false b e = inr e

or_left : (a b : Bool) → a ≡ true → (a || b) ≡ true
or_left true b e = refl
or_left false b e = cc

or_right : (a b : Bool) → b ≡ true → (a || b) ≡ true
or_right true b e = refl
or_right false b e = e

and_both : (a b : Bool) → a ≡ true → b ≡ true → (a && b) ≡ true
and_both true b p q = q
and_both false b p q = cc

-- behind another byte a component begins where that is a `/`
begins_after : (text : List ℕ) (place q : ℕ) → place ≡ suc q → begins_component text place ≡ (get_or text q 0 == 47)
begins_after text place q is =
    ap (begins_component text) is
    ∙ ap (λ t. t || (get_or text (suc q - 1) 0 == 47)) (test_false (suc q) 0 (λ e. omega (arith, e)))
    ∙ ap (λ k. get_or text k 0 == 47) (omega arith)

-- The first part.

in_first : (a b : List ℕ) (place : ℕ) → place < length a → get_or (joined a b) place 0 ≡ get_or a place 0
in_first a b place inside = get_or_append_left a (47 ∷ b) 0 place inside

begins_first : (a b : List ℕ) (place : ℕ) → place < length a → begins_component (joined a b) place ≡ begins_component a place
begins_first a b zero inside = refl
begins_first a b (suc q) inside =
    begins_after (joined a b) (suc q) q refl ∙ ap (λ k. k == 47) (in_first a b q (omega (arith, inside))) ∙ sym (begins_after a (suc q) q refl)

ends_first : (a b : List ℕ) (place : ℕ) → ends_component (joined a b) place ≡ true → ends_component a place ≡ true
ends_first a b place ends =
    elim (leb_tells (length a) place) [
      | inl past ↦ or_left (nat_le (length a) place) (get_or a place 0 == 47) past.0
      | inr inside ↦
          elim (or_cases (nat_le (length (joined a b)) place) (get_or (joined a b) place 0 == 47) ends) [
            | inl over ↦
                elim (leb_tells (length (joined a b)) place) [
                  | inl le ↦ absurd (omega (arith, le.1, inside.1, length-append a (47 ∷ b)))
                  | inr gt ↦ let e : true ≡ false = sym over ∙ gt.0 in cc
                ]
            | inr slash ↦ or_right (nat_le (length a) place) (get_or a place 0 == 47) (ap (λ k. k == 47) (sym (in_first a b place inside.1)) ∙ slash)
          ]
    ]

dots_first : (a b : List ℕ) (place : ℕ) → place < length a → is_dots (joined a b) place ≡ true → is_dots a place ≡ true
dots_first a b place inside dots =
    let text = joined a b in
    let parts = and_parts (get_or text place 0 == 46) (ends_component text (place + 1) || ((get_or text (place + 1) 0 == 46) && ends_component text (place + 2))) dots in
    let dot : (get_or a place 0 == 46) ≡ true = ap (λ k. k == 46) (sym (in_first a b place inside)) ∙ parts.0 in
    let one = ends_component a (place + 1) in
    let two = (get_or a (place + 1) 0 == 46) && ends_component a (place + 2) in
    and_both (get_or a place 0 == 46) (one || two) dot (
    elim (or_cases (ends_component text (place + 1)) ((get_or text (place + 1) 0 == 46) && ends_component text (place + 2)) parts.1) [
      | inl ends ↦ or_left one two (ends_first a b (place + 1) ends)
      | inr more ↦
          let second = and_parts (get_or text (place + 1) 0 == 46) (ends_component text (place + 2)) more in
          elim (leb_tells (length a) (place + 1)) [
            | inl past ↦ or_left one two (or_left (nat_le (length a) (place + 1)) (get_or a (place + 1) 0 == 47) past.0)
            | inr further ↦
                let again : (get_or a (place + 1) 0 == 46) ≡ true = ap (λ k. k == 46) (sym (in_first a b (place + 1) further.1)) ∙ second.0 in
                or_right one two (and_both (get_or a (place + 1) 0 == 46) (ends_component a (place + 2)) again (ends_first a b (place + 2) second.1))
          ]
    ])

good_first : (limit : ℕ) (a b : List ℕ) → IsName path_is_bad limit a → (place : ℕ) → place < length a → path_is_bad (joined a b) place ≡ false
good_first limit a b is place inside =
    let text = joined a b in
    let dots = is_dots text place in
    let ends = test_false (length text) (place + 1) (λ same. omega (arith, same, inside, length-append a (47 ∷ b))) in
    same_bad (get_or text place 0) (get_or a place 0) (begins_component text place) (begins_component a place) dots dots (length text == place + 1) false (in_first a b place inside) (begins_first a b place inside) refl ends
    ∙ less_bad (get_or a place 0) (begins_component a place) (is_dots a place) dots (length a == place + 1) (dots_first a b place inside) (is.no_place_bad place inside)

-- The `/`.

good_between : (limit : ℕ) (a b : List ℕ) → IsName path_is_bad limit a → 0 < length b → (place : ℕ) → place ≡ length a → path_is_bad (joined a b) place ≡ false
good_between limit a b is some place at_end =
    let text = joined a b in
    let last = length a - 1 in
    let inside : last < length a = omega (arith, is.not_empty) in
    let follows : place ≡ suc last = omega (arith, at_end, is.not_empty) in
    let good = no_slash_at_end (get_or a last 0) (begins_component a last) (is_dots a last) (length a == last + 1) (test_true (length a) (last + 1) (omega (arith, is.not_empty))) (is.no_place_bad last inside) in
    let begins : begins_component text place ≡ false = begins_after text place last follows ∙ ap (λ k. k == 47) (in_first a b last inside) ∙ good in
    let ends = test_false (length text) (place + 1) (λ same. omega (arith, same, at_end, some, length-append a (47 ∷ b))) in
    let byte : get_or text place 0 ≡ 47 = ap (λ k. get_or text k 0) at_end ∙ get_or-append_seam a 47 b 0 in
    same_bad (get_or text place 0) 47 (begins_component text place) false (is_dots text place) (is_dots text place) (length text == place + 1) false byte begins refl ends

-- The second part.

in_second : (a b : List ℕ) (place q : ℕ) → place ≡ length a + suc q → get_or (joined a b) place 0 ≡ get_or b q 0
in_second a b place q is = ap (λ k. get_or (joined a b) k 0) is ∙ get_or-append-add a (47 ∷ b) (suc q) 0

begins_second : (a b : List ℕ) (place q : ℕ) → place ≡ length a + suc q → begins_component (joined a b) place ≡ begins_component b q
begins_second a b place zero is =
    begins_after (joined a b) place (length a) (omega (arith, is)) ∙ ap (λ k. k == 47) (get_or-append_seam a 47 b 0)
begins_second a b place (suc j) is =
    begins_after (joined a b) place (length a + suc j) (omega (arith, is)) ∙ ap (λ k. k == 47) (in_second a b (length a + suc j) j refl) ∙ sym (begins_after b (suc j) j refl)

ends_second : (a b : List ℕ) (place q : ℕ) → place ≡ length a + suc q → ends_component (joined a b) place ≡ ends_component b q
ends_second a b place q is =
    let text = joined a b in
    let long = length-append a (47 ∷ b) in
    ap (λ t. t || (get_or text place 0 == 47)) (same_le (length text) place (length b) q (λ h. omega (arith, h, is, long)) (λ h. omega (arith, h, is, long)))
    ∙ ap (λ k. nat_le (length b) q || (k == 47)) (in_second a b place q is)

dots_second : (a b : List ℕ) (place q : ℕ) → place ≡ length a + suc q → is_dots (joined a b) place ≡ is_dots b q
dots_second a b place q is =
    let text = joined a b in
    let one : place + 1 ≡ length a + suc (q + 1) = omega (arith, is) in
    let two : place + 2 ≡ length a + suc (q + 2) = omega (arith, is) in
    ap (λ k. (k == 46) && (ends_component text (place + 1) || ((get_or text (place + 1) 0 == 46) && ends_component text (place + 2)))) (in_second a b place q is)
    ∙ ap (λ e. (get_or b q 0 == 46) && (e || ((get_or text (place + 1) 0 == 46) && ends_component text (place + 2)))) (ends_second a b (place + 1) (q + 1) one)
    ∙ ap (λ k. (get_or b q 0 == 46) && (ends_component b (q + 1) || ((k == 46) && ends_component text (place + 2)))) (in_second a b (place + 1) (q + 1) one)
    ∙ ap (λ e. (get_or b q 0 == 46) && (ends_component b (q + 1) || ((get_or b (q + 1) 0 == 46) && e))) (ends_second a b (place + 2) (q + 2) two)

good_second : (limit : ℕ) (a b : List ℕ) → IsName path_is_bad limit b → (place q : ℕ) → place ≡ length a + suc q → q < length b → path_is_bad (joined a b) place ≡ false
good_second limit a b is place q at inside =
    let text = joined a b in
    let long = length-append a (47 ∷ b) in
    let ends = same_test (length text) (place + 1) (length b) (q + 1) (λ same. omega (arith, same, at, long)) (λ same. omega (arith, same, at, long)) in
    same_bad (get_or text place 0) (get_or b q 0) (begins_component text place) (begins_component b q) (is_dots text place) (is_dots b q) (length text == place + 1) (length b == q + 1) (in_second a b place q at) (begins_second a b place q at) (dots_second a b place q at) ends
    ∙ is.no_place_bad q inside

-- two paths joined by `/` are a path
pub joined_is_path : (m n : ℕ) (a b : List ℕ) → IsName path_is_bad m a → IsName path_is_bad n b → IsName path_is_bad (m + suc n) (joined a b)
joined_is_path m n a b is_a is_b =
    let long = length-append a (47 ∷ b) in
    record {
      not_empty = omega (arith, long);
      not_long = omega (arith, long, is_a.not_long, is_b.not_long);
      no_place_bad = λ place inside.
          elim (cases_order place (length a)) [
            | inl at_end ↦ good_between m a b is_a is_b.not_empty place at_end
            | inr (inl before) ↦ good_first m a b is_a place before
            | inr (inr behind) ↦ good_second n a b is_b place (place - length a - 1) (omega (arith, behind)) (omega (arith, behind, inside, long))
          ];
    }

-- Identities.

name_byte_no_slash : (byte : ℕ) → not (is_name_byte byte) ≡ false → byte ≢ 47
name_byte_no_slash byte named = λ is. let never : not (is_name_byte 47) ≡ false = subst (λ k. not (is_name_byte k) ≡ false) is named in cc

-- without a `/`, dots from the front are the whole text
dots_are_all : (text : List ℕ) → ((place : ℕ) → place < length text → get_or text place 0 ≢ 47) → is_dots text 0 ≡ true → is_dot_name text ≡ true
dots_are_all [] no_slash dots = cc
dots_are_all (x ∷ []) no_slash dots =
    let first : x ≡ 46 = (Decides-eqb x 46).0 (and_parts (x == 46) true dots).0 in
    ap (λ k. is_dot_name (k ∷ [])) first
dots_are_all (x ∷ y ∷ []) no_slash dots =
    let parts = and_parts (x == 46) ((y == 47) || ((y == 46) && true)) dots in
    let first : x ≡ 46 = (Decides-eqb x 46).0 parts.0 in
    elim (or_cases (y == 47) ((y == 46) && true) parts.1) [
      | inl slash ↦ absurd (no_slash 1 (omega arith) ((Decides-eqb y 47).0 slash))
      | inr dot ↦
          let second : y ≡ 46 = (Decides-eqb y 46).0 (and_parts (y == 46) true dot).0 in
          ap (λ k. is_dot_name (k ∷ y ∷ [])) first ∙ ap (λ k. is_dot_name (46 ∷ k ∷ [])) second
    ]
dots_are_all (x ∷ y ∷ z ∷ rest) no_slash dots =
    let text = x ∷ y ∷ z ∷ rest in
    let parts = and_parts (x == 46) (ends_component text 1 || ((y == 46) && ends_component text 2)) dots in
    absurd (
    elim (or_cases (ends_component text 1) ((y == 46) && ends_component text 2) parts.1) [
      | inl ends ↦ open_at 1 (omega arith) ends
      | inr more ↦ open_at 2 (omega arith) (and_parts (y == 46) (ends_component text 2) more).1
    ]) where
      open_at : (place : ℕ) → place < length (x ∷ y ∷ z ∷ rest) → ends_component (x ∷ y ∷ z ∷ rest) place ≡ true → ⊥
      open_at place inside ends =
          let text = x ∷ y ∷ z ∷ rest in
          elim (or_cases (nat_le (length text) place) (get_or text place 0 == 47) ends) [
            | inl over ↦
                elim (leb_tells (length text) place) [
                  | inl le ↦ omega (arith, le.1, inside)
                  | inr gt ↦ let e : true ≡ false = sym over ∙ gt.0 in cc
                ]
            | inr slash ↦ no_slash place inside ((Decides-eqb (get_or text place 0) 47).0 slash)
          ]

-- a name byte is good where no dots begin
good_name_byte : (byte : ℕ) (begins dots ends : Bool) → not (is_name_byte byte) ≡ false → (begins && dots) ≡ false → bad_at byte begins dots ends ≡ false
good_name_byte byte begins dots ends named none =
    ap (λ t. cond t (begins || ends) (not (is_name_byte byte) || (begins && dots))) (test_false byte 47 (name_byte_no_slash byte named))
    ∙ ap (λ t. t || (begins && dots)) named ∙ none

-- an identity is a path of one component
pub identity_is_path : (text : List ℕ) → IsIdentity text → IsName path_is_bad JOB_LIMIT text
identity_is_path text is = record {
  not_empty = is.name.not_empty;
  not_long = is.name.not_long;
  no_place_bad = λ place inside. good_name_byte (get_or text place 0) (begins_component text place) (is_dots text place) (length text == place + 1) (is.name.no_place_bad place inside) (none place inside);
} where
  no_slash : (place : ℕ) → place < length text → get_or text place 0 ≢ 47
  no_slash place inside = name_byte_no_slash (get_or text place 0) (is.name.no_place_bad place inside)

  none : (place : ℕ) → place < length text → (begins_component text place && is_dots text place) ≡ false
  none zero inside = false_from_ne_true (is_dots text 0) (λ dots. let e : true ≡ false = sym (dots_are_all text no_slash dots) ∙ is.no_dots in cc)
  none (suc q) inside = ap (λ t. t && is_dots text (suc q)) (begins_after text (suc q) q refl ∙ test_false (get_or text q 0) 47 (no_slash q (omega (arith, inside))))
