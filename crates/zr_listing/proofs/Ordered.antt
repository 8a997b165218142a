use Rattle.std.proofs.Common.{◌≡◌, ℕ, zero, suc, ◌==◌, ◌&&◌, ◌||◌, nat_lt, Bool, true, false, List, [], ◌∷◌, refl, arith, ap, ◌∙◌, sym, subst, ◌⊎◌, inl, inr, AllPairs, Contains, IsPermutation}
use Rattle.std.proofs.lemmas.List.Sorted.{IsPermutation-sym, IsPermutation-trans, Contains-permutation}
use Rattle.std.specs.Cmp.Lexicographic.{slice_cmp, nat_list_cmp_total}
use Rattle.std.specs.Ordering.{nat_cmp, is_lt, ordering_reverse}
use Rattle.std.specs.declared.cmp.Ordering.{Ordering}
use Rattle.std.specs.declared.cmp.Ordering.TheVariants.{Less, Equal, Greater}
use Rattle.std.proofs.lemmas.Bool.Decides.{nat_tests}
use Rattle.zr_command.specs.Names.{is_below, name_is_below}
use Rattle.zr_command.specs.Listings.{stands_before, IsVersionList}
use Rattle.zr_command.specs.declared.version.VersionName.{VersionName}
use Rattle.zr_command.specs.declared.version.VersionName.TheVariants.{Snap, Mark}
use Rattle.zr_command.specs.declared.version.VersionRow.{VersionRow}

-- an element of a list is the first or one of the others
first-or-rest : {X : Type 0} (x z : X) (xs : List X) → Contains (x ∷ xs) z → (x ≡ z) ⊎ Contains xs z
first-or-rest x z xs (zero, inside, at) = inl at
first-or-rest x z xs (suc k, inside, at) = inr (k, omega arith, at)

in-rest : {X : Type 0} (x z : X) (xs : List X) → Contains xs z → Contains (x ∷ xs) z
in-rest x z xs (k, inside, at) = (suc k, omega arith, at)

at-front : {X : Type 0} (x : X) (xs : List X) → Contains (x ∷ xs) x
at-front x xs = (zero, omega arith, refl)

-- the first of a list in order stands before each of the others
before-rest : {X : Type 0} (before : X → X → Type 0) (x z : X) (xs : List X) → AllPairs before (x ∷ xs) → Contains xs z → before x z
before-rest before x z xs ordered (k, inside, at) =
    subst (before x) at (ordered 0 (suc k) z (omega arith) (omega arith))

ordered-rest : {X : Type 0} (before : X → X → Type 0) (x : X) (xs : List X) → AllPairs before (x ∷ xs) → AllPairs before xs
ordered-rest before x xs ordered = λ i j d less inside. ordered (suc i) (suc j) d (omega arith) (omega arith)

heads-same : {X : Type 0} (before : X → X → Type 0) (one_way : (a b : X) → before a b → before b a → ⊥) (x y : X) (xs ys : List X) → AllPairs before (x ∷ xs) → AllPairs before (y ∷ ys) → Contains (y ∷ ys) x → Contains (x ∷ xs) y → x ≡ y
heads-same before one_way x y xs ys p q in_ys in_xs =
    elim (first-or-rest y x ys in_ys) [
      | inl same ↦ sym same
      | inr later ↦ elim (first-or-rest x y xs in_xs) [
        | inl same ↦ same
        | inr after ↦ absurd (one_way x y (before-rest before x y xs p after) (before-rest before y x ys q later))
      ]
    ]

-- two lists in one order with the same elements are one
pub ordered-one : {X : Type 0} (before : X → X → Type 0) (one_way : (a b : X) → before a b → before b a → ⊥) (xs ys : List X) → AllPairs before xs → AllPairs before ys → ((z : X) → Contains xs z → Contains ys z) → ((z : X) → Contains ys z → Contains xs z) → xs ≡ ys
ordered-one before one_way [] [] p q there back = refl
ordered-one before one_way [] (y ∷ ys) p q there back = absurd (let has = back y (at-front y ys) in omega (arith, has.1))
ordered-one before one_way (x ∷ xs) [] p q there back = absurd (let has = there x (at-front x xs) in omega (arith, has.1))
ordered-one {X} before one_way (x ∷ xs) (y ∷ ys) p q there back =
    let same : x ≡ y = heads-same before one_way x y xs ys p q (there x (at-front x xs)) (back y (at-front y ys)) in
    let forth : (z : X) → Contains xs z → Contains ys z = λ z has.
    elim (first-or-rest y z ys (there z (in-rest x z xs has))) [
      | inl first ↦ absurd (let itself : before x x = subst (before x) (sym (same ∙ first)) (before-rest before x z xs p has) in one_way x x itself itself)
      | inr rest ↦ rest
    ] in
    let again : (z : X) → Contains ys z → Contains xs z = λ z has.
    elim (first-or-rest x z xs (back z (in-rest y z ys has))) [
      | inl first ↦ absurd (let itself : before y y = subst (before y) (sym (sym same ∙ first)) (before-rest before y z ys q has) in one_way y y itself itself)
      | inr rest ↦ rest
    ] in
    let rest = ordered-one before one_way xs ys (ordered-rest before x xs p) (ordered-rest before y ys q) forth again in
    cc

less-one_way : (o : Ordering) → is_lt o ≡ true → is_lt (ordering_reverse o) ≡ true → ⊥
less-one_way Less p q = cc
less-one_way Equal p q = cc
less-one_way Greater p q = cc

below-one_way : (x y : List ℕ) → is_below x y ≡ true → is_below y x ≡ true → ⊥
below-one_way x y p q =
    less-one_way (slice_cmp nat_cmp x y) p (ap is_lt (sym (nat_list_cmp_total.antisymm y x)) ∙ q)

name-one_way : (a b : VersionName) → name_is_below a b ≡ true → name_is_below b a ≡ true → ⊥
name-one_way (Snap x) (Snap y) p q = below-one_way x y p q
name-one_way (Snap x) (Mark y) p q = cc
name-one_way (Mark x) (Snap y) p q = cc
name-one_way (Mark x) (Mark y) p q = below-one_way x y p q

both-below : (m n : ℕ) (b c : Bool) → (nat_lt m n || ((m == n) && b)) ≡ true → (nat_lt n m || ((n == m) && c)) ≡ true → (b ≡ true) × (c ≡ true)
both-below m n true true p q = (refl, refl)
both-below m n true false p q = absurd (grind (arith, nat_tests))
both-below m n false c p q = absurd (grind (arith, nat_tests))

-- of two rows one stands before the other at most
stands-one_way : (a b : VersionRow) → stands_before a.txg a.name b.txg b.name ≡ true → stands_before b.txg b.name a.txg a.name ≡ true → ⊥
stands-one_way a b p q =
    let both = both-below a.txg b.txg (name_is_below a.name b.name) (name_is_below b.name a.name) p q in
    name-one_way a.name b.name both.0 both.1

-- one list has the rows of another in order
pub version-list-one : (listed xs ys : List VersionRow) → IsPermutation listed xs → IsPermutation listed ys → IsVersionList xs → IsVersionList ys → xs ≡ ys
version-list-one listed xs ys p q one other =
    let forth = IsPermutation-trans xs listed ys (IsPermutation-sym listed xs p) q in
    let back = IsPermutation-trans ys listed xs (IsPermutation-sym listed ys q) p in
    ordered-one (λ a b. stands_before a.txg a.name b.txg b.name ≡ true) stands-one_way xs ys one.in_order other.in_order
    (λ z has. Contains-permutation xs ys z forth has) (λ z has. Contains-permutation ys xs z back has)
