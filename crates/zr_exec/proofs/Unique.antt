use Rattle.std.proofs.Common.{◌≡◌, ◌==◌, ◌&&◌, ◌||◌, ℕ, zero, suc, ◌<◌, Bool, true, false, nat_lt, List, [], ◌∷◌, All, AllPairs, Contains, IsPermutation, length, get_or, refl, arith, ◌∙◌, sym, subst, ◌⊎◌, inl, inr}
use Rattle.std.specs.Cmp.Lexicographic.{nat_list_cmp_total, slice_cmp}
use Rattle.std.specs.Ordering.{is_lt, nat_cmp, ordering_reverse}
use Rattle.std.specs.declared.cmp.Ordering.{Ordering}
use Rattle.std.specs.declared.cmp.Ordering.TheVariants.{Less, Equal, Greater}
use Rattle.std.proofs.lemmas.Bool.Decides.{nat_tests}
use Rattle.std.proofs.lemmas.List.Elements.{All-head, All-tail}
use Rattle.std.proofs.lemmas.List.Sorted.{Contains-permutation, IsPermutation-sym}
use Rattle.zr_base.proofs.Lists.{AllPairs-head, AllPairs-tail}
use Rattle.zr_command.specs.Names.{is_below, name_is_below}
use Rattle.zr_command.specs.Listings.{stands_before}
use Rattle.zr_command.specs.declared.version.VersionName.{VersionName}
use Rattle.zr_command.specs.declared.version.VersionName.TheVariants.{Snap, Mark}
use Rattle.zr_command.specs.declared.version.VersionRow.{VersionRow}
use Rattle.zr_exec.proofs.Names.{and-both}

both-ways : (o back : Ordering) → back ≡ ordering_reverse o → is_lt o ≡ true → is_lt back ≡ true → ⊥
both-ways Less back e one other = cc
both-ways Equal back e one other = cc
both-ways Greater back e one other = cc

below-once : (a b : List ℕ) → is_below a b ≡ true → is_below b a ≡ true → ⊥
below-once a b one other = both-ways (slice_cmp nat_cmp a b) (slice_cmp nat_cmp b a) (nat_list_cmp_total.antisymm b a) one other

name-once : (a b : VersionName) → name_is_below a b ≡ true → name_is_below b a ≡ true → ⊥
name-once (Snap a) (Snap b) one other = below-once a b one other
name-once (Snap a) (Mark b) one other = cc
name-once (Mark a) (Snap b) one other = cc
name-once (Mark a) (Mark b) one other = below-once a b one other

or-cases : (x y : Bool) → (x || y) ≡ true → (x ≡ true) ⊎ (y ≡ true)
or-cases true y e = inl refl
or-cases false y e = inr e

-- no two rows stand before each other
stands-once : (m n : ℕ) (a b : VersionName) → stands_before m a n b ≡ true → stands_before n b m a ≡ true → ⊥
stands-once m n a b one other =
    elim (or-cases (nat_lt m n) ((m == n) && name_is_below a b) one) [
      | inl less ↦ elim (or-cases (nat_lt n m) ((n == m) && name_is_below b a) other) [
        | inl more ↦ (let x : m < n = grind (arith, nat_tests) in let y : n < m = grind (arith, nat_tests) in absurd (omega arith))
        | inr tied ↦ (let same = (and-both (n == m) (name_is_below b a) tied).0 in let x : m < n = grind (arith, nat_tests) in let y : n ≡ m = grind (arith, nat_tests) in absurd (omega arith))
      ]
      | inr tie ↦ elim (or-cases (nat_lt n m) ((n == m) && name_is_below b a) other) [
        | inl more ↦ (let same = (and-both (m == n) (name_is_below a b) tie).0 in let x : n < m = grind (arith, nat_tests) in let y : m ≡ n = grind (arith, nat_tests) in absurd (omega arith))
        | inr tied ↦ name-once a b (and-both (m == n) (name_is_below a b) tie).1 (and-both (n == m) (name_is_below b a) tied).1
      ]
    ]

Stands : VersionRow → VersionRow → Type 0
Stands a b = stands_before a.txg a.name b.txg b.name ≡ true

stands-apart : (a b : VersionRow) → Stands a b → Stands b a → ⊥
unfolding Stands
stands-apart a b one other = stands-once a.txg b.txg a.name b.name one other

-- the row is one of the rows
In : VersionRow → List VersionRow → Type 0
In row [] = ⊥
In row (first ∷ rows) = (first ≡ row) ⊎ In row rows

In-contains : (row : VersionRow) (rows : List VersionRow) → In row rows → Contains rows row
unfolding In
In-contains row [] is = absurd is
In-contains row (first ∷ rows) (inl here) = (0, omega arith, here)
In-contains row (first ∷ rows) (inr later) =
    let at : Contains rows row = In-contains row rows later in
    (suc at.0, (let inside = at.1 in omega arith), at.2)

In-at : (row : VersionRow) (rows : List VersionRow) (k : ℕ) → k < length rows → get_or rows k row ≡ row → In row rows
unfolding In
In-at row [] k inside e = absurd (omega arith)
In-at row (first ∷ rows) zero inside e = inl e
In-at row (first ∷ rows) (suc k) inside e = inr (In-at row rows k (omega arith) e)

Contains-In : (row : VersionRow) (rows : List VersionRow) → Contains rows row → In row rows
Contains-In row rows is = In-at row rows is.0 is.1 is.2

-- what stands before all rows stands before each
All-In : (low row : VersionRow) (rows : List VersionRow) → All (Stands low) rows → In row rows → Stands low row
unfolding In Stands
All-In low row [] each is = absurd is
All-In low row (first ∷ rows) each is = elim is [
  | inl here ↦ subst (λ (r : VersionRow). stands_before low.txg low.name r.txg r.name ≡ true) here (All-head (λ (r : VersionRow). stands_before low.txg low.name r.txg r.name ≡ true) first rows each)
  | inr later ↦ All-In low row rows (All-tail (λ (r : VersionRow). stands_before low.txg low.name r.txg r.name ≡ true) first rows each) later
]

Within : List VersionRow → List VersionRow → Type 0
Within xs ys = (row : VersionRow) → In row xs → In row ys

-- the tails have the same rows where the heads are the same and stand before their tails
within-tails : (x y : VersionRow) (xs ys : List VersionRow) → y ≡ x → All (Stands x) xs → Within (x ∷ xs) (y ∷ ys) → Within xs ys
unfolding In Within
within-tails x y xs ys same each within row is = elim (within row (inr is)) [
  | inl here ↦ (let low : Stands x row = All-In x row xs each is in
      let itself : x ≡ row = sym same ∙ here in
      absurd (stands-apart x row low (subst (λ (r : VersionRow). Stands row r) (sym itself) (subst (λ (r : VersionRow). Stands r row) itself low))))
  | inr later ↦ later
]

-- rows in order are those of one list
one-order : (xs ys : List VersionRow) → AllPairs Stands xs → AllPairs Stands ys → Within xs ys → Within ys xs → xs ≡ ys
unfolding In Within
one-order [] [] p q there back = refl
one-order [] (y ∷ ys) p q there back = absurd (back y (inl refl))
one-order (x ∷ xs) [] p q there back = absurd (there x (inl refl))
one-order (x ∷ xs) (y ∷ ys) p q there back =
    let first : y ≡ x = elim (there x (inl refl)) [
      | inl here ↦ here
      | inr later ↦ elim (back y (inl refl)) [
        | inl here ↦ sym here
        | inr behind ↦ absurd (stands-apart x y (All-In x y xs (AllPairs-head Stands x xs p) behind) (All-In y x ys (AllPairs-head Stands y ys q) later))
      ]
    ] in
    let rest = one-order xs ys (AllPairs-tail Stands x xs p) (AllPairs-tail Stands y ys q)
    (within-tails x y xs ys first (AllPairs-head Stands x xs p) there)
    (within-tails y x ys xs (sym first) (AllPairs-head Stands y ys q) back) in
    cc

within-same : (xs ys : List VersionRow) → IsPermutation xs ys → Within xs ys
unfolding Within
within-same xs ys same row is = Contains-In row ys (Contains-permutation xs ys row same (In-contains row xs is))

-- the same rows in order are one list
pub order_unique : (xs ys : List VersionRow) → AllPairs (λ a b. stands_before a.txg a.name b.txg b.name ≡ true) xs → AllPairs (λ a b. stands_before a.txg a.name b.txg b.name ≡ true) ys → IsPermutation xs ys → xs ≡ ys
unfolding Stands
order_unique xs ys p q same = one-order xs ys p q (within-same xs ys same) (within-same ys xs (IsPermutation-sym xs ys same))
