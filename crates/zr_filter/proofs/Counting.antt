use Rattle.std.proofs.Common.{◌≡◌, ℕ, zero, suc, ◌+◌, ◌-◌, ◌<◌, ◌≤◌, ◌∙◌, true, false, cond, ◌&&◌, ◌==◌, nat_lt, List, [], ◌∷◌, ◌++◌, Some, None, length, get_or, take, refl, ap, sym, arith, length-append}
use Rattle.std.specs.Prelude.{max, slice_get}
use Rattle.std.proofs.Math.Seq.{get_or-append_seam}
use Rattle.std.proofs.lemmas.Option.{slice_get-get_or}
use Rattle.std.proofs.lemmas.List.{append-nil, take_more}
use Rattle.std.proofs.lemmas.List.Elements.{filter-append}
use Rattle.std.proofs.lemmas.List.Sums.{fold-append}
use Rattle.std.proofs.lemmas.Bool.Decides.{nat_tests}
use Rattle.zr_filter.specs.Rule.{greatest, ranked_at, last_of, counting}

-- the greatest rank with one entry more
pub greatest-more : {X : Type 0} (rank : X → ℕ) (xs : List X) (x : X) → greatest rank (xs ++ x ∷ []) ≡ max (greatest rank xs) (rank x)
greatest-more rank xs x = fold-append (λ top y. max top (rank y)) 0 xs (x ∷ [])

-- the last of a list with one more
last_of-more : {X : Type 0} (xs : List X) (x : X) → last_of (xs ++ x ∷ []) ≡ Some x
last_of-more xs x =
    let long : length (xs ++ x ∷ []) ≡ length xs + 1 = length-append xs (x ∷ []) in
    let place : length (xs ++ x ∷ []) - 1 ≡ length xs = omega arith in
    let there = slice_get-get_or (xs ++ x ∷ []) (length xs) x (omega arith) in
    ap (slice_get (xs ++ x ∷ [])) place ∙ there ∙ ap Some (get_or-append_seam xs x [] x)

-- a list with an entry more at a rank
ranked_at-more : {X : Type 0} (rank : X → ℕ) (top : ℕ) (xs : List X) (x : X) → ranked_at rank top (xs ++ x ∷ []) ≡ ranked_at rank top xs ++ cond (nat_lt 0 (rank x) && (rank x == top)) (x ∷ []) []
ranked_at-more rank top xs x = filter-append (λ y. nat_lt 0 (rank y) && (rank y == top)) xs (x ∷ [])

-- an entry that ranks no lower than those before it counts from then on
pub counting-taken : {X : Type 0} (rank : X → ℕ) (xs : List X) (x : X) → 0 < rank x → greatest rank xs ≤ rank x → Some x ≡ counting rank (xs ++ x ∷ [])
unfolding counting
counting-taken rank xs x some high =
    let top : greatest rank (xs ++ x ∷ []) ≡ rank x = greatest-more rank xs x ∙ omega arith in
    let chosen : (nat_lt 0 (rank x) && (rank x == rank x)) ≡ true = grind (arith, nat_tests) in
    let kept : ranked_at rank (rank x) (xs ++ x ∷ []) ≡ ranked_at rank (rank x) xs ++ x ∷ [] =
    ranked_at-more rank (rank x) xs x ∙ ap (λ b. ranked_at rank (rank x) xs ++ cond b (x ∷ []) []) chosen in
    sym (ap (λ m. last_of (ranked_at rank m (xs ++ x ∷ []))) top ∙ ap last_of kept ∙ last_of-more (ranked_at rank (rank x) xs) x)

-- a rank below the greatest, or 0, leaves it
pub no_higher : (top r : ℕ) → (0 < r → r < top) → max top r ≡ top
no_higher zero r low = grind arith
no_higher (suc top) r low = grind arith

-- an entry that ranks lower than one before it, or not at all, changes nothing
pub counting-left : {X : Type 0} (rank : X → ℕ) (xs : List X) (x : X) → (0 < rank x → rank x < greatest rank xs) → counting rank xs ≡ counting rank (xs ++ x ∷ [])
unfolding counting
counting-left rank xs x low =
    let top : greatest rank (xs ++ x ∷ []) ≡ greatest rank xs = greatest-more rank xs x ∙ no_higher (greatest rank xs) (rank x) low in
    let passed : (nat_lt 0 (rank x) && (rank x == greatest rank xs)) ≡ false = grind (arith, nat_tests) in
    let kept : ranked_at rank (greatest rank xs) (xs ++ x ∷ []) ≡ ranked_at rank (greatest rank xs) xs =
    ranked_at-more rank (greatest rank xs) xs x
    ∙ ap (λ b. ranked_at rank (greatest rank xs) xs ++ cond b (x ∷ []) []) passed
    ∙ append-nil (ranked_at rank (greatest rank xs) xs) in
    sym (ap (λ m. last_of (ranked_at rank m (xs ++ x ∷ []))) top ∙ ap last_of kept)

-- the entries so far with the next one
next : {X : Type 0} (xs : List X) (i : ℕ) (x : X) → i < length xs → x ≡ get_or xs i x → take (i + 1) xs ≡ take i xs ++ x ∷ []
next xs i x inside there = take_more xs i x inside ∙ ap (λ y. take i xs ++ y ∷ []) (sym there)

-- what stands once the next entry is taken
pub taken : {X : Type 0} (rank : X → ℕ) (xs : List X) (i : ℕ) (x : X) → i < length xs → x ≡ get_or xs i x → 0 < rank x → greatest rank (take i xs) ≤ rank x → (rank x ≡ greatest rank (take (i + 1) xs)) × (Some x ≡ counting rank (take (i + 1) xs))
taken rank xs i x inside there some high =
    let step = next xs i x inside there in
    (omega (arith, greatest-more rank (take i xs) x, ap (greatest rank) step), counting-taken rank (take i xs) x some high ∙ sym (ap (counting rank) step))

-- what stands once the next entry is left
pub left : {X : Type 0} (rank : X → ℕ) (xs : List X) (i : ℕ) (x : X) → i < length xs → x ≡ get_or xs i x → (0 < rank x → rank x < greatest rank (take i xs)) → (greatest rank (take i xs) ≡ greatest rank (take (i + 1) xs)) × (counting rank (take i xs) ≡ counting rank (take (i + 1) xs))
left rank xs i x inside there low =
    let step = next xs i x inside there in
    (sym (ap (greatest rank) step ∙ greatest-more rank (take i xs) x ∙ no_higher (greatest rank (take i xs)) (rank x) low), counting-left rank (take i xs) x low ∙ sym (ap (counting rank) step))

-- with no entry none counts
pub counting-none : {X : Type 0} (rank : X → ℕ) → counting rank [] ≡ None
unfolding counting
counting-none rank = refl
