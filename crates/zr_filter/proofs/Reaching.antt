-- A filter that does not reach a root matches nothing at or below it.
use Rattle.std.proofs.Common.{◌≡◌, ℕ, zero, suc, ◌+◌, ◌<◌, ◌≤◌, ◌∙◌, ◌⊎◌, inl, inr, Bool, true, false, ◌&&◌, ◌||◌, cond, nat_eq, List, [], ◌∷◌, ◌++◌, Option, Some, None, length, refl, ap, sym, subst, arith, append_assoc}
use Rattle.std.proofs.lemmas.Bool.{cases_order, cases_lt}
use Rattle.std.proofs.lemmas.List.{append-nil}
use Rattle.std.specs.List.{list_any}
use Rattle.std.specs.Cmp.Lexicographic.{bytes_decides, pointwise}
use Rattle.std.proofs.lemmas.List.Folds.{list_any-append}
use Rattle.zr_filter.specs.declared.entry.FilterEntry.{FilterEntry}
use Rattle.zr_filter.specs.declared.filter.Filter.{Filter}
use Rattle.zr_filter.specs.Rule.{MatchesNothingWithin, allows, allows_within, counting, covers, greatest, is_within, path_passes, rank, reaches, root_length, subtree_rank}
use Rattle.zr_filter.proofs.Counting.{counting-none, counting-taken, counting-left, greatest-more, no_higher}
use Rattle.zr_filter.proofs.Paths.{within, is_within_of, within_trans, within_shorter}

-- what holds of no elements, and of one more, holds of any
grow : {X : Type 0} (P : List X → Type 0) → ((xs : List X) (x : X) → P xs → P (xs ++ x ∷ [])) → (ys : List X) → P ys → (zs : List X) → P (ys ++ zs)
grow P step ys p [] = subst P (sym (append-nil ys)) p
grow P step ys p (z ∷ zs) = subst P (append_assoc ys (z ∷ []) zs) (grow P step (ys ++ z ∷ []) (step ys z p) zs)

-- an element ranks no lower than those before it, or lower or not at all
choice : (n top : ℕ) → ((0 < n) × (top ≤ n)) ⊎ (0 < n → n < top)
choice zero top = inr (λ some. absurd (omega arith))
choice (suc n) top =
    elim (cases_order (suc n) top) [
      | inl same ↦ inl (omega arith, omega arith)
      | inr (inl below) ↦ inr (λ some. below)
      | inr (inr above) ↦ inl (omega arith, omega arith)
    ]

or_false : (a b : Bool) → (a || b) ≡ false → (a ≡ false) × (b ≡ false)
or_false true b e = cc
or_false false b e = (refl, e)

and_first : (a b : Bool) → b ≡ true → (a && b) ≡ false → a ≡ false
and_first true b holds fails = absurd (let e : true ≡ false = sym holds ∙ fails in cc)
and_first false b holds fails = refl

pub or_both : (a b : Bool) → a ≡ false → b ≡ false → (a || b) ≡ false
or_both true b p q = cc
or_both false b p q = q

-- what is told of the one that counts
pub record Told {X : Type 0} (rank : X → ℕ) (xs : List X) (x : X) : Type 0 where
  pub some : 0 < rank x
  pub top : greatest rank xs ≡ rank x
  pub among : (p : X → Bool) → list_any p xs ≡ false → p x ≡ false

pub tells : {X : Type 0} (rank : X → ℕ) (xs : List X) (x : X) → counting rank xs ≡ Some x → Told rank xs x
tells {X} rank xs x is = grow (λ ys. (y : X) → counting rank ys ≡ Some y → Told rank ys y) step [] first xs x is where
  first : (y : X) → counting rank [] ≡ Some y → Told rank [] y
  first y is = let none = counting-none rank in absurd (let e : None ≡ Some y = sym none ∙ is in cc)

  step : (ys : List X) (z : X) → ((y : X) → counting rank ys ≡ Some y → Told rank ys y) → (y : X) → counting rank (ys ++ z ∷ []) ≡ Some y → Told rank (ys ++ z ∷ []) y
  step ys z told y is =
      elim (choice (rank z) (greatest rank ys)) [
        | inl high ↦
            let same : z ≡ y = let e = counting-taken rank ys z high.0 high.1 ∙ is in cc in
            subst (Told rank (ys ++ z ∷ [])) same (record {
              some = high.0;
              top = greatest-more rank ys z ∙ omega (arith, high.1);
              among = λ p none. (or_false (p z) false (or_false (list_any p ys) (list_any p (z ∷ [])) (sym (list_any-append p ys (z ∷ [])) ∙ none)).1).0;
            })
        | inr low ↦
            let before = told y (counting-left rank ys z low ∙ is) in
            record {
              some = before.some;
              top = greatest-more rank ys z ∙ no_higher (greatest rank ys) (rank z) low ∙ before.top;
              among = λ p none. before.among p (or_false (list_any p ys) (list_any p (z ∷ [])) (sym (list_any-append p ys (z ∷ [])) ∙ none)).0;
            }
      ]

-- a rank that is nowhere greater has no greater maximum
greatest-le : {X : Type 0} (rank other : X → ℕ) → ((x : X) → 0 < other x → other x ≡ rank x) → (xs : List X) → greatest other xs ≤ greatest rank xs
greatest-le {X} rank other same xs = grow (λ ys. greatest other ys ≤ greatest rank ys) step [] (omega arith) xs where
  step : (ys : List X) (z : X) → greatest other ys ≤ greatest rank ys → greatest other (ys ++ z ∷ []) ≤ greatest rank (ys ++ z ∷ [])
  step ys z le =
      elim (cases_order 0 (other z)) [
        | inl zero_rank ↦ omega (arith, greatest-more other ys z, greatest-more rank ys z)
        | inr (inl some) ↦ omega (arith, greatest-more other ys z, greatest-more rank ys z, same z some)
        | inr (inr never) ↦ absurd (omega arith)
      ]

-- two ranks agree where the second has one: the one that counts by the first counts by the second, if it has a rank there
pub agrees : {X : Type 0} (rank other : X → ℕ) → ((x : X) → 0 < other x → other x ≡ rank x) → (xs : List X) (x : X) → counting rank xs ≡ Some x → 0 < other x → counting other xs ≡ Some x
agrees {X} rank other same xs x is some = grow (λ ys. (y : X) → counting rank ys ≡ Some y → 0 < other y → counting other ys ≡ Some y) step [] first xs x is some where
  first : (y : X) → counting rank [] ≡ Some y → 0 < other y → counting other [] ≡ Some y
  first y is some = absurd (let e : None ≡ Some y = sym (counting-none rank) ∙ is in cc)

  step : (ys : List X) (z : X) → ((y : X) → counting rank ys ≡ Some y → 0 < other y → counting other ys ≡ Some y) → (y : X) → counting rank (ys ++ z ∷ []) ≡ Some y → 0 < other y → counting other (ys ++ z ∷ []) ≡ Some y
  step ys z before y is some =
      elim (choice (rank z) (greatest rank ys)) [
        | inl high ↦
            let taken : z ≡ y = let e = counting-taken rank ys z high.0 high.1 ∙ is in cc in
            let ranked : 0 < other z = subst (λ k. 0 < other k) (sym taken) some in
            let reaches_top : greatest other ys ≤ other z = omega (arith, high.1, same z ranked, greatest-le rank other same ys) in
            sym (counting-taken other ys z ranked reaches_top) ∙ ap Some taken
        | inr low ↦
            let earlier = counting-left rank ys z low ∙ is in
            let there = before y earlier some in
            let top = (tells rank ys y earlier).top in
            let other_top = (tells other ys y there).top in
            let lower : 0 < other z → other z < greatest other ys = λ ranked. omega (arith, same z ranked, same y some, low (subst (λ k. 0 < k) (same z ranked) ranked)) in
            sym (counting-left other ys z lower) ∙ there
      ]

-- an entry that speaks of a root as a subtree speaks of the paths below it as closely
subtree_below : (root path : List ℕ) → is_within root path ≡ true → (entry : FilterEntry) → 0 < subtree_rank root entry → subtree_rank root entry ≡ rank path entry
subtree_below root path is entry some = at entry.path entry.subtree entry.allow some where
  at : (own : Option (List ℕ)) (subtree allow : Bool) → 0 < subtree_rank root (record { path = own; subtree = subtree; allow = allow }) → subtree_rank root (record { path = own; subtree = subtree; allow = allow }) ≡ rank path (record { path = own; subtree = subtree; allow = allow })
  at own false allow some = absurd (omega arith)
  at None true allow some = refl
  at (Some r) true allow some = choose (is_within r root) refl some where
    choose : (b : Bool) → is_within r root ≡ b → 0 < cond b (suc (length r)) 0 → cond (is_within r root) (suc (length r)) 0 ≡ cond (is_within r path) (suc (length r)) 0
    choose true e some =
        let deeper : is_within r path ≡ true = is_within_of r path (within_trans r root path (within r root e) (within root path is)) in
        ap (λ b. cond b (suc (length r)) 0) (e ∙ sym deeper)
    choose false e some = absurd (omega arith)

-- an entry that counts for a path below a root, and does not cover the root, is itself at or below it
lies_within : (root path : List ℕ) → is_within root path ≡ true → (entry : FilterEntry) → 0 < rank path entry → covers root entry ≡ false → path_passes (λ own. is_within root own) false entry.path ≡ true
lies_within root path is entry some apart = at entry.path entry.subtree entry.allow some apart where
  at : (own : Option (List ℕ)) (subtree allow : Bool) → 0 < rank path (record { path = own; subtree = subtree; allow = allow }) → covers root (record { path = own; subtree = subtree; allow = allow }) ≡ false → path_passes (λ o. is_within root o) false own ≡ true
  at None true allow some apart = cc
  at None false allow some apart = absurd (omega arith)
  at (Some own) false allow some apart = choose (pointwise nat_eq path own) refl some where
    choose : (b : Bool) → pointwise nat_eq path own ≡ b → 0 < cond b (length path + 2) 0 → is_within root own ≡ true
    choose true e some = subst (λ t. is_within root t ≡ true) ((bytes_decides path own).0 e) is
    choose false e some = absurd (omega arith)
  at (Some own) true allow some apart = choose (is_within own path) refl some where
    choose : (b : Bool) → is_within own path ≡ b → 0 < cond b (suc (length own)) 0 → is_within root own ≡ true
    choose false e some = absurd (omega arith)
    choose true e some =
        elim (cases_lt (length own) (length root)) [
          | inl shorter ↦
              let over : is_within own root ≡ true = is_within_of own root (within_shorter own root path (within own path e) (within root path is) (omega arith)) in
              absurd (let e : true ≡ false = sym over ∙ apart in cc)
          | inr longer ↦ is_within_of root own (within_shorter root own path (within root path is) (within own path e) longer)
        ]

pub outside : (filter : Filter) (root : List ℕ) → reaches filter root ≡ false → MatchesNothingWithin filter root
outside filter root none path is = at (counting (rank path) filter.entries) refl where
  parts : (allows (counting (subtree_rank root) filter.entries) ≡ false) × (list_any (allows_within root) filter.entries ≡ false)
  parts = or_false (allows (counting (subtree_rank root) filter.entries)) (list_any (allows_within root) filter.entries) none

  at : (o : Option FilterEntry) → counting (rank path) filter.entries ≡ o → allows o ≡ false
  at None e = refl
  at (Some entry) e = choose (covers root entry) refl where
    told : Told (rank path) filter.entries entry
    told = tells (rank path) filter.entries entry e

    choose : (b : Bool) → covers root entry ≡ b → entry.allow ≡ false
    choose true over =
        let some : 0 < subtree_rank root entry = subst (λ b. 0 < cond b (suc (root_length entry.path)) 0) (sym over) (omega arith) in
        let counts = agrees (rank path) (subtree_rank root) (subtree_below root path is) filter.entries entry e some in
        sym (ap allows counts) ∙ parts.0
    choose false apart =
        let inner = lies_within root path is entry told.some apart in
        let refused : (entry.allow && path_passes (λ own. is_within root own) false entry.path) ≡ false = told.among (allows_within root) parts.1 in
        and_first entry.allow (path_passes (λ own. is_within root own) false entry.path) inner refused
