use Rattle.std.proofs.Common.{◌≡◌, ◌≤◌, ◌<◌, ◌&&◌, ◌||◌, Bool, true, false, true≢false, not, cond, arith, List, [], ◌∷◌, Some, None, find, filter, length, slice_get, refl, sym, ◌∙◌, subst, Contains}
use Rattle.std.specs.Prelude.{MatchOption, Option, Result, Ok, Err, IfOk, OnOk}
use Rattle.std.specs.List.{list_all, list_any}
use Rattle.std.proofs.lemmas.List.Elements.{All-contains, All-contains_itself, All-filter, Contains-append_left, Contains-append_right, Contains-push, filter_passes}
use Rattle.std.proofs.lemmas.List.Folds.{list_any-from_Any}
use Rattle.std.proofs.lemmas.List.Sums.{AllPass-from_list_all}

-- one of some items that all pass
pub passes-of : {X : Type 0} (p : X → Bool) (xs : List X) (x : X) → list_all p xs ≡ true → Contains xs x → p x ≡ true
passes-of {X} p xs x all among = All-contains (λ (y : X). p y ≡ true) xs x (AllPass-from_list_all p xs all) among

-- some item passes where this one does
pub any-of : {X : Type 0} (p : X → Bool) (xs : List X) (x : X) → Contains xs x → p x ≡ true → list_any p xs ≡ true
any-of p xs x among pass = list_any-from_Any p xs (among.0, x, among.1, among.2, pass)

-- what a filter kept
pub in-filter : {X : Type 0} (p : X → Bool) (xs : List X) (x : X) → Contains (filter p xs) x → Contains xs x × (p x ≡ true)
in-filter {X} p xs x among = (
  All-contains (Contains xs) (filter p xs) x (All-filter p (Contains xs) xs (All-contains_itself xs)) among,
  All-contains (λ (y : X). p y ≡ true) (filter p xs) x (filter_passes p xs) among,
)

-- what was found is one of them
pub found-in : {X : Type 0} (p : X → Bool) (xs : List X) (x : X) → find p xs ≡ Some x → Contains xs x
found-in p [] x found = cc
found-in {X} p (y ∷ ys) x found = by (p y) found (found-in p ys x) where
  by : (b : Bool) → cond b (Some y) (find p ys) ≡ Some x → (find p ys ≡ Some x → Contains ys x) → Contains (y ∷ ys) x
  by true e rest =
      let same : y ≡ x = cc in
      subst (λ (z : X). Contains (y ∷ ys) z) same (Contains-append_left (y ∷ []) ys y (Contains-push [] y))
  by false e rest = Contains-append_right (y ∷ []) ys x (rest e)

-- where none fails, all pass
pub none-fails : {X : Type 0} (p : X → Bool) (xs : List X) → find (λ x. not (p x)) xs ≡ None → list_all p xs ≡ true
none-fails p [] none = refl
none-fails {X} p (x ∷ xs) none = by (p x) none (none-fails p xs) where
  by : (b : Bool) → cond (not b) (Some x) (find (λ y. not (p y)) xs) ≡ None → (find (λ y. not (p y)) xs ≡ None → list_all p xs ≡ true) → (b && list_all p xs) ≡ true
  by true e rest = rest e
  by false e rest = cc

-- what all pass, those pass that a filter keeps
pub all-filter : {X : Type 0} (p q : X → Bool) (xs : List X) → list_all p xs ≡ true → list_all p (filter q xs) ≡ true
all-filter p q [] all = refl
all-filter {X} p q (x ∷ xs) all = by (q x) (p x) refl all (all-filter p q xs) where
  by : (b c : Bool) → p x ≡ c → (c && list_all p xs) ≡ true → (list_all p xs ≡ true → list_all p (filter q xs) ≡ true) → list_all p (cond b (x ∷ filter q xs) (filter q xs)) ≡ true
  by true true is e rest = rw is (rest e)
  by false true is e rest = rest e
  by b false is e rest = absurd (true≢false (sym e))

at-most : {X : Type 0} (q : X → Bool) (xs : List X) → length (filter (λ x. not (q x)) xs) ≤ length xs
at-most q [] = omega (arith)
at-most {X} q (x ∷ xs) = by (q x) (at-most q xs) where
  by : (b : Bool) → length (filter (λ y. not (q y)) xs) ≤ length xs → length (cond (not b) (x ∷ filter (λ y. not (q y)) xs) (filter (λ y. not (q y)) xs)) ≤ length (x ∷ xs)
  by true rest = omega (arith, rest)
  by false rest = omega (arith, rest)

-- a filter that drops one item leaves fewer
pub filter-fewer : {X : Type 0} (q : X → Bool) (xs : List X) → list_any q xs ≡ true → length (filter (λ x. not (q x)) xs) < length xs
filter-fewer q [] any = absurd (true≢false (sym any))
filter-fewer {X} q (x ∷ xs) any = by (q x) any (filter-fewer q xs) (at-most q xs) where
  by : (b : Bool) → (b || list_any q xs) ≡ true → (list_any q xs ≡ true → length (filter (λ y. not (q y)) xs) < length xs) → length (filter (λ y. not (q y)) xs) ≤ length xs → length (cond (not b) (x ∷ filter (λ y. not (q y)) xs) (filter (λ y. not (q y)) xs)) < length (x ∷ xs)
  by true e rest most = omega (arith, most)
  by false e rest most = omega (arith, rest e)

-- what some item passes, one that a filter keeps passes, if it keeps all that pass
pub any-filter : {X : Type 0} (p q : X → Bool) → ((x : X) → p x ≡ true → q x ≡ true) → (xs : List X) → list_any p xs ≡ true → list_any p (filter q xs) ≡ true
any-filter p q keeps [] any = any
any-filter {X} p q keeps (x ∷ xs) any = by (q x) refl (p x) refl any (any-filter p q keeps xs) where
  by : (b : Bool) → q x ≡ b → (c : Bool) → p x ≡ c → (c || list_any p xs) ≡ true → (list_any p xs ≡ true → list_any p (filter q xs) ≡ true) → list_any p (cond b (x ∷ filter q xs) (filter q xs)) ≡ true
  by true qe true pe e rest = rw pe refl
  by true qe false pe e rest = rw pe (rest e)
  by false qe true pe e rest = absurd (true≢false (sym (keeps x pe) ∙ qe))
  by false qe false pe e rest = rest e

pub first-of : {X : Type 0} (xs : List X) (x : X) → slice_get xs 0 ≡ Some x → Contains xs x
first-of [] x first = cc
first-of {X} (y ∷ ys) x first =
    let same : y ≡ x = cc in
    subst (λ (z : X). Contains (y ∷ ys) z) same (Contains-append_left (y ∷ []) ys y (Contains-push [] y))

pub none-first : {X : Type 0} (xs : List X) → slice_get xs 0 ≡ None → xs ≡ []
none-first [] first = refl
none-first (x ∷ xs) first = cc

module _ {X : Type 0} (p q : X → Bool) where
  kept-at-most : ((x : X) → q x ≡ true → p x ≡ true) → (xs : List X) → length (filter q xs) ≤ length (filter p xs)
  kept-at-most less [] = omega (arith)
  kept-at-most less (x ∷ xs) = by (q x) refl (p x) refl (less x) (kept-at-most less xs) where
    by : (b : Bool) → q x ≡ b → (c : Bool) → p x ≡ c → (q x ≡ true → p x ≡ true) → length (filter q xs) ≤ length (filter p xs) → length (cond b (x ∷ filter q xs) (filter q xs)) ≤ length (cond c (x ∷ filter p xs) (filter p xs))
    by true qe true pe one rest = omega (arith, rest)
    by true qe false pe one rest = absurd (true≢false (sym (one qe) ∙ pe))
    by false qe true pe one rest = omega (arith, rest)
    by false qe false pe one rest = rest

  -- where all that pass one test pass another, which one item passes that fails the first, fewer pass the first
  pub kept-fewer : ((x : X) → q x ≡ true → p x ≡ true) → (xs : List X) → list_any (λ x. p x && not (q x)) xs ≡ true → length (filter q xs) < length (filter p xs)
  kept-fewer less [] any = absurd (true≢false (sym any))
  kept-fewer less (x ∷ xs) any = by (q x) refl (p x) refl any (less x) (kept-at-most less xs) (kept-fewer less xs) where
    by : (b : Bool) → q x ≡ b → (c : Bool) → p x ≡ c → ((c && not b) || list_any (λ y. p y && not (q y)) xs) ≡ true → (q x ≡ true → p x ≡ true) → length (filter q xs) ≤ length (filter p xs) → (list_any (λ y. p y && not (q y)) xs ≡ true → length (filter q xs) < length (filter p xs)) → length (cond b (x ∷ filter q xs) (filter q xs)) < length (cond c (x ∷ filter p xs) (filter p xs))
    by true qe true pe e one most rest = omega (arith, rest e)
    by true qe false pe e one most rest = absurd (true≢false (sym (one qe) ∙ pe))
    by false qe true pe e one most rest = omega (arith, most)
    by false qe false pe e one most rest = rest e

-- what follows from what an `Ok` comes with
pub on-ok : {T E : Type 0} (P Q : Type 0) (result : Result T E) → (P → Q) → OnOk result P → OnOk result Q
on-ok P Q (Ok value) follows holds = follows holds
on-ok P Q (Err fault) follows holds = tt

pub on-both : {T E : Type 0} (P Q : Type 0) (result : Result T E) → OnOk result P → OnOk result Q → OnOk result (P × Q)
on-both P Q (Ok value) one other = (one, other)
on-both P Q (Err fault) one other = tt

pub if-ok : {T E : Type 0} (P Q : T → Type 0) (result : Result T E) → ((x : T) → P x → Q x) → IfOk result P → IfOk result Q
if-ok P Q (Ok value) follows holds = follows value holds
if-ok P Q (Err fault) follows holds = tt

pub match-some : {T : Type 0} (N : Type 0) (P : T → Type 0) (found : Option T) (x : T) → found ≡ Some x → MatchOption found N P → P x
match-some N P None x is holds = cc
match-some {T} N P (Some y) x is holds =
    let same : y ≡ x = cc in
    subst P same holds

-- what some item passes is found
pub find-some : {X : Type 0} (p : X → Bool) (xs : List X) → list_any p xs ≡ true → (x : X) × (find p xs ≡ Some x)
find-some p [] any = absurd (true≢false (sym any))
find-some {X} p (x ∷ xs) any = by (p x) any (find-some p xs) where
  by : (b : Bool) → (b || list_any p xs) ≡ true → (list_any p xs ≡ true → (y : X) × (find p xs ≡ Some y)) → (y : X) × (cond b (Some x) (find p xs) ≡ Some y)
  by true e rest = (x, refl)
  by false e rest = rest e

-- what all pass, they pass by a weaker test
pub all-weaker : {X : Type 0} (p q : X → Bool) → ((x : X) → p x ≡ true → q x ≡ true) → (xs : List X) → list_all p xs ≡ true → list_all q xs ≡ true
all-weaker p q weaker [] all = all
all-weaker {X} p q weaker (x ∷ xs) all = by (p x) refl all (all-weaker p q weaker xs) where
  by : (b : Bool) → p x ≡ b → (b && list_all p xs) ≡ true → (list_all p xs ≡ true → list_all q xs ≡ true) → (q x && list_all q xs) ≡ true
  by true is e rest = rw (weaker x is) (rest e)
  by false is e rest = absurd (true≢false (sym e))
