-- What is true of each of a list, and how many pass a test, as one more comes or one goes.
use Rattle.std.proofs.Common.{◌≡◌, ◌+◌, ◌<◌, ◌≤◌, ℕ, suc, Bool, true, false, cond, List, [], ◌∷◌, ◌++◌, All, count_by, drop, get_or, length, refl, sym, ◌∙◌, arith, take}
use Rattle.std.specs.List.{list_any, remove}
use Rattle.std.proofs.lemmas.Bool.{false_from_ne_true, false≢true}
use Rattle.std.proofs.lemmas.List.Folds.{list_any_at}
use Rattle.std.proofs.lemmas.List.Elements.{All-append, All-drop, All-take}
use Rattle.std.proofs.lemmas.List.Sums.{sum_by-cons, sum_by-remove, sum_by_push}

pub All-remove : {X : Type 0} (P : X → Type 0) (xs : List X) (place : ℕ) → All P xs → All P (remove xs place)
All-remove P xs place all =
    All-append P (take place xs) (drop (suc place) xs) (All-take P place xs all) (All-drop P (suc place) xs all)

pub count_by-cons : {X : Type 0} (p : X → Bool) (x : X) (xs : List X) → count_by p (x ∷ xs) ≡ cond (p x) 1 0 + count_by p xs
count_by-cons p x xs = sum_by-cons (λ y. cond (p y) 1 0) x xs

pub count_by-push : {X : Type 0} (p : X → Bool) (xs : List X) (x : X) → count_by p (xs ++ x ∷ []) ≡ count_by p xs + cond (p x) 1 0
count_by-push p xs x = sum_by_push (λ y. cond (p y) 1 0) xs x

pub count_by-remove : {X : Type 0} (p : X → Bool) (xs : List X) (place : ℕ) (x : X) → place < length xs → count_by p (remove xs place) + cond (p (get_or xs place x)) 1 0 ≡ count_by p xs
count_by-remove p xs place x within = sum_by-remove (λ y. cond (p y) 1 0) xs place x within

at_most : (is : Bool) (before now limit : ℕ) → before ≤ limit → (is ≡ true → before < limit) → now ≡ before + cond is 1 0 → now ≤ limit
at_most true before now limit so more e = let less = more refl in omega arith
at_most false before now limit so more e = omega arith

-- a count stays within its limit where one more comes only below it
pub within_push : {X : Type 0} (p : X → Bool) (xs : List X) (x : X) (limit : ℕ) → count_by p xs ≤ limit → (p x ≡ true → count_by p xs < limit) → count_by p (xs ++ x ∷ []) ≤ limit
within_push p xs x limit so more =
    at_most (p x) (count_by p xs) (count_by p (xs ++ x ∷ [])) limit so more (count_by-push p xs x)

-- and where one goes
pub within_remove : {X : Type 0} (p : X → Bool) (xs : List X) (place : ℕ) (x : X) (limit : ℕ) → place < length xs → count_by p xs ≤ limit → count_by p (remove xs place) ≤ limit
within_remove p xs place x limit within so =
    let e = count_by-remove p xs place x within in omega arith

-- where none passes, this one does not
pub fails_at : {X : Type 0} (p : X → Bool) (xs : List X) (k : ℕ) (d : X) → list_any p xs ≡ false → k < length xs → p (get_or xs k d) ≡ false
fails_at p xs k d none within =
    false_from_ne_true (p (get_or xs k d)) (λ yes. false≢true (sym none ∙ list_any_at p xs k d within yes))
