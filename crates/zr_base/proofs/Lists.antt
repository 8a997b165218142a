use Rattle.std.proofs.Common.{◌≡◌, suc, Bool, true, List, [], ◌∷◌, Some, cond, find, map, false, subst, arith}
use Rattle.std.specs.List.{All, AllPairs}
use Rattle.std.proofs.lemmas.List.Elements.{All-head, All-map, All-tail}
use Rattle.std.proofs.lemmas.List.Kept.{AllPairs-cons}

pub AllPairs-nil : {X : Type 0} (R : X → X → Type 0) → AllPairs R []
AllPairs-nil R = λ i j d below inside. absurd (omega arith)

-- the first element against each later one
pub AllPairs-head : {X : Type 0} (R : X → X → Type 0) (x : X) (xs : List X) → AllPairs R (x ∷ xs) → All (R x) xs
AllPairs-head R x xs pairs = λ k d inside. pairs 0 (suc k) d (omega arith) (omega arith)

pub AllPairs-tail : {X : Type 0} (R : X → X → Type 0) (x : X) (xs : List X) → AllPairs R (x ∷ xs) → AllPairs R xs
AllPairs-tail R x xs pairs = λ i j d below inside. pairs (suc i) (suc j) d (omega arith) (omega arith)

-- what holds of the pairs of images holds of the pairs of a mapped list
pub AllPairs-map : {X Y : Type 0} (f : X → Y) (R : Y → Y → Type 0) (xs : List X) → AllPairs (λ a b. R (f a) (f b)) xs → AllPairs R (map f xs)
AllPairs-map f R [] pairs = AllPairs-nil R
AllPairs-map {X} f R (x ∷ xs) pairs =
    AllPairs-cons R (f x) (map f xs) (All-map (R (f x)) f xs (AllPairs-head (λ (a : X) (b : X). R (f a) (f b)) x xs pairs)) (AllPairs-map f R xs (AllPairs-tail (λ (a : X) (b : X). R (f a) (f b)) x xs pairs))

-- what holds of all elements holds of the one that is found
pub found_from_All : {X : Type 0} (P : X → Type 0) (p : X → Bool) (xs : List X) (x : X) → find p xs ≡ Some x → All P xs → P x
found_from_All P p [] x found each = cc
found_from_All {X} P p (y ∷ ys) x found each =
    choose (p y) found (All-head P y ys each) (λ rest. found_from_All P p ys x rest (All-tail P y ys each)) where
      choose : (b : Bool) → cond b (Some y) (find p ys) ≡ Some x → P y → (find p ys ≡ Some x → P x) → P x
      choose true e py other = let same : y ≡ x = cc in subst P same py
      choose false e py other = other e
