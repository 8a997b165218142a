use Rattle.std.proofs.Common.{◌≡◌, Bool, true, false, cond, find, List, [], ◌∷◌, Some, None, get_or, refl, subst, All, AllPairs}
use Rattle.std.specs.Bool.{if◌then◌else◌}
use Rattle.std.proofs.lemmas.List.Elements.{All-cons, All-head, All-nil, All-tail}
use Rattle.std.proofs.lemmas.List.Kept.{AllPairs-cons}
use Rattle.zr_base.proofs.Lists.{AllPairs-head, AllPairs-nil, AllPairs-tail}
use Rattle.zr_world.specs.Effect.{first_changed, put_in}

-- what each item has, each has after a change that keeps it of the item that is changed
pub first_changed-All : {T : Type 0} (P : T → Type 0) (test : T → Bool) (change : T → T) (xs : List T) → ((x : T) → find test xs ≡ Some x → P x → P (change x)) → All P xs → All P (first_changed test change xs)
first_changed-All P test change [] keeps each = All-nil P
first_changed-All {T} P test change (x ∷ xs) keeps each =
    choose (test x) (λ y found. keeps y found) (first_changed-All P test change xs) where
      choose : (b : Bool) → ((y : T) → cond b (Some x) (find test xs) ≡ Some y → P y → P (change y)) → (((y : T) → find test xs ≡ Some y → P y → P (change y)) → All P xs → All P (first_changed test change xs)) → All P (if b then change x ∷ xs else (x ∷ first_changed test change xs))
      choose true on rest = All-cons P (change x) xs (on x refl (All-head P x xs each)) (All-tail P x xs each)
      choose false on rest = All-cons P x (first_changed test change xs) (All-head P x xs each) (rest on (All-tail P x xs each))

-- a relation of the items holds after a change that it does not tell from none
pub first_changed-pairs : {T : Type 0} (R : T → T → Type 0) (test : T → Bool) (change : T → T) → ((x y : T) → R x y → R (change x) y) → ((x y : T) → R x y → R x (change y)) → (xs : List T) → AllPairs R xs → AllPairs R (first_changed test change xs)
first_changed-pairs R test change left right [] pairs = AllPairs-nil R
first_changed-pairs {T} R test change left right (x ∷ xs) pairs =
    choose (test x) (first_changed-pairs R test change left right xs (AllPairs-tail R x xs pairs)) where
      head : All (R x) xs
      head = AllPairs-head R x xs pairs

      choose : (b : Bool) → AllPairs R (first_changed test change xs) → AllPairs R (if b then change x ∷ xs else (x ∷ first_changed test change xs))
      choose true rest = AllPairs-cons R (change x) xs (λ k d inside. left x (get_or xs k d) (head k d inside)) (AllPairs-tail R x xs pairs)
      choose false rest = AllPairs-cons R x (first_changed test change xs) (first_changed-All (R x) test change xs (λ y found r. right x y r) head) rest

pub put_in-All : {T : Type 0} (P : T → Type 0) (before : T → T → Bool) (item : T) (xs : List T) → P item → All P xs → All P (put_in before item xs)
put_in-All P before item [] has each = All-cons P item [] has each
put_in-All P before item (x ∷ xs) has each =
    choose (before item x) (put_in-All P before item xs has (All-tail P x xs each)) where
      choose : (b : Bool) → All P (put_in before item xs) → All P (if b then item ∷ x ∷ xs else (x ∷ put_in before item xs))
      choose true rest = All-cons P item (x ∷ xs) has each
      choose false rest = All-cons P x (put_in before item xs) (All-head P x xs each) rest

-- items that are related both ways to one more stay related
pub put_in-pairs : {T : Type 0} (R : T → T → Type 0) (before : T → T → Bool) (item : T) (xs : List T) → All (R item) xs → All (λ x. R x item) xs → AllPairs R xs → AllPairs R (put_in before item xs)
put_in-pairs R before item [] left right pairs = AllPairs-cons R item [] left pairs
put_in-pairs {T} R before item (x ∷ xs) left right pairs =
    choose (before item x) (put_in-pairs R before item xs (All-tail (R item) x xs left) (All-tail (λ (y : T). R y item) x xs right) (AllPairs-tail R x xs pairs)) where
      choose : (b : Bool) → AllPairs R (put_in before item xs) → AllPairs R (if b then item ∷ x ∷ xs else (x ∷ put_in before item xs))
      choose true rest = AllPairs-cons R item (x ∷ xs) left pairs
      choose false rest = AllPairs-cons R x (put_in before item xs) (put_in-All (R x) before item xs (All-head (λ (y : T). R y item) x xs right) (AllPairs-head R x xs pairs)) rest

-- items in order stay so with one more in its place, which none of them ties with
pub put_in-ordered : {T : Type 0} (before : T → T → Bool) → ((a b c : T) → before a b ≡ true → before b c ≡ true → before a c ≡ true) → (item : T) (xs : List T) → All (λ x. before item x ≡ false → before x item ≡ true) xs → AllPairs (λ a b. before a b ≡ true) xs → AllPairs (λ a b. before a b ≡ true) (put_in before item xs)
put_in-ordered {T} before chained item [] flips pairs = AllPairs-cons (λ (a : T) (b : T). before a b ≡ true) item [] (All-nil (λ (b : T). before item b ≡ true)) pairs
put_in-ordered {T} before chained item (x ∷ xs) flips pairs =
    choose (before item x) refl (put_in-ordered before chained item xs (All-tail Flips x xs flips) (AllPairs-tail Before x xs pairs)) where
      Before : T → T → Type 0
      Before a b = before a b ≡ true

      Flips : T → Type 0
      Flips y = before item y ≡ false → before y item ≡ true

      head : All (Before x) xs
      head = AllPairs-head Before x xs pairs

      choose : (b : Bool) → before item x ≡ b → AllPairs Before (put_in before item xs) → AllPairs Before (if b then item ∷ x ∷ xs else (x ∷ put_in before item xs))
      choose true is rest =
          AllPairs-cons Before item (x ∷ xs) (All-cons (Before item) x xs is (λ k d inside. chained item x (get_or xs k d) is (head k d inside))) pairs
      choose false is rest =
          AllPairs-cons Before x (put_in before item xs) (put_in-All (Before x) before item xs (All-head Flips x xs flips is) head) rest

-- where nothing is found, no item passes
pub found-none : {T : Type 0} (test : T → Bool) (xs : List T) → find test xs ≡ None → All (λ x. test x ≡ false) xs
found-none {T} test [] none = All-nil (λ (x : T). test x ≡ false)
found-none {T} test (x ∷ xs) none = choose (test x) refl none (found-none test xs) where
  choose : (b : Bool) → test x ≡ b → cond b (Some x) (find test xs) ≡ None → (find test xs ≡ None → All (λ y. test y ≡ false) xs) → All (λ y. test y ≡ false) (x ∷ xs)
  choose true is e rest = cc
  choose false is e rest = All-cons (λ (y : T). test y ≡ false) x xs is (rest e)

-- what is found passes
pub found-passes : {T : Type 0} (test : T → Bool) (xs : List T) (x : T) → find test xs ≡ Some x → test x ≡ true
found-passes test [] x found = cc
found-passes {T} test (y ∷ ys) x found = choose (test y) refl found (found-passes test ys x) where
  choose : (b : Bool) → test y ≡ b → cond b (Some y) (find test ys) ≡ Some x → (find test ys ≡ Some x → test x ≡ true) → test x ≡ true
  choose true is e rest = let same : y ≡ x = cc in subst (λ (z : T). test z ≡ true) same is
  choose false is e rest = rest e
