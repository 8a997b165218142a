use Rattle.std.proofs.Common.{◌≡◌, ℕ, zero, suc, ◌+◌, ◌<◌, ◌≤◌, Bool, true, false, cond, not, nat_lt, Some, None, List, [], ◌∷◌, length, get_or, refl, arith, ap, ◌∙◌}
use Rattle.std.specs.Bool.{if◌then◌else◌}
use Rattle.std.proofs.Math.ListN.{set}
use Rattle.std.specs.List.{insert, position, position_or_len}
use Rattle.std.proofs.lemmas.Bool.Decides.{nat_tests}
use Rattle.std.proofs.lemmas.List.Quantifiers.{position-Some}
use Rattle.std.specs.Option.{unwrap_or}
use Rattle.zr_world.specs.Effect.{first_changed, put_in}

-- the change at one item, by its place
first_changed-set : {T : Type 0} (test : T → Bool) (change : T → T) (xs : List T) (i : ℕ) (d : T) → i < length xs → test (get_or xs i d) ≡ true → ((k : ℕ) → k < i → test (get_or xs k d) ≡ false) → first_changed test change xs ≡ set xs i (change (get_or xs i d))
first_changed-set test change [] i d inside found before = absurd (omega arith)
first_changed-set test change (x ∷ xs) zero d inside found before = rw found
first_changed-set test change (x ∷ xs) (suc i) d inside found before =
    let first : test x ≡ false = before 0 (omega arith) in
    let rest = first_changed-set test change xs i d (omega arith) found (λ k h. before (suc k) (omega arith)) in
    rw first (ap (λ ys. x ∷ ys) rest)

-- the change at the item that is the first to pass
pub first_changed-position : {T : Type 0} (test : T → Bool) (change : T → T) (xs : List T) (i : ℕ) (d : T) → position test xs ≡ Some i → first_changed test change xs ≡ set xs i (change (get_or xs i d))
first_changed-position test change xs i d first =
    let found = position-Some test xs i d first in
    first_changed-set test change xs i d found.0 found.1 found.2

-- a test that fails first, and a count of failed tests that has gone past all
fails-first : (b : Bool) (n m : ℕ) → suc n ≤ cond (not b) (1 + m) 0 → (b ≡ false) × (n ≤ m)
fails-first true n m past = absurd (omega arith)
fails-first false n m past = (refl, omega arith)

-- no change where all items fail the test
first_changed-past : {T : Type 0} (test : T → Bool) (change : T → T) (xs : List T) → length xs ≤ position_or_len test xs → first_changed test change xs ≡ xs
first_changed-past test change [] past = refl
first_changed-past test change (x ∷ xs) past =
    let first = fails-first (test x) (length xs) (position_or_len test xs) past in
    let other : test x ≡ false = first.0 in
    let rest = first_changed-past test change xs first.1 in
    rw other (ap (λ ys. x ∷ ys) rest)

-- a choice of nothing
no-choice : (b : Bool) (x : ℕ) → cond b (Some x) None ≡ None → b ≡ false
no-choice true x none = cc
no-choice false x none = refl

-- no change where no item passes
pub first_changed-none : {T : Type 0} (test : T → Bool) (change : T → T) (xs : List T) → position test xs ≡ None → first_changed test change xs ≡ xs
first_changed-none test change xs none =
    let past = no-choice (nat_lt (position_or_len test xs) (length xs)) (position_or_len test xs) none in
    first_changed-past test change xs (grind (arith, nat_tests))

position_or_len-within : {T : Type 0} (test : T → Bool) (xs : List T) → position_or_len test xs ≤ length xs
position_or_len-within test [] = omega arith
position_or_len-within test (x ∷ xs) = by-test (test x) (position_or_len-within test xs) where
  by-test : (b : Bool) → position_or_len test xs ≤ length xs → cond (not b) (1 + position_or_len test xs) 0 ≤ suc (length xs)
  by-test true within = omega arith
  by-test false within = omega arith

-- an item in its place, by that place
pub put_in_insert : {T : Type 0} (before : T → T → Bool) (item : T) (xs : List T) → put_in before item xs ≡ insert xs (position_or_len (before item) xs) item
put_in_insert before item [] = refl
put_in_insert before item (x ∷ xs) = by-test (before item x) (put_in_insert before item xs) where
  by-test : (b : Bool) → put_in before item xs ≡ insert xs (position_or_len (before item) xs) item → (if b then item ∷ x ∷ xs else (x ∷ put_in before item xs)) ≡ insert (x ∷ xs) (cond (not b) (1 + position_or_len (before item) xs) 0) item
  by-test true rest = refl
  by-test false rest =
      let n = position_or_len (before item) xs in
      let next : suc n ≡ 1 + n = omega arith in
      ap (λ ys. x ∷ ys) rest ∙ ap (λ k. insert (x ∷ xs) k item) next

-- the first place that passes, or else the end
pub place_or_end : {T : Type 0} (test : T → Bool) (xs : List T) → (unwrap_or (position test xs) (length xs) ≡ position_or_len test xs) × (unwrap_or (position test xs) (length xs) ≤ length xs)
place_or_end test xs = by-test (nat_lt (position_or_len test xs) (length xs)) refl (position_or_len-within test xs) where
  by-test : (b : Bool) → nat_lt (position_or_len test xs) (length xs) ≡ b → position_or_len test xs ≤ length xs → (unwrap_or (cond b (Some (position_or_len test xs)) None) (length xs) ≡ position_or_len test xs) × (unwrap_or (cond b (Some (position_or_len test xs)) None) (length xs) ≤ length xs)
  by-test true is within = (refl, within)
  by-test false is within = (grind (arith, nat_tests), omega arith)
