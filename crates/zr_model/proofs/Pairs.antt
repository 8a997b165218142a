use Rattle.std.proofs.Common.{◌≡◌, ℕ, ◌+◌, ◌-◌, ◌<◌, ◌≤◌, List, length, get_or, drop, take, subst, sym, ap, ◌∙◌, arith, length-drop}
use Rattle.std.proofs.Math.Seq.{take-length}
use borrow.Author.Count.{below_more}
use Rattle.std.specs.List.{All, AllPairs}
use Rattle.std.proofs.lemmas.List.{get_or-drop, get_or_default}

-- the relation holds from each place below this one to every later place
pub record PairsBelow {X : Type 0} (R : X → X → Type 0) (xs : List X) (n : ℕ) : Type 0 where
  pub each : (i j : ℕ) (d : X) → i < n → i < j → j < length xs → R (get_or xs i d) (get_or xs j d)

pub PairsBelow-none : {X : Type 0} (R : X → X → Type 0) (xs : List X) → PairsBelow R xs 0
PairsBelow-none R xs = record { each = λ i j d below. absurd (omega arith) }

pub AllPairs-below : {X : Type 0} (R : X → X → Type 0) (xs : List X) (n : ℕ) → length xs ≤ n → PairsBelow R xs n → AllPairs R xs
AllPairs-below R xs n past pairs = λ i j d before inside. pairs.each i j d (omega arith) before inside

-- the relation holds from one place more, where it holds from there to all that follow
pub PairsBelow-more : {X : Type 0} (R : X → X → Type 0) (xs : List X) (n : ℕ) (x : X) → PairsBelow R xs n → n < length xs → x ≡ get_or xs n x → All (R x) (take (length xs - (n + 1)) (drop (n + 1) xs)) → PairsBelow R xs (n + 1)
PairsBelow-more {X} R xs n x pairs within here later = record { each = at } where
  rest : List X
  rest = drop (n + 1) xs

  whole : take (length xs - (n + 1)) rest ≡ rest
  whole = let count : length xs - (n + 1) ≡ length rest = omega (arith, length-drop (n + 1) xs) in
      ap (λ k. take k rest) count ∙ take-length rest

  after : All (R x) rest
  after = subst (All (R x)) whole later

  reached : (j : ℕ) (d : X) → n < j → j < length xs → R (get_or xs n d) (get_or xs j d)
  reached j d before inside =
      let far : n + 1 + (j - (n + 1)) ≡ j = omega arith in
      let short : j - (n + 1) < length (drop (n + 1) xs) = omega (arith, length-drop (n + 1) xs) in
      let step : R x (get_or (drop (n + 1) xs) (j - (n + 1)) d) = after (j - (n + 1)) d short in
      let place : get_or (drop (n + 1) xs) (j - (n + 1)) d ≡ get_or xs j d = get_or-drop (n + 1) xs (j - (n + 1)) d ∙ ap (λ k. get_or xs k d) far in
      let first : x ≡ get_or xs n d = here ∙ get_or_default xs n x d within in
      subst (λ (y : X). R y (get_or xs j d)) first (subst (λ (y : X). R x y) place step)

  At : ℕ → Type 0
  At i = (j : ℕ) (d : X) → i < j → j < length xs → R (get_or xs i d) (get_or xs j d)

  at : (i j : ℕ) (d : X) → i < n + 1 → i < j → j < length xs → R (get_or xs i d) (get_or xs j d)
  at i j d below = below_more At n (λ k less j d. pairs.each k j d less) reached i below j d

-- where the relation holds of all pairs, each place stands so to all that follow
pub AllPairs-at : {X : Type 0} (R : X → X → Type 0) (xs : List X) (n : ℕ) (x : X) → AllPairs R xs → n < length xs → x ≡ get_or xs n x → All (R x) (take (length xs - (n + 1)) (drop (n + 1) xs))
AllPairs-at {X} R xs n x pairs within here = subst (All (R x)) (sym whole) after where
  rest : List X
  rest = drop (n + 1) xs

  whole : take (length xs - (n + 1)) rest ≡ rest
  whole = let count : length xs - (n + 1) ≡ length rest = omega (arith, length-drop (n + 1) xs) in
      ap (λ k. take k rest) count ∙ take-length rest

  after : All (R x) rest
  after k d short =
      let long = length-drop (n + 1) xs in
      let far : n + 1 + k < length xs = omega (arith, long, short) in
      let place : get_or xs (n + 1 + k) d ≡ get_or rest k d = sym (get_or-drop (n + 1) xs k d) in
      let first : get_or xs n d ≡ x = sym (here ∙ get_or_default xs n x d within) in
      subst (λ (y : X). R y (get_or rest k d)) first (subst (λ (y : X). R (get_or xs n d) y) place (pairs n (n + 1 + k) d (omega arith) far))
