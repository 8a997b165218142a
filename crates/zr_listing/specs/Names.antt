use Rattle.std.specs.Prelude.{◌≡◌, ℕ, ◌-◌, Bool, true, List, AllPairs, length, slice_get}
use Rattle.std.specs.Borrow.{Bor}
use Rattle.std.specs.List.{list_any}
use Rattle.std.specs.Option.{option_map_or}
use Rattle.std.specs.Ordering.{is_eq, is_lt, nat_cmp}
use Rattle.std.specs.Cmp.Lexicographic.{slice_cmp}

-- two names compare as equal
abbrev pub ties : List ℕ → List ℕ → Bool
ties a b = is_eq (slice_cmp nat_cmp a b)

-- a name is less than another
abbrev pub is_less : List ℕ → List ℕ → Bool
is_less a b = is_lt (slice_cmp nat_cmp a b)

-- a name is among these
abbrev pub is_among : List (Bor (List ℕ)) → List ℕ → Bool
is_among names q = list_any (λ k. ties q k.now) names

-- each name is less than those after it
abbrev pub Rises : List (Bor (List ℕ)) → Type 0
Rises names = AllPairs (λ a b. is_less a.now b.now ≡ true) names

-- a name is greater than the last of these, where there is one
abbrev pub is_after : List (Bor (List ℕ)) → List ℕ → Bool
is_after names q = option_map_or (λ last. is_less last.now q) (slice_get names (length names - 1)) true

-- each of the others is less than some of these
abbrev pub AreBelow : List (Bor (List ℕ)) → List (Bor (List ℕ)) → Type 0
AreBelow names others = (q : List ℕ) → is_among others q ≡ true → list_any (λ k. is_less q k.now) names ≡ true
