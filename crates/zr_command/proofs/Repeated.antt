use Rattle.std.proofs.Common.{◌≡◌, ◌≢◌, ◌+◌, ◌<◌, ◌≤◌, ℕ, true, false, List, [], ◌∷◌, ◌++◌, AllPairs, arith, ap, ◌∙◌, sym, subst, length, take, get_or, length-take}
use Rattle.std.specs.List.{list_any}
use Rattle.std.proofs.lemmas.List.{take_more, take_all, get_or-take, get_or_default}
use Rattle.std.proofs.lemmas.List.Folds.{Any-from_list_any, list_any-from_Any}
use Rattle.std.proofs.lemmas.List.Quantifiers.{all_pairs_push}
use Rattle.std.proofs.lemmas.Slice.Eq.{bytes_eq-Decides}
use Rattle.zr_command.specs.Group.{IsFirstRepeated}
use Rattle.zr_command.specs.Names.{same_text}

-- a name that stands among those before
pub repeated : (names : List (List ℕ)) (place : ℕ) (name : List ℕ) → place < length names → name ≡ get_or names place name → AllPairs (λ a b. a ≢ b) (take place names) → list_any (λ other. same_text other name) (take place names) ≡ true → IsFirstRepeated names place
repeated names place name inside is differ found =
    let at = Any-from_list_any (λ other. same_text other name) (take place names) found in
    let low : at.0 < place = omega (arith, length-take place names, at.2) in
    let there : get_or names at.0 [] ≡ at.1 =
    get_or_default names at.0 [] at.1 (omega arith) ∙ sym (get_or-take place names at.0 at.1 low) ∙ at.3 in
    record {
      before = at.0;
      earlier = low;
      inside = inside;
      same = there ∙ (bytes_eq-Decides at.1 name).0 at.4 ∙ is ∙ get_or_default names place name [] inside;
      differ = differ;
    }

-- a name that doesn't: one more differs
pub one-more : (names : List (List ℕ)) (place : ℕ) (name : List ℕ) → place < length names → name ≡ get_or names place name → AllPairs (λ a b. a ≢ b) (take place names) → list_any (λ other. same_text other name) (take place names) ≡ false → AllPairs (λ a b. a ≢ b) (take (place + 1) names)
one-more names place name inside is differ missing =
    let front = take place names in
    let grown : take (place + 1) names ≡ front ++ name ∷ [] = take_more names place name inside ∙ ap (λ n. front ++ n ∷ []) (sym is) in
    rw grown (all_pairs_push (λ a b. a ≢ b) front name differ (λ k d low same.
    let found = list_any-from_Any (λ other. same_text other name) front
    (k, get_or front k d, low, get_or_default front k (get_or front k d) d low, (bytes_eq-Decides (get_or front k d) name).1 same) in
    cc))

-- all names are among those that differ
pub all-differ : (names : List (List ℕ)) (place : ℕ) → length names ≤ place → AllPairs (λ a b. a ≢ b) (take place names) → AllPairs (λ a b. a ≢ b) names
all-differ names place past differ = subst (λ (l : List (List ℕ)). AllPairs (λ a b. a ≢ b) l) (take_all place names past) differ
