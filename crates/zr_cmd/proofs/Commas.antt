use Rattle.std.proofs.Common.{◌≡◌, ◌==◌, ℕ, suc, ◌+◌, ◌-◌, ◌<◌, ◌≤◌, Bool, true, false, cond, not, nat_lt, Some, None, List, [], ◌∷◌, ◌++◌, length, get_or, take, drop, position, All, refl, arith, ap, ◌∙◌, sym, append_assoc, length-take}
use Rattle.std.specs.List.{position_or_len, AllByRecursion, join_with_byte, slice_split}
use Rattle.zr_cmd.specs.Steps.{with_commas}
use Rattle.zr_cmd.specs.Words.{IsVersion}
use Rattle.std.proofs.lemmas.Bool.Decides.{nat_tests}
use Rattle.std.proofs.lemmas.List.{append-nil, take-append-drop, drop_more, flat_map_more, get_or-take, take_more, take_rest, get_or_default}
use Rattle.std.proofs.lemmas.List.Elements.{All-from_recursion}
use Rattle.std.proofs.lemmas.List.Quantifiers.{position-Some}
use Rattle.std.proofs.lemmas.List.Splits.{slice_split_none, slice_split_at}

-- a test that fails first, and a count of failed tests that has gone past all
fails-first : (b : Bool) (n m : ℕ) → suc n ≤ cond (not b) (1 + m) 0 → (b ≡ false) × (n ≤ m)
fails-first true n m past = absurd (omega arith)
fails-first false n m past = (refl, omega arith)

none-passes : (p : ℕ → Bool) (xs : List ℕ) → length xs ≤ position_or_len p xs → AllByRecursion (λ x. p x ≡ false) xs
none-passes p [] past = tt
none-passes p (x ∷ xs) past =
    let first = fails-first (p x) (length xs) (position_or_len p xs) past in
    (first.0, none-passes p xs first.1)

no-choice : (b : Bool) (x : ℕ) → cond b (Some x) None ≡ None → b ≡ false
no-choice true x none = cc
no-choice false x none = refl

-- a text without the byte is one part
pub split_none : (byte : ℕ) (text : List ℕ) → position (λ b. b == byte) text ≡ None → slice_split (λ b. b == byte) text ≡ text ∷ []
split_none byte text none =
    let p : ℕ → Bool = λ b. b == byte in
    let past = no-choice (nat_lt (position_or_len p text) (length text)) (position_or_len p text) none in
    slice_split_none p text (All-from_recursion (λ b. (b == byte) ≡ false) text (none-passes p text (grind (arith, nat_tests))))

-- the first part ends at the first such byte
pub split_first : (byte : ℕ) (text : List ℕ) (i : ℕ) → position (λ b. b == byte) text ≡ Some i → slice_split (λ b. b == byte) text ≡ take i text ∷ slice_split (λ b. b == byte) (take (length text - (i + 1)) (drop (i + 1) text))
split_first byte text i first =
    let p : ℕ → Bool = λ b. b == byte in
    let at = position-Some p text i 0 first in
    let inside : i < length text = at.0 in
    let whole : text ≡ take i text ++ get_or text i 0 ∷ drop (i + 1) text = sym (take-append-drop i text) ∙ ap (λ l. take i text ++ l) (drop_more text i 0 inside) in
    let lacks : All (λ b. (b == byte) ≡ false) (take i text) = λ k d below.
    let low : k < i = omega (arith, length-take i text) in
    rw (get_or-take i text k d low) (rw (get_or_default text k d 0 (omega arith)) (at.2 k low)) in
    rw (take_rest text (i + 1)) (ap (slice_split p) whole ∙ slice_split_at p (take i text) (get_or text i 0) (drop (i + 1) text) lacks at.1)

-- names behind the first, each after a comma
pub joined-commas : (first : List ℕ) (others : List (List ℕ)) → first ++ with_commas others ≡ join_with_byte 44 (first ∷ others)
joined-commas first [] = append-nil first
joined-commas first (next ∷ others) = ap (λ l. first ++ 44 ∷ l) (joined-commas next others)

-- one more name
pub commas-more : (names : List (List ℕ)) (i : ℕ) (name : List ℕ) (old before : List ℕ) → i < length names → name ≡ get_or names i name → old ≡ before ++ with_commas (take i names) → old ++ 44 ∷ name ≡ before ++ with_commas (take (i + 1) names)
commas-more names i name old before inside is so_far =
    let front = take i names in
    let grown : take (i + 1) names ≡ front ++ name ∷ [] = take_more names i name inside ∙ ap (λ n. front ++ n ∷ []) (sym is) in
    ap (λ l. l ++ 44 ∷ name) so_far ∙ append_assoc before (with_commas front) (44 ∷ name)
    ∙ ap (λ l. before ++ l) (flat_map_more (λ (text : List ℕ). 44 ∷ text) [] front name ∙ ap with_commas (sym grown))

all-push : (names : List (List ℕ)) (name : List ℕ) → AllByRecursion (λ n. IsVersion n) names → IsVersion name → AllByRecursion (λ n. IsVersion n) (names ++ name ∷ [])
all-push [] name each named = (named, tt)
all-push (x ∷ xs) name each named = (each.0, all-push xs name each.1 named)

pub named-more : (names : List (List ℕ)) (i : ℕ) (name : List ℕ) → i < length names → name ≡ get_or names i name → AllByRecursion (λ n. IsVersion n) (take i names) → IsVersion name → AllByRecursion (λ n. IsVersion n) (take (i + 1) names)
named-more names i name inside is each named =
    rw (take_more names i name inside ∙ ap (λ n. take i names ++ n ∷ []) (sym is)) (all-push (take i names) name each named)

pub named-push : (names : List (List ℕ)) (name : List ℕ) → AllByRecursion (λ n. IsVersion n) names → IsVersion name → AllByRecursion (λ n. IsVersion n) (names ++ name ∷ [])
named-push names name each named = all-push names name each named

-- what holds of each holds of one between
pub one-between : (names : List (List ℕ)) (name : List ℕ) (others : List (List ℕ)) → AllByRecursion (λ n. IsVersion n) (names ++ name ∷ others) → IsVersion name
one-between [] name others each = each.0
one-between (x ∷ xs) name others each = one-between xs name others each.1
