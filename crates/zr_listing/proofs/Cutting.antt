use Rattle.std.proofs.Common.{◌≡◌, ◌==◌, ℕ, suc, ◌+◌, ◌-◌, ◌<◌, ◌≤◌, Bool, true, false, cond, not, nat_lt, Some, None, List, [], ◌∷◌, ◌++◌, length, get_or, take, drop, position, All, refl, arith, ap, ◌∙◌, sym, length-take}
use Rattle.std.specs.List.{position_or_len, AllByRecursion}
use Rattle.std.proofs.lemmas.Bool.Decides.{nat_tests}
use Rattle.std.proofs.lemmas.List.{take-append-drop, drop_more, get_or-take, take_rest, get_or_default}
use Rattle.std.proofs.lemmas.List.Elements.{All-from_recursion}
use Rattle.std.proofs.lemmas.List.Quantifiers.{position-Some}
use Rattle.std.proofs.lemmas.List.Splits.{slice_split_none, slice_split_at, length-slice_split}
use Rattle.zr_listing.specs.Columns.{parted}

-- a test that fails first, and a count of failed tests that has gone past all
fails-first : (b : Bool) (n m : ℕ) → suc n ≤ cond (not b) (1 + m) 0 → (b ≡ false) × (n ≤ m)
fails-first true n m past = absurd (omega arith)
fails-first false n m past = (refl, omega arith)

none-passes : (p : ℕ → Bool) (xs : List ℕ) → length xs ≤ position_or_len p xs → AllByRecursion (λ x. p x ≡ false) xs
none-passes p [] past = tt
none-passes p (x ∷ xs) past =
    let first = fails-first (p x) (length xs) (position_or_len p xs) past in
    (first.0, none-passes p xs first.1)

no-choice : (b : Bool) (x : ℕ) → cond b (Some x) None ≡ None → b ≡ false
no-choice true x none = cc
no-choice false x none = refl

-- a text without the byte is one part
pub parted-none : (byte : ℕ) (text : List ℕ) → position (λ b. b == byte) text ≡ None → parted byte text ≡ text ∷ []
parted-none byte text none =
    let p : ℕ → Bool = λ b. b == byte in
    let past = no-choice (nat_lt (position_or_len p text) (length text)) (position_or_len p text) none in
    slice_split_none p text (All-from_recursion (λ b. (b == byte) ≡ false) text (none-passes p text (grind (arith, nat_tests))))

-- the first part ends at the first such byte
pub parted-first : (byte : ℕ) (text : List ℕ) (i : ℕ) → position (λ b. b == byte) text ≡ Some i → parted byte text ≡ take i text ∷ parted byte (take (length text - (i + 1)) (drop (i + 1) text))
parted-first byte text i first =
    let p : ℕ → Bool = λ b. b == byte in
    let at = position-Some p text i 0 first in
    let inside : i < length text = at.0 in
    let whole : text ≡ take i text ++ get_or text i 0 ∷ drop (i + 1) text = sym (take-append-drop i text) ∙ ap (λ l. take i text ++ l) (drop_more text i 0 inside) in
    let lacks : All (λ b. (b == byte) ≡ false) (take i text) = λ k d below.
    let low : k < i = omega (arith, length-take i text) in
    rw (get_or-take i text k d low) (rw (get_or_default text k d 0 (omega arith)) (at.2 k low)) in
    rw (take_rest text (i + 1)) (ap (parted byte) whole ∙ slice_split_at p (take i text) (get_or text i 0) (drop (i + 1) text) lacks at.1)

-- a text has a part at least
pub length_parted : (byte : ℕ) (text : List ℕ) → 0 < length (parted byte text)
length_parted byte text = omega (arith, length-slice_split (λ b. b == byte) text)
