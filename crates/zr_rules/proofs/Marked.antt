-- The marks at an iteration of a loop over rows.
use Rattle.std.proofs.Common.{◌≡◌, ℕ, ◌+◌, ◌<◌, ◌≤◌, ◌≢◌, Bool, true, false, not, ◌||◌, List, length, get_or, set, Some, refl, sym, ap, ◌∙◌, ⊎_elim, arith}
use Rattle.std.specs.Prelude.{slice_get, if◌then◌else◌}
use Rattle.std.proofs.lemmas.Bool.{cases_eq}
use Rattle.std.proofs.lemmas.List.{get_or-set_same, get_or-set_other, length-set}
use Rattle.std.proofs.lemmas.Option.{slice_get-get_or, slice_get_within, same_Some}
use mathlib.Core.Bool.{beq}
use Rattle.zr_rules.specs.Marks.{AlsoMarks}

-- the rows before this place are marked, and the others not yet
pub record MarksBefore {Row : Type 0} (test : ℕ → Row → Bool) (rows : List Row) (place : ℕ) (before after : List Bool) : Type 0 where
  pub passed : (i : ℕ) (row : Row) → slice_get rows i ≡ Some row → i < place → get_or after i false ≡ (get_or before i false || test i row)
  pub ahead : (i : ℕ) → place ≤ i → get_or after i false ≡ get_or before i false
  pub as_long : length after ≡ length before

pub or-yes : (b : Bool) → (b || true) ≡ true
or-yes true = refl
or-yes false = refl

pub or-no : (b : Bool) → (b || false) ≡ b
or-no true = refl
or-no false = refl

module _ {Row : Type 0} (test : ℕ → Row → Bool) (rows : List Row) (i : ℕ) (row : Row) (inside : i < length rows) (is : row ≡ get_or rows i row) where
  tested : (k : ℕ) (other : Row) (b : Bool) → slice_get rows k ≡ Some other → k ≡ i → test i row ≡ b → test k other ≡ b
  tested k other b at same tests =
      let equal : other ≡ row = same_Some other row (sym at ∙ ap (slice_get rows) same ∙ slice_get-get_or rows i row inside ∙ ap Some (sym is)) in
      (λ z. test (same z) (equal z)) ∙ tests

  pub mark-yes : (before after : List Bool) → i < length after → test i row ≡ true → MarksBefore test rows i before after → MarksBefore test rows (i + 1) before (set after i true)
  mark-yes before after within kept so_far = record {
    passed = λ k other at low. ⊎_elim
        (λ same. ap (λ (n : ℕ). get_or (set after i true) n false) same ∙ get_or-set_same after i true false within
        ∙ sym (ap (λ (b : Bool). get_or before k false || b) (tested k other true at same kept) ∙ or-yes (get_or before k false)))
        (λ apart. get_or-set_other after i k true false apart ∙ so_far.passed k other at (omega arith))
        (cases_eq k i);
    ahead = λ k far. let apart : k ≢ i = omega arith in get_or-set_other after i k true false apart ∙ so_far.ahead k (omega arith);
    as_long = length-set after i true ∙ so_far.as_long;
  }

  pub mark-no : (before after : List Bool) → test i row ≡ false → MarksBefore test rows i before after → MarksBefore test rows (i + 1) before after
  mark-no before after other_than so_far = record {
    passed = λ k other at low. ⊎_elim
        (λ same. so_far.ahead k (omega (arith, same)) ∙ sym (ap (λ (b : Bool). get_or before k false || b) (tested k other false at same other_than) ∙ or-no (get_or before k false)))
        (λ apart. so_far.passed k other at (omega arith))
        (cases_eq k i);
    ahead = λ k far. so_far.ahead k (omega arith);
    as_long = so_far.as_long;
  }

pub mark-all : {Row : Type 0} (test : ℕ → Row → Bool) (rows : List Row) (place : ℕ) (before after : List Bool) → length rows ≤ place → MarksBefore test rows place before after → AlsoMarks test rows before after
mark-all test rows place before after past so_far = record {
  marks = λ i row at. let inside = slice_get_within rows i row at in so_far.passed i row at (omega (arith, inside, past));
  as_long = so_far.as_long;
}

-- a test of a rule that may ask for the other rows
pub differs : (found negate : Bool) → not (beq found negate) ≡ (if negate then not found else found)
differs true true = refl
differs true false = refl
differs false true = refl
differs false false = refl
