-- The marks of the rows that the rules of a list keep.
use Rattle.std.proofs.Common.{true, false, ◌≡◌, ℕ, ◌+◌, ◌<◌, ◌≤◌, Bool, ◌||◌, List, [], ◌∷◌, length, get_or, take, map, Option, Some, refl, sym, ap, subst, ◌∙◌, arith}
use Rattle.std.specs.Prelude.{slice_get}
use Rattle.std.specs.List.{list_any}
use Rattle.std.proofs.lemmas.Option.{slice_get_within, slice_get-get_or}
use Rattle.std.proofs.lemmas.List.{get_or-map, take_all, length-map}
use Rattle.std.proofs.lemmas.List.Folds.{list_any_more}
use Rattle.std.specs.Prelude.{All}
use Rattle.zr_rules.specs.declared.rule.RuleSpec.{RuleSpec}
use Rattle.zr_rules.specs.Specs.{HasGrid}
use Rattle.zr_rules.specs.declared.rule.RuleRow.{RuleRow}
use Rattle.zr_rules.specs.declared.compiling.Rule.{Rule}
use Rattle.zr_rules.specs.Rules.{spec_of}
use Rattle.zr_rules.specs.Keeps.{keeps, retained}
use Rattle.zr_rules.specs.Marks.{AlsoMarks}
use Rattle.zr_rules.proofs.Marked.{or-no}

module _ (rows : List RuleRow) (cursor : Option ℕ) (before after : List Bool) where
  -- the rows that a compiled rule keeps are marked too
  abbrev pub RuleMarks : Rule → Type 0
  RuleMarks r = AlsoMarks (λ i row. keeps rows cursor i row (spec_of r)) rows before after

pub any-of-map : {X Y : Type 0} (f : X → Y) (test : Y → Bool) (xs : List X) → list_any test (map f xs) ≡ list_any (λ x. test (f x)) xs
any-of-map f test [] = refl
any-of-map f test (x ∷ xs) = ap (λ b. test (f x) || b) (any-of-map f test xs)

pub grid-at : (rules : List Rule) (i : ℕ) (r : Rule) → i < length rules → r ≡ get_or rules i r → All HasGrid (map spec_of rules) → HasGrid (spec_of r)
grid-at rules i r inside is each =
    subst HasGrid (get_or-map spec_of rules i r (spec_of r) inside ∙ ap spec_of (sym is)) (each i (spec_of r) (rw (length-map rules spec_of) inside))

or-more : (a b c : Bool) → ((a || b) || c) ≡ (a || (b || c))
or-more true b c = refl
or-more false b c = refl

module _ (rows : List RuleRow) (cursor : Option ℕ) where
  -- the rows that one of the first rules keeps are marked too
  abbrev pub FirstMark : List Rule → ℕ → List Bool → List Bool → Type 0
  FirstMark rules place before after = AlsoMarks (λ i row. list_any (λ r. keeps rows cursor i row (spec_of r)) (take place rules)) rows before after

  pub none-mark : (rules : List Rule) (marks : List Bool) → FirstMark rules 0 marks marks
  none-mark rules marks = record { marks = λ i row at. sym (or-no (get_or marks i false)); as_long = refl }

  pub one-more : (rules : List Rule) (place : ℕ) (r : Rule) (before between after : List Bool) → place < length rules → r ≡ get_or rules place r → FirstMark rules place before between → RuleMarks rows cursor between after r → FirstMark rules (place + 1) before after
  one-more rules place r before between after inside is first also = record {
    marks = λ i row at.
        let test : Rule → Bool = λ r. keeps rows cursor i row (spec_of r) in
        let so_far = list_any test (take place rules) in
        also.marks i row at ∙ (λ k. first.marks i row at k || test (is k)) ∙ or-more (get_or before i false) so_far (test (get_or rules place r))
        ∙ ap (λ b. get_or before i false || b) (sym (list_any_more test rules place r inside));
    as_long = also.as_long ∙ first.as_long;
  }

  pub all-mark : (rules : List Rule) (place : ℕ) (before after : List Bool) → length rules ≤ place → FirstMark rules place before after → AlsoMarks (retained (map spec_of rules) rows cursor) rows before after
  all-mark rules place before after past first = record {
    marks = λ i row at.
        let test : Rule → Bool = λ r. keeps rows cursor i row (spec_of r) in
        first.marks i row at ∙ ap (λ b. get_or before i false || b) (ap (list_any test) (take_all place rules past) ∙ sym (any-of-map spec_of (keeps rows cursor i row) rules));
    as_long = first.as_long;
  }

  -- marks that were all taken away before
  pub fresh-marks : (specs : List RuleSpec) (before after : List Bool) → ((i : ℕ) → get_or before i false ≡ false) → length before ≡ length rows → AlsoMarks (retained specs rows cursor) rows before after
      → (i : ℕ) (row : RuleRow) → slice_get rows i ≡ Some row → slice_get after i ≡ Some (retained specs rows cursor i row)
  fresh-marks specs before after clear long also = λ i row at.
      let inside : i < length rows = slice_get_within rows i row at in
      let within : i < length after = omega (arith, inside, long, also.as_long) in
      slice_get-get_or after i false within ∙ ap Some (also.marks i row at ∙ ap (λ b. b || retained specs rows cursor i row) (clear i))
