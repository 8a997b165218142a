use Rattle.std.proofs.Common.{◌≡◌, ◌≢◌, ◌&&◌, ◌||◌, ℕ, zero, suc, ◌<◌, ◌^◌, Bool, true, false, not, List, [], ◌∷◌, length, nat_eq, nat_le, nat_lt, refl, arith, ap, ◌∙◌}
use borrow.Author.Count.{below_more}
use Rattle.std.specs.Fmt.{decimal}
use Rattle.std.specs.Str.Parse.{digits_value}
use Rattle.std.proofs.lemmas.Bool.Decides.{nat_tests}
use Rattle.std.proofs.lemmas.Cmp.{nat_list_eq_equiv}
use Rattle.std.proofs.lemmas.Fmt.{decimal_is_IsNumeral}
use Rattle.zr_names.specs.Names.{IsName}
use Rattle.zr_listing.specs.Columns.{IsNumber}
use Rattle.zr_exec.specs.Columns.{has_bad_place, is_name, is_number, number_in}
use Rattle.zr_command.specs.Names.{same_text}

pub and-both : (x y : Bool) → (x && y) ≡ true → (x ≡ true) × (y ≡ true)
and-both true true e = (refl, refl)
and-both true false e = cc
and-both false y e = cc

pub same_itself : (text : List ℕ) → same_text text text ≡ true
same_itself text = nat_list_eq_equiv.refl text

pub same_once : (one other : List ℕ) → same_text one other ≡ true → one ≡ other
same_once [] [] e = refl
same_once [] (y ∷ ys) e = cc
same_once (x ∷ xs) [] e = cc
same_once (x ∷ xs) (y ∷ ys) e =
    let both = and-both (nat_eq x y) (same_text xs ys) e in
    let first : x ≡ y = grind (arith, nat_tests) in
    let rest = same_once xs ys both.1 in
    cc

pub not-true : (b : Bool) → not b ≡ true → b ≡ false
not-true true e = cc
not-true false e = refl

pub not-false : (b : Bool) → (b ≡ true → ⊥) → b ≡ false
not-false true wrong = absurd (wrong refl)
not-false false wrong = refl

pub not_same : (one other : List ℕ) → one ≢ other → same_text one other ≡ false
not_same one other differ = not-false (same_text one other) (λ e. differ (same_once one other e))

no_bad-place : (is_bad : List ℕ → ℕ → Bool) (text : List ℕ) (n : ℕ) → ((place : ℕ) → place < n → is_bad text place ≡ false) → has_bad_place is_bad text n ≡ false
no_bad-place is_bad text zero good = refl
no_bad-place is_bad text (suc n) good =
    let here : is_bad text n ≡ false = good n (omega arith) in
    rw here (no_bad-place is_bad text n (λ place below. good place (omega arith)))

or-neither : (x y : Bool) → (x || y) ≡ false → (x ≡ false) × (y ≡ false)
or-neither true y e = cc
or-neither false true e = cc
or-neither false false e = (refl, refl)

good-places : (is_bad : List ℕ → ℕ → Bool) (text : List ℕ) (n : ℕ) → has_bad_place is_bad text n ≡ false → (place : ℕ) → place < n → is_bad text place ≡ false
good-places is_bad text zero good place below = absurd (omega arith)
good-places is_bad text (suc n) good place below =
    let apart = or-neither (is_bad text n) (has_bad_place is_bad text n) good in
    below_more (λ k. is_bad text k ≡ false) n (good-places is_bad text n apart.1) apart.0 place (omega arith)

-- the test finds names, and no others
pub is_name-passes : (is_bad : List ℕ → ℕ → Bool) (limit : ℕ) (text : List ℕ) → IsName is_bad limit text → is_name is_bad limit text ≡ true
is_name-passes is_bad limit text name =
    let some : same_text text [] ≡ false = not_same text [] (λ none. let count : length text ≡ 0 = ap length none in absurd (let has = name.not_empty in omega arith)) in
    let short : nat_le (length text) limit ≡ true = (let most = name.not_long in grind (arith, nat_tests)) in
    let good : has_bad_place is_bad text (length text) ≡ false = no_bad-place is_bad text (length text) name.no_place_bad in
    rw (some, short, good) refl

pub nonempty : (text : List ℕ) → same_text text [] ≡ false → 0 < length text
nonempty [] e = cc
nonempty (b ∷ bs) e = omega arith

pub IsName-from : (is_bad : List ℕ → ℕ → Bool) (limit : ℕ) (text : List ℕ) → is_name is_bad limit text ≡ true → IsName is_bad limit text
IsName-from is_bad limit text passes =
    let outer = and-both (not (same_text text []) && nat_le (length text) limit) (not (has_bad_place is_bad text (length text))) passes in
    let inner = and-both (not (same_text text [])) (nat_le (length text) limit) outer.0 in
    let short : nat_le (length text) limit ≡ true = inner.1 in
    record {
      not_empty = nonempty text (not-true (same_text text []) inner.0);
      not_long = grind (arith, nat_tests);
      no_place_bad = good-places is_bad text (length text) (not-true (has_bad_place is_bad text (length text)) outer.1);
    }

-- the test finds printed numbers, and their value
pub number-read : (column : List ℕ) (n : ℕ) → IsNumber column n → (is_number column ≡ true) × (number_in column ≡ n)
number-read column n is =
    let value : number_in column ≡ n = ap (digits_value 10) is.0 ∙ (decimal_is_IsNumeral n is.1).1 in
    let printed : same_text column (decimal (number_in column)) ≡ true = rw (value, is.0) (same_itself (decimal n)) in
    let small : n < 2 ^ 64 = is.1 in
    let fits : nat_lt (number_in column) (2 ^ 64) ≡ true = rw value (grind (arith, nat_tests)) in
    (rw (printed, fits) refl, value)

pub IsNumber-from : (column : List ℕ) → is_number column ≡ true → IsNumber column (number_in column)
IsNumber-from column passes =
    let both = and-both (same_text column (decimal (number_in column))) (nat_lt (number_in column) (2 ^ 64)) passes in
    let fits : nat_lt (number_in column) (2 ^ 64) ≡ true = both.1 in
    (same_once column (decimal (number_in column)) both.0, grind (arith, nat_tests))
