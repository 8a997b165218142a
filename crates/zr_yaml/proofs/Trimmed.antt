-- Blanks at a text's end.
use Rattle.std.proofs.Common.{◌≡◌, ℕ, zero, suc, ◌+◌, ◌-◌, ◌<◌, ◌≤◌, false, List, [], ◌∷◌, ◌++◌, length, take, get_or, refl, sym, ap, subst, ◌∙◌, arith}
use Rattle.std.proofs.lemmas.List.{take_more}
use Rattle.std.proofs.lemmas.Bool.Decides.{nat_tests}
use Rattle.zr_yaml.specs.Scan.{is_blank}
use Rattle.zr_yaml.specs.Scalar.{trimmed, before_trimmed}

trimmed_append_blank : (xs : List ℕ) → trimmed (xs ++ 32 ∷ []) ≡ trimmed xs
trimmed_append_blank [] = refl
trimmed_append_blank (b ∷ xs) = ap (before_trimmed b) (trimmed_append_blank xs)

before_some : (b c : ℕ) (xs : List ℕ) → before_trimmed b (xs ++ c ∷ []) ≡ b ∷ (xs ++ c ∷ [])
before_some b c [] = refl
before_some b c (x ∷ xs) = refl

trimmed_append_other : (xs : List ℕ) (c : ℕ) → is_blank c ≡ false → trimmed (xs ++ c ∷ []) ≡ xs ++ c ∷ []
trimmed_append_other [] c h = rw h refl
trimmed_append_other (b ∷ xs) c h = ap (before_trimmed b) (trimmed_append_other xs c h) ∙ before_some b c xs

one_less : (xs : List ℕ) (i : ℕ) → i < length xs → get_or xs i 0 ≡ 32 → trimmed (take i xs) ≡ trimmed (take (i + 1) xs)
one_less xs i inside e =
    sym (ap trimmed (take_more xs i 0 inside ∙ ap (λ b. take i xs ++ b ∷ []) e) ∙ trimmed_append_blank (take i xs))

no_less : (xs : List ℕ) (i : ℕ) → i < length xs → is_blank (get_or xs i 0) ≡ false →
    trimmed (take (i + 1) xs) ≡ take (i + 1) xs
no_less xs i inside e = rw (take_more xs i 0 inside) (trimmed_append_other (take i xs) (get_or xs i 0) e)

-- a blank at the end of a front
pub blank_before : (xs : List ℕ) (end : ℕ) → 0 < end → end ≤ length xs → get_or xs (end - 1) 0 ≡ 32 →
    trimmed (take (end - 1) xs) ≡ trimmed (take end xs)
blank_before xs end some within e =
    let same : end - 1 + 1 ≡ end = omega arith in
    subst (λ (n : ℕ). trimmed (take (end - 1) xs) ≡ trimmed (take n xs)) same (one_less xs (end - 1) (omega arith) e)

-- another byte at the end of a front
pub other_before : (xs : List ℕ) (end : ℕ) → 0 < end → end ≤ length xs → (get_or xs (end - 1) 0 ≡ 32 → ⊥) →
    trimmed (take end xs) ≡ take end xs
other_before xs end some within h =
    let same : end - 1 + 1 ≡ end = omega arith in
    let other : is_blank (get_or xs (end - 1) 0) ≡ false = grind (arith, nat_tests) in
    subst (λ (n : ℕ). trimmed (take n xs) ≡ take n xs) same (no_less xs (end - 1) (omega arith) other)

-- an empty front
pub nothing_before : (xs : List ℕ) (end : ℕ) → end ≤ 0 → trimmed (take end xs) ≡ take end xs
nothing_before xs zero h = refl
nothing_before xs (suc n) h = absurd (omega arith)
