-- Lines, from the front of a text on.
use Rattle.std.proofs.Common.{◌≡◌, ℕ, suc, ◌+◌, ◌<◌, ◌≤◌, Bool, true, false, cond, ◌==◌, List, [], ◌∷◌, length, take, drop, refl, sym, ap, ◌∙◌, arith}
use Rattle.zr_yaml.specs.Lines.{first_length, lines_of, on_first}

abbrev Cut : List ℕ → Type 0
Cut text = first_length text < length text →
    lines_of text ≡ take (first_length text) text ∷ lines_of (drop (suc (first_length text)) text)

cut_more : (test : Bool) (b : ℕ) (bs : List ℕ) → Cut bs → cond test 0 (suc (first_length bs)) < suc (length bs)
    → cond test ([] ∷ lines_of bs) (on_first b (lines_of bs))
    ≡ take (cond test 0 (suc (first_length bs))) (b ∷ bs) ∷ lines_of
    (drop (suc (cond test 0 (suc (first_length bs)))) (b ∷ bs))
cut_more true b bs h short = refl
cut_more false b bs h short = ap (on_first b) (h (omega arith))

cut : (text : List ℕ) → Cut text
cut [] = λ h. absurd (omega arith)
cut (b ∷ bs) = cut_more (b == 10) b bs (cut bs)

-- a newline follows the first line
pub cut_line : (text : List ℕ) (n : ℕ) → n ≡ first_length text → n < length text →
    lines_of text ≡ take n text ∷ lines_of (drop (n + 1) text)
cut_line text n e h =
    let short : first_length text < length text = omega (arith, e) in
    let next : suc (first_length text) ≡ n + 1 = omega (arith, e) in
    cut text short ∙ ap (λ k. take k text ∷ lines_of (drop (suc (first_length text)) text)) (sym e)
    ∙ ap (λ k. take n text ∷ lines_of (drop k text)) next

abbrev Only : List ℕ → Type 0
Only text = length text ≤ first_length text → 0 < length text → lines_of text ≡ text ∷ []

only_cases : (b c : ℕ) (bs : List ℕ) → Only (c ∷ bs) → suc (length bs) ≤ first_length (c ∷ bs) →
    on_first b (lines_of (c ∷ bs)) ≡ (b ∷ c ∷ bs) ∷ []
only_cases b c bs h long = ap (on_first b) (h long (omega arith))

only_more : (test : Bool) (b : ℕ) (bs : List ℕ) → Only bs → suc (length bs) ≤ cond test 0 (suc (first_length bs)) →
    cond test ([] ∷ lines_of bs) (on_first b (lines_of bs)) ≡ (b ∷ bs) ∷ []
only_more true b bs h long = absurd (omega arith)
only_more false b [] h long = refl
only_more false b (c ∷ bs) h long = only_cases b c bs h (omega arith)

only : (text : List ℕ) → Only text
only [] = λ long some. absurd (omega arith)
only (b ∷ bs) = λ long some. only_more (b == 10) b bs (only bs) long

-- the text is one line
pub only_line : (text : List ℕ) (n : ℕ) → n ≡ first_length text → length text ≤ n → 0 < length text →
    lines_of text ≡ text ∷ []
only_line text n e long some = only text (omega (arith, e)) some
