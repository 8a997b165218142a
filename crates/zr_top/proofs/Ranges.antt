-- The numbers of the jobs that are scanned.
use Rattle.std.proofs.Common.{◌≡◌, ◌∙◌, ℕ, zero, suc, ◌+◌, Bool, true, false, cond, [], ◌∷◌, ◌++◌, ap, append-nil, arith, filter}
use Rattle.std.specs.List.{range_with_len}
use Rattle.std.proofs.lemmas.List.Elements.{filter-append}

one-more : (from count : ℕ) → range_with_len from (count + 1) ≡ range_with_len from count ++ (from + count) ∷ []
one-more from zero = let same : from ≡ from + 0 = omega arith in ap (λ n. n ∷ []) same
one-more from (suc count) =
    let longer : suc count + 1 ≡ suc (count + 1) = omega arith in
    let next : (from + 1) + count ≡ from + suc count = omega arith in
    ap (range_with_len from) longer ∙ ap (λ ns. from ∷ ns) (one-more (from + 1) count) ∙ ap (λ n. from ∷ range_with_len (from + 1) count ++ n ∷ []) next

next-number : (count : ℕ) → range_with_len 0 (count + 1) ≡ range_with_len 0 count ++ count ∷ []
next-number count =
    let last : 0 + count ≡ count = omega arith in one-more 0 count ∙ ap (λ n. range_with_len 0 count ++ n ∷ []) last

split : (test : ℕ → Bool) (count : ℕ) → filter test (range_with_len 0 (count + 1)) ≡ filter test (range_with_len 0 count) ++ cond (test count) (count ∷ []) []
split test count = ap (filter test) (next-number count) ∙ filter-append test (range_with_len 0 count) (count ∷ [])

-- a number that passes the test is the last of those that pass
pub one-passes : (test : ℕ → Bool) (count : ℕ) → test count ≡ true → filter test (range_with_len 0 (count + 1)) ≡ filter test (range_with_len 0 count) ++ count ∷ []
one-passes test count e = split test count ∙ ap (λ b. filter test (range_with_len 0 count) ++ cond b (count ∷ []) []) e

-- one that fails it is left out
pub one-fails : (test : ℕ → Bool) (count : ℕ) → test count ≡ false → filter test (range_with_len 0 (count + 1)) ≡ filter test (range_with_len 0 count)
one-fails test count e =
    split test count ∙ ap (λ b. filter test (range_with_len 0 count) ++ cond b (count ∷ []) []) e
    ∙ append-nil (filter test (range_with_len 0 count))
