-- Lines in the byte order of their keys.
use Rattle.std.proofs.Common.{◌≡◌, ℕ, suc, ◌+◌, ◌<◌, Bool, false, List, [], ◌∷◌, length, get_or, map, refl, arith}
use Rattle.std.specs.List.Sorted.{IsSortedBy}
use Rattle.std.specs.Cmp.{IsStrictWeakOrder}
use Rattle.std.specs.Cmp.Lexicographic.{nat_list_cmp_total}
use Rattle.std.specs.Ordering.{is_lt}
use Rattle.std.proofs.lemmas.List.{get_or-map, length-map}
use Rattle.std.proofs.lemmas.List.Sorted.{ranks_by}
use Rattle.zr_jobwalk.specs.declared.line.Line.{Line}
use Rattle.zr_jobwalk.specs.Lines.{line_cmp, pair_of, stands_before}

pub line_ranks : IsStrictWeakOrder (λ a b. is_lt (line_cmp a b))
line_ranks = ranks_by nat_list_cmp_total (λ (l : Line). l.key.now)

pub sorted_lines : (lines : List Line) → IsSortedBy (λ a b. is_lt (line_cmp a b)) lines → IsSortedBy stands_before (map pair_of lines)
sorted_lines [] up = λ k d low high. absurd (omega (arith, high))
sorted_lines (one ∷ lines) up = λ k d low high.
    let long = length-map (one ∷ lines) pair_of in
    let within : k + 1 < length (one ∷ lines) = omega (arith, long, high) in
    rw (get_or-map pair_of (one ∷ lines) (k + 1) one d within, get_or-map pair_of (one ∷ lines) k one d (omega arith)) (up k one low within)
