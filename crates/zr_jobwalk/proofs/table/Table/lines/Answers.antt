use Rattle.std.proofs.Common.{◌≡◌, List, ℕ, map, subst, IsPermutation}
use Rattle.std.proofs.lemmas.List.Sorted.{IsPermutation-map}
use Rattle.zr_names.specs.Tree.{Tree}
use Rattle.zr_jobwalk.specs.Lines.{pair_of}
use Rattle.zr_jobwalk.proofs.Sorting.{sorted_lines}
use Rattle.zr_jobwalk.proofs.table.Table.lines.Goals as goal

pub returns : goal.returns
returns c =
    let Same : List (List ℕ × Tree) → Type 0 = λ ls. IsPermutation ls (map pair_of c.sort.new.lines.items) in
    record {
      same = subst Same c.in_ok-lines.ensures (IsPermutation-map pair_of _ _ c.sort.ensures.same);
      sorted = sorted_lines _ c.in_ok-sort.ensures.sorted;
    }
