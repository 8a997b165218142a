use Rattle.std.proofs.Common.{rules}
use Rattle.std.specs.Ordering.{is_lt}
use Rattle.std.proofs.lemmas.List.Sorted.{answers_always}
use Rattle.zr_jobwalk.specs.Lines.{line_cmp}
use Rattle.zr_jobwalk.proofs.Sorting.{line_ranks}
use Rattle.zr_jobwalk.proofs.line.sort.Goals as goal

pub returns-clause-sorted : goal.returns-clause-sorted
returns-clause-sorted c =
    c.in_ok-sort_by.ensures.sorted (λ a b. is_lt (line_cmp a b)) line_ranks (answers_always _ _ _ (λ f a r f' called. search rules))
