use Rattle.std.proofs.Common.{rules}
use Rattle.std.specs.Ordering.{is_lt}
use Rattle.std.proofs.lemmas.List.Sorted.{answers_always}
use Rattle.zr_listing.specs.Order.{row_cmp}
use Rattle.zr_listing.proofs.Sorting.{row_ranks}
use Rattle.zr_listing.proofs.versions.sort_rows.Goals as goal

pub returns-clause-in_order : goal.returns-clause-in_order
returns-clause-in_order c =
    c.in_ok-sort_by.ensures.sorted (λ a b. is_lt (row_cmp a b)) row_ranks (answers_always _ _ _ (λ f a r f' called. search rules))
