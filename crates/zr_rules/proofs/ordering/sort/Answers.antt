use Rattle.std.proofs.Common.{rules}
use Rattle.std.specs.Ordering.{is_lt}
use Rattle.std.proofs.lemmas.List.Sorted.{answers_always}
use Rattle.zr_rules.specs.Order.{placed_cmp}
use Rattle.zr_rules.proofs.Orders.{placed_ranks}
use Rattle.zr_rules.proofs.ordering.sort.Goals as goal

pub returns-clause-in_order : goal.returns-clause-in_order
returns-clause-in_order c =
    c.in_ok-sort_by.ensures.sorted (λ a b. is_lt (placed_cmp a b)) placed_ranks (answers_always _ _ _ (λ f a r f' called. search rules))
