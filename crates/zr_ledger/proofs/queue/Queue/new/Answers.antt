use Rattle.std.proofs.Common.{rules}
use Rattle.zr_ledger.proofs.Indexing.{indexed-nothing}
use Rattle.zr_ledger.proofs.queue.Queue.new.Goals as goal

pub invariant_of-result : goal.invariant_of-result
invariant_of-result c = indexed-nothing _ _ _ c.new.ensures.items c.new-2.ensures.items (c.in_ok-vec.ensures.items_if_clones_equal (λ y e. search rules))
