use Rattle.std.proofs.Common.{◌≡◌, true, List, AllPairs, All, subst, sym}
use Rattle.zr_command.specs.Names.{is_below}
use Rattle.zr_world.specs.Pools.{IsWellFormed, IsWellFormedSet}
use Rattle.zr_world.specs.declared.pools.Dataset.{Dataset}
use Rattle.zr_world.specs.declared.pools.Pools.{Pools}
use Rattle.zr_model.proofs.formed.is_well_formed.Goals as goal

IsWellFormed-of : (pools : Pools) (sets : List Dataset) → sets ≡ pools.sets → AllPairs (λ a b. is_below a.path b.path ≡ true) sets → All (IsWellFormedSet pools.next_txg) sets → IsWellFormed pools
IsWellFormed-of pools sets same rising each = record {
  rising = subst (λ (xs : List Dataset). AllPairs (λ a b. is_below a.path b.path ≡ true) xs) same rising;
  each = subst (All (IsWellFormedSet pools.next_txg)) same each;
}

pub returns-then-are_rising-clause-formed : goal.returns-then-are_rising-clause-formed
returns-then-are_rising-clause-formed c = λ passed.
    IsWellFormed-of c.args.pools.now c.as_slice-sets.result.now c.as_slice-sets.ensures (c.are_rising.ensures.rising c.if-are_rising.true) (c.is_each_dataset.ensures.formed passed)

pub returns-then-are_rising-clause-only : goal.returns-then-are_rising-clause-only
returns-then-are_rising-clause-only c = λ formed.
    let each : All (IsWellFormedSet c.args.pools.now.next_txg) c.as_slice-sets.result.now = subst (All (IsWellFormedSet c.args.pools.now.next_txg)) (sym c.as_slice-sets.ensures) formed.each in
    c.is_each_dataset.ensures.only (λ k d lt. (each k d lt).in_order) (λ k d lt. (each k d lt).names_differ) (λ k d lt. (each k d lt).tags_differ) (λ k d lt. (each k d lt).marks_free) (λ k d lt. (each k d lt).made_before)
