use Rattle.std.proofs.Common.{◌≡◌, take}
use Rattle.zr_filter.specs.Rule.{allows, counting, greatest, rank_among}
use Rattle.zr_filter.proofs.filter.allows.Given as goal

abbrev pub invariant-loop-entry : goal.invariant-loop-entry
invariant-loop-entry l = record {
  top : l.greatest ≡ greatest (rank_among l.among l.path) (take l.entry-index l.entries);
  answer : l.allow ≡ allows (counting (rank_among l.among l.path) (take l.entry-index l.entries));
}
