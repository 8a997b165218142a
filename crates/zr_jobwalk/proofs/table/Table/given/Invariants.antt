use Rattle.std.proofs.Common.{◌≡◌, drop}
use Rattle.zr_names.specs.Tree.{members_tree}
use Rattle.zr_jobwalk.specs.Fields.{given}
use Rattle.zr_jobwalk.proofs.table.Table.given.Given as goal

abbrev pub invariant-loop-pair : goal.invariant-loop-pair
invariant-loop-pair l =
    given l.key (members_tree (drop l.pair-index l.pair-items))
    ≡ given l.fn.key (members_tree l.fn.self.pairs.now)
