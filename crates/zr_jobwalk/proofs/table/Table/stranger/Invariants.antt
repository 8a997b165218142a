use Rattle.std.proofs.Common.{◌≡◌, drop, fold}
use Rattle.std.specs.Option.{option_map}
use Rattle.zr_names.specs.Tree.{members_tree}
use Rattle.zr_jobwalk.specs.Fields.{least, lesser, strangers}
use Rattle.zr_jobwalk.proofs.table.Table.stranger.Given as goal

abbrev pub invariant-loop-pair : goal.invariant-loop-pair
invariant-loop-pair l =
    fold lesser (option_map (λ key. key.now) l.least) (strangers l.fields (members_tree (drop l.pair-index l.pair-items)))
    ≡ least (strangers l.fn.fields (members_tree l.fn.self.pairs.now))
