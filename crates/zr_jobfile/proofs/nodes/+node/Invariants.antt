use Rattle.std.proofs.Common.{◌≡◌, List, ◌++◌, take, map}
use Rattle.toml.specs.View.{view}
use Rattle.toml.proofs.Views.{Entry}
use Rattle.zr_jobfile.specs.Nodes.{data_tree}
use Rattle.zr_names.specs.Tree.{pair_tree, tree}
use Rattle.zr_jobfile.proofs.Documents.{entry_tree}
use Rattle.zr_jobfile.proofs.nodes.+node.Given as goal

abbrev pub invariant-items-loop-value : goal.invariant-items-loop-value
invariant-items-loop-value l =
    map tree l.nodes.items ≡ map (λ value. data_tree (view value)) (take l.value-index l.value-items)

abbrev pub invariant-pairs-loop-key : goal.invariant-pairs-loop-key
invariant-pairs-loop-key l =
    (done : List Entry) × (l.table.entries ≡ done ++ l.key-iterator) × (map pair_tree l.pairs.items ≡ map entry_tree done)
