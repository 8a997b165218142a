-- An array has as many parts as nodes.
use Rattle.std.proofs.Common.{◌≡◌, List, [], ◌∷◌, refl, ap, suc, length}
use Rattle.zr_names.specs.Tree.{items_tree}
use Rattle.zr_names.specs.declared.node.Node.{Node}
use Rattle.zr_jobwalk.specs.Arrays.{size_of}

pub size_is : (nodes : List Node) → length nodes ≡ size_of (items_tree nodes)
size_is [] = refl
size_is (node ∷ nodes) = ap suc (size_is nodes)
