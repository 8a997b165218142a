-- The tree of each kind of node.
use Rattle.std.proofs.Common.{◌≡◌, ℕ, Bool, List, Vec, Global, rules}
use Rattle.zr_names.specs.Tree.{null, flag, number, text, mapping, sequence, other, tree, items_tree, members_tree}
use Rattle.zr_names.specs.declared.node.Node.{Node, Null, Flag, Number, Text, Map, Seq, Other, the_lemmas}
use Rattle.zr_names.specs.declared.node.NodePair.{NodePair}

pub tree-Null : tree Null ≡ null
tree-Null = search (rules, the_lemmas)

pub tree-Flag : (b : Bool) → tree (Flag b) ≡ flag b
tree-Flag b = search (rules, the_lemmas)

pub tree-Number : (n : ℕ) → tree (Number n) ≡ number n
tree-Number n = search (rules, the_lemmas)

pub tree-Text : (t : List ℕ) → tree (Text t) ≡ text t
tree-Text t = search (rules, the_lemmas)

pub tree-Map : (v : Vec NodePair Global) → tree (Map v) ≡ mapping (members_tree v.items)
tree-Map v = search (rules, the_lemmas)

pub tree-Seq : (v : Vec Node Global) → tree (Seq v) ≡ sequence (items_tree v.items)
tree-Seq v = search (rules, the_lemmas)

pub tree-Other : tree Other ≡ other
tree-Other = search (rules, the_lemmas)
