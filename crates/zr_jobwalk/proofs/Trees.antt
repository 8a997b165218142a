-- The tree of each kind of node, by names that a tactic can be given.
use Rattle.std.proofs.Common.{◌≡◌, ℕ, Bool, List, Vec, Global}
use Rattle.zr_names.specs.Tree.{null, flag, number, text, mapping, sequence, other, tree, items_tree, members_tree}
use Rattle.zr_names.specs.declared.node.Node.{Node, Null, Flag, Number, Text, Map, Seq, Other}
use Rattle.zr_names.specs.declared.node.NodePair.{NodePair}
use Rattle.zr_names.proofs.Trees.{tree-Null, tree-Flag, tree-Number, tree-Text, tree-Map, tree-Seq, tree-Other}

pub of_null : tree Null ≡ null
of_null = tree-Null

pub of_flag : (b : Bool) → tree (Flag b) ≡ flag b
of_flag = tree-Flag

pub of_number : (n : ℕ) → tree (Number n) ≡ number n
of_number = tree-Number

pub of_text : (t : List ℕ) → tree (Text t) ≡ text t
of_text = tree-Text

pub of_map : (v : Vec NodePair Global) → tree (Map v) ≡ mapping (members_tree v.items)
of_map = tree-Map

pub of_sequence : (v : Vec Node Global) → tree (Seq v) ≡ sequence (items_tree v.items)
of_sequence = tree-Seq

pub of_other : tree Other ≡ other
of_other = tree-Other
