-- The tree that a node stands for: what a job file says, whatever its nodes take in memory.
use Rattle.std.specs.Prelude.{ℕ, Bool, List, [], ◌∷◌, map}
use Rattle.zr_names.specs.declared.node.Node.{Node, fold-Node}
use Rattle.zr_names.specs.declared.node.NodePair.{NodePair, fold-NodePair}
use Rattle.zr_names.specs.declared.node.Node.TheOpen.{Node-F, NodePair-F}

mutual
  pub data Tree : Type 0 where
    null : Tree
    flag : Bool → Tree
    number : ℕ → Tree
    text : List ℕ → Tree
    mapping : Members → Tree
    sequence : Items → Tree
    other : Tree

  pub data Items : Type 0 where
    no_items : Items
    item : Tree → Items → Items

  pub data Members : Type 0 where
    no_members : Members
    member : List ℕ → Tree → Members → Members

-- a list of trees as items
abbrev pub items_of : List Tree → Items
items_of [] = no_items
items_of (t ∷ ts) = item t (items_of ts)

-- pairs of a text and a tree as members
abbrev pub members_of : List (List ℕ × Tree) → Members
members_of [] = no_members
members_of (m ∷ ms) = member m.0 m.1 (members_of ms)

-- one level, with each node inside already seen as its tree, and each pair as its key and tree
abbrev pub tree_step : Node-F Tree (List ℕ × Tree) → Tree
tree_step Node-F.Null = null
tree_step (Node-F.Flag b) = flag b
tree_step (Node-F.Number n) = number n
tree_step (Node-F.Text t) = text t
tree_step (Node-F.Map v) = mapping (members_of v.items)
tree_step (Node-F.Seq v) = sequence (items_of v.items)
tree_step Node-F.Other = other

abbrev pub pair_step : NodePair-F Tree (List ℕ × Tree) → List ℕ × Tree
pair_step p = (p.key, p.node)

-- the tree of a node, and a pair's key and tree
abbrev pub tree : Node → Tree
tree = fold-Node Tree (List ℕ × Tree) tree_step pair_step

abbrev pub pair_tree : NodePair → List ℕ × Tree
pair_tree = fold-NodePair Tree (List ℕ × Tree) tree_step pair_step

-- the trees of nodes, and of pairs
abbrev pub items_tree : List Node → Items
items_tree nodes = items_of (map tree nodes)

abbrev pub members_tree : List NodePair → Members
members_tree pairs = members_of (map pair_tree pairs)
