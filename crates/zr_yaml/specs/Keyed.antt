-- The pairs of a map, and the set of their keys.
use Rattle.std.specs.Prelude.{◌≡◌, ℕ, List, map}
use Rattle.std.specs.BTreeSet.{BTreeSet, contains}
use Rattle.std.specs.Cmp.Lexicographic.{slice_cmp}
use Rattle.std.specs.Ordering.{nat_cmp}
use Rattle.zr_names.specs.Tree.{pair_tree}
use Rattle.zr_names.specs.declared.node.NodePair.{NodePair}
use Rattle.zr_yaml.specs.Document.{has_pair}

-- the set has the keys of these pairs and no others
abbrev pub HasKeys : List NodePair → BTreeSet (List ℕ) → Type 0
HasKeys pairs keys = (key : List ℕ) → contains (slice_cmp nat_cmp) keys key ≡ has_pair key (map pair_tree pairs)
