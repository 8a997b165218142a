use Rattle.std.proofs.Common.{◌≡◌, ◌∙◌, ℕ, ◌≤◌, List, [], ◌∷◌, ◌++◌, length, map, take, refl, ap, ap₂, sym, string_bytes}
use Rattle.std.proofs.lemmas.List.{map-append, take_all}
use Rattle.zr_names.specs.declared.node.Node.{Node}
use Rattle.zr_names.specs.declared.node.NodePair.{NodePair}
use Rattle.toml.specs.View.{items_view, members_view, view}
use Rattle.toml.specs.declared.value.Value.{Value}
use Rattle.toml.proofs.Views.{Entry}
use Rattle.zr_jobfile.specs.Nodes.{data_tree, items_of_data, members_of_data}
use Rattle.zr_names.specs.Tree.{Tree, item, items_of, items_tree, member, members_of, members_tree, pair_tree, tree}

-- the key of an entry, and the tree of its value
abbrev pub entry_tree : Entry → List ℕ × Tree
entry_tree entry = (string_bytes entry.0, data_tree (view entry.1))

pub items-same : (values : List Value) → items_of (map (λ value. data_tree (view value)) values) ≡ items_of_data (items_view values)
items-same [] = refl
items-same (value ∷ values) = ap (item (data_tree (view value))) (items-same values)

pub members-same : (entries : List Entry) → members_of (map entry_tree entries) ≡ members_of_data (members_view entries)
members-same [] = refl
members-same (entry ∷ entries) = ap (member (string_bytes entry.0) (data_tree (view entry.1))) (members-same entries)

-- one pair more
pub pairs-more : (pairs now : List NodePair) (pair : NodePair) (done : List Entry) (entry : Entry) (key : List ℕ) → map pair_tree pairs ≡ map entry_tree done → now ≡ pairs ++ pair ∷ [] → pair_tree pair ≡ (key, data_tree (view entry.1)) → key ≡ string_bytes entry.0 → map pair_tree now ≡ map entry_tree (done ++ entry ∷ [])
pairs-more pairs now pair done entry key same more is named =
    ap (map pair_tree) more
    ∙ map-append pair_tree pairs (pair ∷ [])
    ∙ ap₂ ◌++◌ same (ap (λ (p : List ℕ × Tree). p ∷ []) (is ∙ ap (λ (k : List ℕ). (k, data_tree (view entry.1))) named))
    ∙ sym (map-append entry_tree done (entry ∷ []))

-- all values, at the end of the loop
pub items-all : (nodes : List Node) (values seen : List Value) (place : ℕ) → map tree nodes ≡ map (λ value. data_tree (view value)) (take place seen) → seen ≡ values → length seen ≤ place → items_tree nodes ≡ items_of_data (items_view values)
items-all nodes values seen place same all past =
    let whole = same ∙ ap (map (λ (value : Value). data_tree (view value))) (take_all place seen past ∙ all) in
    ap items_of whole ∙ items-same values

pub members-all : (pairs : List NodePair) (entries done : List Entry) → map pair_tree pairs ≡ map entry_tree done → entries ≡ done → members_tree pairs ≡ members_of_data (members_view entries)
members-all pairs entries done same all =
    ap members_of (same ∙ ap (map entry_tree) (sym all)) ∙ members-same entries
