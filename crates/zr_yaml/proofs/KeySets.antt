-- The set of the keys of pairs.
use Rattle.std.proofs.Common.{◌≡◌, ℕ, Bool, true, false, cond, ◌||◌, List, [], ◌∷◌, ◌++◌, map, refl, sym, ap, ◌∙◌}
use Rattle.std.specs.BTreeSet.{BTreeSet, Updates, contains}
use Rattle.std.specs.Cmp.Lexicographic.{slice_cmp}
use Rattle.std.specs.Ordering.{nat_cmp}
use Rattle.std.specs.Str.{bytes_eq}
use Rattle.std.proofs.lemmas.Cmp.{nat_list_eq_equiv}
use Rattle.std.proofs.lemmas.List.{map-append}
use Rattle.std.proofs.lemmas.List.Folds.{list_any-append}
use Rattle.std.proofs.lemmas.Map.Text.{is_eq-slice_cmp}
use Rattle.zr_names.specs.Tree.{Tree, pair_tree}
use Rattle.zr_names.specs.declared.node.NodePair.{NodePair}
use Rattle.zr_yaml.specs.Document.{has_pair}
use Rattle.zr_yaml.specs.Keyed.{HasKeys}

either_way : (a b : Bool) → cond a true b ≡ (b || (a || false))
either_way true true = refl
either_way true false = refl
either_way false true = refl
either_way false false = refl

has_pair_last : (key : List ℕ) (pairs : List NodePair) (p : NodePair) (k : List ℕ) (t : Tree) → pair_tree p ≡ (k, t)
    → has_pair key (map pair_tree (pairs ++ p ∷ [])) ≡ (has_pair key (map pair_tree pairs) || (bytes_eq key k || false))
has_pair_last key pairs p k t e =
    ap (has_pair key) (map-append pair_tree pairs (p ∷ []))
    ∙ list_any-append (λ q. bytes_eq key q.0) (map pair_tree pairs) (pair_tree p ∷ [])
    ∙ ap (λ (q : List ℕ × Tree). has_pair key (map pair_tree pairs) || (bytes_eq key q.0 || false)) e

-- a key more in the set, and its pair
pub keys_more : (pairs more : List NodePair) (old new : BTreeSet (List ℕ)) (p : NodePair) (k copy : List ℕ) (t : Tree)
    → HasKeys pairs old → Updates (slice_cmp nat_cmp) old new copy true → copy ≡ k → pair_tree p ≡ (k, t)
    → more ≡ pairs ++ p ∷ [] → HasKeys more new
keys_more pairs more old new p k copy t h u c e m = λ key.
    u.0 key
    ∙ ap (λ (b : Bool). cond b true (contains (slice_cmp nat_cmp) old key))
    (is_eq-slice_cmp copy key ∙ ap (λ x. bytes_eq x key) c ∙ nat_list_eq_equiv.symm k key)
    ∙ ap (λ (b : Bool). cond (bytes_eq key k) true b) (h key)
    ∙ either_way (bytes_eq key k) (has_pair key (map pair_tree pairs))
    ∙ sym (ap (λ ps. has_pair key (map pair_tree ps)) m ∙ has_pair_last key pairs p k t e)
