-- How the parts of an array are read one after the other, and a fault of one as a fault of the array.
use Rattle.std.proofs.Common.{◌≡◌, ◌≢◌, ◌++◌, ◌<◌, inl, inr, ℕ, ◌+◌, List, [], ◌∷◌, Option, Some, None, Result, Ok, Err, IfErr, codes, subst, sym, ap, refl, length, get_or, drop, ◌∙◌}
use Rattle.std.proofs.lemmas.List.{drop_more}
use Rattle.zr_names.specs.Tree.{Tree, Items, Members, no_items, item, items_tree, tree}
use Rattle.zr_names.specs.declared.node.Node.{Node}
use Rattle.zr_jobwalk.specs.declared.fault.JobFault.{JobFault}
use Rattle.zr_jobwalk.specs.declared.fault.JobFault.TheVariants.{NoMemory}
use Rattle.zr_jobwalk.specs.declared.fault.Many.{Many}
use Rattle.zr_jobwalk.specs.Arrays.{AreAtMost, AreParts, FirstPart, HasArray, InArray, IsArray, NoArrayOr, PartsFault, part_name}
use Rattle.zr_jobwalk.specs.Faults.{InTable, MissingOr, NoTableOr}
use Rattle.zr_jobwalk.specs.Tables.{Section}
use Rattle.zr_jobwalk.specs.Values.{Has, IsTable, SomeIs, table_in}

-- the parts before an index are read: whatever the rest gives comes behind them, and a fault of the rest is that of the array
pub record SoFar {X L : Type 0} (Takes : Tree → X → Type 0) (Fault : L → List ℕ → Tree → JobFault → Type 0) (name : List ℕ) (index : ℕ) (all rest : Items) (done : List X) : Type 0 where
  pub good : (xs : List X) → AreParts Takes rest xs → AreParts Takes all (done ++ xs)
  pub bad : (l : L) (fault : JobFault) → FirstPart Takes (Fault l) name index rest fault → FirstPart Takes (Fault l) name 0 all fault

append_one : {X : Type 0} (xs : List X) (x : X) (ys : List X) → (xs ++ x ∷ []) ++ ys ≡ xs ++ x ∷ ys
append_one [] x ys = refl
append_one {X} (one ∷ xs) x ys = ap (λ (zs : List X). one ∷ zs) (append_one xs x ys)

append_none : {X : Type 0} (xs : List X) → xs ++ [] ≡ xs
append_none [] = refl
append_none {X} (one ∷ xs) = ap (λ (zs : List X). one ∷ zs) (append_none xs)

pub items_next : (nodes : List Node) (index : ℕ) (node : Node) → index < length nodes → node ≡ get_or nodes index node → items_tree (drop index nodes) ≡ item (tree node) (items_tree (drop (index + 1) nodes))
items_next nodes index node inside at =
    let next : drop index nodes ≡ node ∷ drop (index + 1) nodes = rw at (drop_more nodes index node inside) in
    ap items_tree next

module _ {X L : Type 0} (Takes : Tree → X → Type 0) (Fault : L → List ℕ → Tree → JobFault → Type 0) (name : List ℕ) where
  pub begun : (all : Items) → SoFar Takes Fault name 0 all all []
  begun all = record { good = λ xs parts. parts; bad = λ l fault first. first }

  pub one_more : (index : ℕ) (all here rest : Items) (part : Tree) (x : X) (done more : List X) → SoFar Takes Fault name index all here done → here ≡ item part rest → Takes part x → more ≡ done ++ x ∷ [] → SoFar Takes Fault name (index + 1) all rest more
  one_more index all here rest part x done more so_far next takes pushed = record {
    good = λ xs parts.
        let AreAll : List X → Type 0 = λ ys. AreParts Takes all ys in
        let Rest : Items → Type 0 = λ items. AreParts Takes items (x ∷ xs) in
        let is = so_far.good (x ∷ xs) (subst Rest (sym next) (takes, parts)) in
        subst AreAll (sym (ap (λ (ys : List X). ys ++ xs) pushed ∙ append_one done x xs)) is;
    bad = λ l fault first.
        let Rest : Items → Type 0 = λ items. FirstPart Takes (Fault l) name index items fault in
        so_far.bad l fault (subst Rest (sym next) (inr ((x, takes), first)));
  }

  pub stopped : (index : ℕ) (all here rest : Items) (part : Tree) (done : List X) (l : L) (fault : JobFault) → SoFar Takes Fault name index all here done → here ≡ item part rest → Fault l (part_name name index) part fault → FirstPart Takes (Fault l) name 0 all fault
  stopped index all here rest part done l fault so_far next bad =
      let Rest : Items → Type 0 = λ items. FirstPart Takes (Fault l) name index items fault in
      so_far.bad l fault (subst Rest (sym next) (inl bad))

  pub all_read : (index : ℕ) (all here : Items) (done : List X) → SoFar Takes Fault name index all here done → here ≡ no_items → AreParts Takes all done
  all_read index all here done so_far none =
      let AreAll : List X → Type 0 = λ ys. AreParts Takes all ys in
      let Rest : Items → Type 0 = λ items. AreParts Takes items [] in
      subst AreAll (append_none done) (so_far.good [] (subst Rest (sym none) tt))

-- a part that is a table
pub part_takes : {X : Type 0} (Takes : Members → X → Type 0) (part : Tree) (members : Members) (x : X) → table_in part ≡ Some members → Takes members x → IsTable Takes part x
part_takes Takes part inside x is takes = rw is takes

pub part_fault : (Fault : Section → JobFault → Type 0) (name front : List ℕ) (part : Tree) (members : Members) (fault : JobFault) → table_in part ≡ Some members → front ≡ name ++ codes "." → Fault (record { front = front; members = members }) fault → InTable Fault name part fault
part_fault Fault name front part members fault is leads bad =
    let Told : List ℕ → Type 0 = λ f. Fault (record { front = f; members = members }) fault in
    let told : NoTableOr Fault name (Some members) fault = subst Told leads bad in
    rw is told

-- the array of a field that has to be there
pub array_takes : {X : Type 0} (limit : ℕ) (Takes : Tree → X → Type 0) (found : Option Tree) (items : Items) (xs : List X) → HasArray found items → AreAtMost limit Takes items xs → Has (IsArray limit Takes) found xs
array_takes limit Takes None parts xs has are = absurd has
array_takes limit Takes (Some tree) parts xs has are = rw has are

pub array_fault : {X : Type 0} (many : Many) (limit : ℕ) (Takes : Tree → X → Type 0) (Fault : List ℕ → Tree → JobFault → Type 0) (own name : List ℕ) (found : Option Tree) (items : Items) (fault : JobFault) → HasArray found items → own ≡ name → PartsFault many limit Takes Fault own items fault → MissingOr (InArray many limit Takes Fault) name found fault
array_fault many limit Takes Fault own name None parts fault has same bad = absurd has
array_fault many limit Takes Fault own name (Some tree) items fault has same bad =
    let Told : List ℕ → Type 0 = λ n. PartsFault many limit Takes Fault n items fault in
    let told : NoArrayOr (PartsFault many limit Takes Fault) name (Some items) fault = subst Told same bad in
    rw has told

pub array_faults : {X Y : Type 0} (many : Many) (limit : ℕ) (Takes : Tree → X → Type 0) (Fault : List ℕ → Tree → JobFault → Type 0) (own name : List ℕ) (found : Option Tree) (items : Items) (result : Result Y JobFault) → HasArray found items → own ≡ name → IfErr result (λ fault. fault ≢ NoMemory → PartsFault many limit Takes Fault own items fault) → IfErr result (λ fault. fault ≢ NoMemory → MissingOr (InArray many limit Takes Fault) name found fault)
array_faults many limit Takes Fault own name found parts (Ok y) has same bad = tt
array_faults many limit Takes Fault own name found items (Err fault) has same bad =
    λ other. array_fault many limit Takes Fault own name found items fault has same (bad other)
