-- The arrays of a job file: each part is read in its turn, and the first that has a fault is told with its index.
use Rattle.std.specs.Prelude.{◌≡◌, ◌≤◌, ◌<◌, ⊤, ℕ, suc, ◌+◌, List, [], ◌∷◌, ◌++◌, Option, Some, None, codes}
use Rattle.std.specs.Fmt.{decimal}
use Rattle.zr_names.specs.Tree.{Tree, Items, no_items, item, items_tree}
use Rattle.zr_jobwalk.specs.declared.array.Array.{Array}
use Rattle.zr_jobwalk.specs.declared.fault.JobFault.{JobFault}
use Rattle.zr_jobwalk.specs.declared.fault.JobFault.TheVariants.{BadValue, TooMany}
use Rattle.zr_jobwalk.specs.declared.fault.Many.{Many}
use Rattle.zr_jobwalk.specs.Faults.{First}
use Rattle.zr_jobwalk.specs.Values.{SomeIs, array_in}

-- an array as the walk sees it: its dotted name, and its parts
pub record Series : Type 0 where
  pub name : List ℕ
  pub items : Items

abbrev pub series : Array → Series
series array = record { name = array.name; items = items_tree array.nodes.now }

-- how many parts there are
abbrev pub size_of : Items → ℕ
size_of no_items = 0
size_of (item tree rest) = suc (size_of rest)

-- the dotted name of a part
abbrev pub part_name : List ℕ → ℕ → List ℕ
part_name name index = name ++ codes "[" ++ decimal index ++ codes "]"

-- a field that has to be there and is this array
abbrev pub HasArray : Option Tree → Items → Type 0
HasArray None parts = ⊥
HasArray (Some tree) items = array_in tree ≡ Some items

-- a value that is no array
abbrev pub NoArray : List ℕ → Tree → JobFault → Type 0
NoArray name tree fault = (fault ≡ BadValue name) × (array_in tree ≡ None)

-- the parts of an array, each with what it gives
abbrev pub AreParts : {X : Type 0} → (Tree → X → Type 0) → Items → List X → Type 0
AreParts Takes no_items [] = ⊤
AreParts Takes no_items (x ∷ xs) = ⊥
AreParts Takes (item tree rest) [] = ⊥
AreParts Takes (item tree rest) (x ∷ xs) = Takes tree x × AreParts Takes rest xs

-- an array of at most so many parts, with what they give
pub record AreAtMost {X : Type 0} (limit : ℕ) (Takes : Tree → X → Type 0) (items : Items) (xs : List X) : Type 0 where
  pub few : size_of items ≤ limit
  pub parts : AreParts Takes items xs

abbrev pub IsArray : {X : Type 0} → ℕ → (Tree → X → Type 0) → Tree → List X → Type 0
IsArray limit Takes tree xs = SomeIs (AreAtMost limit Takes) (array_in tree) xs

-- the first part that has a fault, from the part of an index on
abbrev pub FirstPart : {X : Type 0} → (Tree → X → Type 0) → (List ℕ → Tree → JobFault → Type 0) → List ℕ → ℕ → Items → JobFault → Type 0
FirstPart {X} Takes Fault name index no_items fault = ⊥
FirstPart {X} Takes Fault name index (item tree rest) fault =
    First (Fault (part_name name index) tree fault) ((x : X) × Takes tree x)
    (FirstPart Takes Fault name (index + 1) rest fault)

-- too many parts come before any fault of a part
abbrev pub PartsFault : {X : Type 0} → Many → ℕ → (Tree → X → Type 0) → (List ℕ → Tree → JobFault → Type 0) → List ℕ → Items → JobFault → Type 0
PartsFault many limit Takes Fault name items fault =
    First ((fault ≡ TooMany many) × (limit < size_of items)) (size_of items ≤ limit)
    (FirstPart Takes Fault name 0 items fault)

-- an array with a fault, and what is none
abbrev pub NoArrayOr : (List ℕ → Items → JobFault → Type 0) → List ℕ → Option Items → JobFault → Type 0
NoArrayOr Fault name None fault = fault ≡ BadValue name
NoArrayOr Fault name (Some items) fault = Fault name items fault

abbrev pub InArray : {X : Type 0} → Many → ℕ → (Tree → X → Type 0) → (List ℕ → Tree → JobFault → Type 0) → List ℕ → Tree → JobFault → Type 0
InArray many limit Takes Fault name tree fault =
    NoArrayOr (PartsFault many limit Takes Fault) name (array_in tree) fault
