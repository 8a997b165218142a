-- The first fault of a table.
use Rattle.std.specs.Prelude.{◌≡◌, [], ◌⊎◌, ℕ, List, ◌++◌, Option, Some, None, codes}
use Rattle.zr_names.specs.Tree.{Tree, Members}
use Rattle.zr_jobwalk.specs.declared.fault.JobFault.{JobFault}
use Rattle.zr_jobwalk.specs.declared.fault.JobFault.TheVariants.{Missing, BadValue, UnknownField}
use Rattle.zr_jobwalk.specs.declared.field.Field.{Field}
use Rattle.zr_jobwalk.specs.Fields.{least, name_of, shown, strangers, value_of}
use Rattle.zr_jobwalk.specs.Tables.{Section}
use Rattle.zr_jobwalk.specs.Values.{Has, HasOr, IsTable, table_in, text_in}

-- the dotted name of a field
abbrev pub dotted : Section → Field → List ℕ
dotted table field = table.front ++ name_of field

-- what a table gives for a field
abbrev pub field_of : Section → Field → Option Tree
field_of table field = value_of table.members field

-- a field that has to be there: it is missing, or its value has a fault
abbrev pub MissingOr : (List ℕ → Tree → JobFault → Type 0) → List ℕ → Option Tree → JobFault → Type 0
MissingOr Fault name None fault = fault ≡ Missing name
MissingOr Fault name (Some tree) fault = Fault name tree fault

abbrev pub HasFault : (List ℕ → Tree → JobFault → Type 0) → Section → Field → JobFault → Type 0
HasFault Fault table field fault = MissingOr Fault (dotted table field) (field_of table field) fault

-- a field that may be left out
abbrev pub NoneOr : (List ℕ → Tree → JobFault → Type 0) → List ℕ → Option Tree → JobFault → Type 0
NoneOr Fault name None fault = ⊥
NoneOr Fault name (Some tree) fault = Fault name tree fault

abbrev pub MayFault : (List ℕ → Tree → JobFault → Type 0) → Section → Field → JobFault → Type 0
MayFault Fault table field fault = NoneOr Fault (dotted table field) (field_of table field) fault

-- a value of the wrong type or outside its rule
abbrev pub IsBad : {X : Type 0} → (Tree → X → Type 0) → List ℕ → Tree → JobFault → Type 0
IsBad {X} Takes name tree fault = (fault ≡ BadValue name) × ((x : X) → ¬ Takes tree x)

-- a value that is no text
abbrev pub NoText : List ℕ → Tree → JobFault → Type 0
NoText name tree fault = (fault ≡ BadValue name) × (text_in tree ≡ None)

-- a value that is no table
abbrev pub NoTable : List ℕ → Tree → JobFault → Type 0
NoTable name tree fault = (fault ≡ BadValue name) × (table_in tree ≡ None)

-- a table with a fault, and what is none
abbrev pub NoTableOr : (Section → JobFault → Type 0) → List ℕ → Option Members → JobFault → Type 0
NoTableOr Fault name None fault = fault ≡ BadValue name
NoTableOr Fault name (Some members) fault =
    Fault (record { front = name ++ codes "."; members = members }) fault

abbrev pub InTable : (Section → JobFault → Type 0) → List ℕ → Tree → JobFault → Type 0
InTable Fault name tree fault = NoTableOr Fault name (table_in tree) fault

-- a key that is there and none of the table's fields: the least in byte order is told
abbrev pub TellsKey : List ℕ → Option (List ℕ) → JobFault → Type 0
TellsKey front None fault = ⊥
TellsKey front (Some key) fault = fault ≡ UnknownField (front ++ shown key)

abbrev pub HasStranger : List Field → Section → JobFault → Type 0
HasStranger fields table fault = TellsKey table.front (least (strangers fields table.members)) fault

-- the fault of one part, or where that is good one of those after it
abbrev pub First : Type 0 → Type 0 → Type 0 → Type 0
First Fault Good Later = Fault ⊎ (Good × Later)

-- the faults of a table in their order, each with those after it: a key that is none of its fields,
abbrev pub Only : List Field → Section → JobFault → Type 0 → Type 0
Only fields table fault Later =
    First (HasStranger fields table fault) (strangers fields table.members ≡ []) Later

-- a field that has to be there, with the faults that its value may have,
abbrev pub MustBe : {X : Type 0} → (Tree → X → Type 0) → (List ℕ → Tree → JobFault → Type 0) → Field → Section → JobFault → Type 0 → Type 0
MustBe {X} Takes Fault field table fault Later =
    First (HasFault Fault table field fault) ((x : X) × Has Takes (field_of table field) x) Later

abbrev pub Must : {X : Type 0} → (Tree → X → Type 0) → Field → Section → JobFault → Type 0 → Type 0
Must Takes field table fault Later = MustBe Takes (IsBad Takes) field table fault Later

abbrev pub MustTable : {X : Type 0} → (Members → X → Type 0) → (Section → JobFault → Type 0) → Field → Section → JobFault → Type 0 → Type 0
MustTable Takes Fault field table fault Later =
    MustBe (IsTable Takes) (InTable Fault) field table fault Later

-- and one that may be left out
abbrev pub MayBe : {X : Type 0} → X → (Tree → X → Type 0) → (List ℕ → Tree → JobFault → Type 0) → Field → Section → JobFault → Type 0 → Type 0
MayBe {X} default Takes Fault field table fault Later =
    First (MayFault Fault table field fault)
    ((x : X) × HasOr default Takes (field_of table field) x) Later

abbrev pub May : {X : Type 0} → X → (Tree → X → Type 0) → Field → Section → JobFault → Type 0 → Type 0
May default Takes field table fault Later =
    MayBe default Takes (IsBad Takes) field table fault Later

abbrev pub MayTable : {X : Type 0} → X → (Members → X → Type 0) → (Section → JobFault → Type 0) → Field → Section → JobFault → Type 0 → Type 0
MayTable default Takes Fault field table fault Later =
    MayBe default (IsTable Takes) (InTable Fault) field table fault Later
