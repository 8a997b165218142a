-- What a field takes.
use Rattle.std.specs.Prelude.{◌≡◌, ◌≤◌, ℕ, Bool, List, Option, Some, None}
use Rattle.zr_names.specs.Tree.{Tree, null, flag, number, text, mapping, sequence, other, Members, Items}

-- a field that has to be there
abbrev pub Has : {X : Type 0} → (Tree → X → Type 0) → Option Tree → X → Type 0
Has Takes None x = ⊥
Has Takes (Some tree) x = Takes tree x

-- a field that may be left out, with what it then is
abbrev pub HasOr : {X : Type 0} → X → (Tree → X → Type 0) → Option Tree → X → Type 0
HasOr default Takes None x = x ≡ default
HasOr default Takes (Some tree) x = Takes tree x

-- the text of a tree that is one
abbrev pub text_in : Tree → Option (List ℕ)
text_in (text bytes) = Some bytes
text_in tree = None

abbrev pub flag_in : Tree → Option Bool
flag_in (flag b) = Some b
flag_in tree = None

abbrev pub number_in : Tree → Option ℕ
number_in (number n) = Some n
number_in tree = None

abbrev pub table_in : Tree → Option Members
table_in (mapping members) = Some members
table_in tree = None

abbrev pub array_in : Tree → Option Items
array_in (sequence items) = Some items
array_in tree = None

-- a part is there and is as it has to be
abbrev pub SomeIs : {X Y : Type 0} → (X → Y → Type 0) → Option X → Y → Type 0
SomeIs Is None y = ⊥
SomeIs Is (Some x) y = Is x y

-- a field that has to be there and has this text
abbrev pub HasText : Option Tree → List ℕ → Type 0
HasText None bytes = ⊥
HasText (Some tree) bytes = text_in tree ≡ Some bytes

-- a field that has to be there and is this table
abbrev pub HasTable : Option Tree → Members → Type 0
HasTable None inside = ⊥
HasTable (Some tree) inside = table_in tree ≡ Some inside

-- a text or a table with this meaning
abbrev pub IsText : {X : Type 0} → (List ℕ → X → Type 0) → Tree → X → Type 0
IsText Is tree x = SomeIs Is (text_in tree) x

abbrev pub IsTable : {X : Type 0} → (Members → X → Type 0) → Tree → X → Type 0
IsTable Is tree x = SomeIs Is (table_in tree) x

-- true or false
abbrev pub IsFlag : Tree → Bool → Type 0
IsFlag tree b = flag_in tree ≡ Some b

-- a whole number between two
abbrev pub IsWithin : ℕ → ℕ → ℕ → ℕ → Type 0
IsWithin low high n result = (result ≡ n) × (low ≤ n) × (n ≤ high)

abbrev pub IsNumber : ℕ → ℕ → Tree → ℕ → Type 0
IsNumber low high tree n = SomeIs (IsWithin low high) (number_in tree) n
