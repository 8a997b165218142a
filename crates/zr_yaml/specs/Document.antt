-- A document of the profile: what its lines say, as blocks by their columns, and which tree it stands for.
use Rattle.std.specs.Prelude.{◌≡◌, ⊤, ◌⊎◌, ℕ, suc, ◌+◌, ◌-◌, ◌<◌, ◌≤◌, Bool, false, List, [], ◌∷◌, ◌++◌, length, take, map, Some}
use Rattle.std.specs.List.{list_any}
use Rattle.std.specs.Str.{bytes_eq}
use Rattle.zr_names.specs.Tree.{Tree, null, mapping, sequence, Items, no_items, item, Members, no_members, member}
use Rattle.zr_yaml.specs.declared.fault.YamlFault.{YamlFault}
use Rattle.zr_yaml.specs.declared.fault.YamlFault.TheVariants.{BadYaml, NoMemory}
use Rattle.zr_yaml.specs.declared.scalar.Scalar.{Scalar}
use Rattle.zr_yaml.specs.declared.symbols.Bracket.TheVariants.{Curly, Square}
use Rattle.zr_yaml.specs.declared.symbols.Piece.{Piece}
use Rattle.zr_yaml.specs.declared.symbols.Piece.TheVariants.{One, Open, Close, Comma, Colon}
use Rattle.zr_yaml.specs.declared.symbols.Symbol.{Symbol}
use Rattle.zr_yaml.specs.declared.symbols.Symbol.TheVariants.{Dash, Key, Value, More}
use Rattle.zr_yaml.specs.Lines.{contents, lines_symbols}
use Rattle.zr_yaml.specs.Scalar.{scalar_tree}

-- ---- keys

-- pairs of a key and its tree
abbrev pub PairList : Type 0
PairList = List (List ℕ × Tree)

abbrev pub has_pair : List ℕ → PairList → Bool
has_pair key done = list_any (λ p. bytes_eq key p.0) done

-- no key is among those before it
abbrev pub NewKeys : PairList → Members → Type 0
NewKeys before no_members = ⊤
NewKeys before (member key t ms) = (has_pair key before ≡ false) × NewKeys (before ++ (key, t) ∷ []) ms

-- the keys of a map differ
abbrev pub KeysDiffer : Members → Type 0
KeysDiffer ms = NewKeys [] ms

-- ---- values

-- pieces in brackets
abbrev pub InBrackets : Piece → Piece → (List Piece → Type 0) → List Piece → Type 0
InBrackets opening closing Inside pieces = (inner : List Piece) × (pieces ≡ opening ∷ (inner ++ closing ∷ []))
    × Inside inner

-- one level of nesting more
abbrev pub OneDeeper : ℕ → (ℕ → Type 0) → Type 0
OneDeeper levels Inside = (below : ℕ) × (levels ≡ suc below) × Inside below

-- a scalar
abbrev pub Single : Tree → List Piece → Type 0
Single t pieces = (s : Scalar) × (pieces ≡ One s ∷ []) × (t ≡ scalar_tree s)

-- a part and no other behind it, or a comma and the others
abbrev pub Parted : {T : Type 0} → T → T → (List Piece → Type 0) → List Piece → List Piece → Type 0
Parted none others Rest part pieces =
    ((others ≡ none) × (pieces ≡ part)) ⊎ ((rest : List Piece) × (pieces ≡ part ++ Comma ∷ rest) × Rest rest)

-- The pieces of a value whose maps and sequences are at most so deep: a scalar, `[` values parted by commas `]`, or `{` pairs of a
-- key and a value parted by commas `}`. One last comma is allowed.
abbrev mutual
  pub Flow : ℕ → Tree → List Piece → Type 0
  Flow levels (sequence ts) pieces =
      OneDeeper levels (λ below. InBrackets (Open Square) (Close Square) (FlowItems below ts) pieces)
  Flow levels (mapping ms) pieces = KeysDiffer ms
      × OneDeeper levels (λ below. InBrackets (Open Curly) (Close Curly) (FlowMembers below ms) pieces)
  Flow levels t pieces = Single t pieces

  pub FlowItems : ℕ → Items → List Piece → Type 0
  FlowItems levels no_items pieces = pieces ≡ []
  FlowItems levels (item t ts) pieces = (value : List Piece) × Flow levels t value
      × Parted no_items ts (FlowItems levels ts) value pieces

  pub FlowMembers : ℕ → Members → List Piece → Type 0
  FlowMembers levels no_members pieces = pieces ≡ []
  FlowMembers levels (member k t ms) pieces =
      (key : Scalar) × (k ≡ key.bytes) × (value : List Piece) × Flow levels t value
      × Parted no_members ms (FlowMembers levels ms) (One key ∷ Colon ∷ value) pieces

-- ---- blocks

-- a value that begins at this column
abbrev pub Lone : ℕ → Tree → ℕ → List Symbol → Type 0
Lone levels t column symbols =
    (first : Piece) × (others : List Piece) × (symbols ≡ Value column first ∷ map More others)
    × Flow levels t (first ∷ others)

-- nothing, which is Null, or a block at a deeper column
abbrev pub Below : (ℕ → List Symbol → Type 0) → Tree → ℕ → List Symbol → Type 0
Below At t column symbols = ((symbols ≡ []) × (t ≡ null)) ⊎ ((deeper : ℕ) × (column < deeper) × At deeper symbols)

-- one part or more, a level deeper
abbrev pub Several : ℕ → (ℕ → Type 0) → List Symbol → Type 0
Several levels Inside symbols = (0 < length symbols) × OneDeeper levels Inside

-- A block at a column whose maps and sequences are at most so deep: dashes there, each with what stands below it; keys there, each
-- with what stands below it or with dashes at its own column; or a value.
abbrev mutual
  pub Block : ℕ → Tree → ℕ → List Symbol → Type 0
  Block levels (sequence ts) column symbols =
      Several levels (λ below. Dashes below ts column symbols) symbols ⊎ Lone levels (sequence ts) column symbols
  Block levels (mapping ms) column symbols =
      (KeysDiffer ms × Several levels (λ below. Keys below ms column symbols) symbols)
      ⊎ Lone levels (mapping ms) column symbols
  Block levels t column symbols = Lone levels t column symbols

  pub Dashes : ℕ → Items → ℕ → List Symbol → Type 0
  Dashes levels no_items column symbols = symbols ≡ []
  Dashes levels (item t ts) column symbols =
      (below : List Symbol) × (rest : List Symbol) × (symbols ≡ Dash column ∷ (below ++ rest))
      × Below (Block levels t) t column below × Dashes levels ts column rest

  pub Keys : ℕ → Members → ℕ → List Symbol → Type 0
  Keys levels no_members column symbols = symbols ≡ []
  Keys levels (member key t ms) column symbols =
      (below : List Symbol) × (rest : List Symbol) × (symbols ≡ Key column key ∷ (below ++ rest))
      × (Below (Block levels t) t column below ⊎ DashesOf levels t column below) × Keys levels ms column rest

  -- a sequence whose dashes stand at this column
  pub DashesOf : ℕ → Tree → ℕ → List Symbol → Type 0
  DashesOf levels (sequence ts) column symbols = Several levels (λ below. Dashes below ts column symbols) symbols
  DashesOf levels t column symbols = ⊥

-- ---- documents

-- nothing, which is Null, or a block at column 0; nesting is at most 32 deep
abbrev pub Says : Tree → List Symbol → Type 0
Says t symbols = ((symbols ≡ []) × (t ≡ null)) ⊎ Block 32 t 0 symbols

-- a document of the profile, as its lines, and the tree that it stands for
abbrev pub Document : List (List ℕ) → Tree → Type 0
Document lines t = (symbols : List Symbol) × (unclosed : ℕ)
    × (lines_symbols 0 (contents lines) ≡ Some (symbols, unclosed)) × Says t symbols

-- some document begins with these lines
abbrev pub Begins : List (List ℕ) → Type 0
Begins lines = (more : List (List ℕ)) × (t : Tree) × Document (lines ++ more) t

-- The lines are no document. The ones before this line, counted from 1, begin one, and no more of them do.
pub record IsFault (lines : List (List ℕ)) (line : ℕ) : Type 0 where
  pub bad : (t : Tree) → Document lines t → ⊥
  pub counted : 0 < line
  pub within : line ≤ length lines + 1
  pub begins : Begins (take (line - 1) lines)
  pub longest : (longer : ℕ) → line ≤ longer → longer ≤ length lines → Begins (take longer lines) → ⊥

-- the lines are a document of no other tree
abbrev pub OnlyTree : List (List ℕ) → Tree → Type 0
OnlyTree lines t = (other : Tree) → Document lines other → other ≡ t

-- The fault is that of the first line with which the lines begin no document any more. Want of memory may come at any time.
abbrev pub IsFaultOf : List (List ℕ) → YamlFault → Type 0
IsFaultOf lines (BadYaml line) = IsFault lines line
IsFaultOf lines NoMemory = ⊤
