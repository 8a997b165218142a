-- What the symbols so far say of a state.
use Rattle.std.proofs.Common.{◌≡◌, ◌⊎◌, inl, inr, ℕ, ◌-◌, ◌<◌, Bool, true, false, cond, ◌||◌, List, [], ◌∷◌, ◌++◌, length, map, Option, Some, None, refl, sym, ap, subst, ◌∙◌, append_assoc}
use Rattle.std.specs.Prelude.{codes}
use Rattle.std.specs.Str.{bytes_eq}
use Rattle.std.proofs.lemmas.List.{append-nil}
use Rattle.zr_names.specs.Tree.{Tree, null, flag, number, text, mapping, sequence, other, items_of, members_of}
use Rattle.zr_yaml.specs.declared.scalar.Scalar.{Scalar}
use Rattle.zr_yaml.specs.declared.symbols.Bracket.TheVariants.{Curly, Square}
use Rattle.zr_yaml.specs.declared.symbols.Piece.{Piece}
use Rattle.zr_yaml.specs.declared.symbols.Piece.TheVariants.{One, Open, Comma, Colon}
use Rattle.zr_yaml.specs.declared.symbols.Symbol.{Symbol}
use Rattle.zr_yaml.specs.declared.symbols.Symbol.TheVariants.{Dash, Key, Value, More}
use Rattle.zr_yaml.specs.Document.{Below, Block, Dashes, DashesOf, Flow, FlowItems, FlowMembers, Keys, KeysDiffer, Lone, NewKeys, PairList, Single, has_pair}
use Rattle.zr_yaml.specs.Reading.{Frame, dashes, keys, items, pairs, named, valued, may_begin}
use Rattle.zr_yaml.specs.Scalar.{is_number, number_from, plain_tree, scalar_tree}

-- ---- definitions

-- how deep a part of this frame may be, where so many frames are outside of it
abbrev pub inside : List Frame → ℕ
inside frames = 31 - length frames

abbrev pub AtMore : ℕ → Tree → List Symbol → Type 0
AtMore levels t symbols = (pieces : List Piece) × (symbols ≡ map More pieces) × Flow levels t pieces

-- a node that belongs into the innermost frame
abbrev pub Under : List Frame → Tree → List Symbol → Type 0
Under [] t symbols = Block 32 t 0 symbols
Under (dashes i done ∷ frames) t symbols = (j : ℕ) × (i < j) × Block (inside frames) t j symbols
Under (keys i done key ∷ frames) t symbols = ((j : ℕ) × (i < j) × Block (inside frames) t j symbols)
    ⊎ DashesOf (inside frames) t i symbols
Under (items done ∷ frames) t symbols = AtMore (inside frames) t symbols
Under (valued done key ∷ frames) t symbols = AtMore (inside frames) t symbols
Under (pairs done ∷ frames) t symbols = ⊥
Under (named done key ∷ frames) t symbols = ⊥

abbrev pub Fills : List Frame → Option Tree → List Symbol → Type 0
Fills frames None symbols = symbols ≡ []
Fills frames (Some t) symbols = Under frames t symbols

-- the bracket that opens a frame inside of these
abbrev pub Opener : List Frame → Piece → Symbol → Type 0
Opener (items done ∷ frames) piece symbol = symbol ≡ More piece
Opener (valued done key ∷ frames) piece symbol = symbol ≡ More piece
Opener frames piece symbol = (c : ℕ) × (symbol ≡ Value c piece) × (may_begin c false frames ≡ true)

-- values that are complete, each with a comma behind it
abbrev pub DoneItems : ℕ → List Tree → List Piece → Type 0
DoneItems levels [] pieces = pieces ≡ []
DoneItems levels (t ∷ ts) pieces = (value : List Piece) × (rest : List Piece) × (pieces ≡ value ++ Comma ∷ rest)
    × Flow levels t value × DoneItems levels ts rest

abbrev pub DoneMembers : ℕ → PairList → List Piece → Type 0
DoneMembers levels [] pieces = pieces ≡ []
DoneMembers levels (p ∷ ps) pieces =
    (key : Scalar) × (value : List Piece) × (rest : List Piece) × (p.0 ≡ key.bytes)
    × (pieces ≡ (One key ∷ Colon ∷ value) ++ Comma ∷ rest) × Flow levels p.1 value × DoneMembers levels ps rest

-- the symbols of a frame alone
abbrev pub Own : List Frame → Frame → List Symbol → Type 0
Own frames (dashes i done) own = (parts : List Symbol) × (own ≡ parts ++ Dash i ∷ [])
    × (may_begin i true frames ≡ true) × Dashes (inside frames) (items_of done) i parts
Own frames (keys i done key) own =
    (parts : List Symbol) × (own ≡ parts ++ Key i key ∷ []) × (may_begin i false frames ≡ true)
    × Keys (inside frames) (members_of done) i parts × KeysDiffer (members_of done)
    × (has_pair key done ≡ false)
Own frames (items done) own = (opener : Symbol) × (pieces : List Piece) × (own ≡ opener ∷ map More pieces)
    × Opener frames (Open Square) opener × DoneItems (inside frames) done pieces
Own frames (pairs done) own =
    (opener : Symbol) × (pieces : List Piece) × (own ≡ opener ∷ map More pieces) × Opener frames (Open Curly) opener
    × DoneMembers (inside frames) done pieces × KeysDiffer (members_of done)
Own frames (named done key) own =
    (opener : Symbol) × (pieces : List Piece) × (s : Scalar) × (own ≡ opener ∷ map More (pieces ++ One s ∷ []))
    × Opener frames (Open Curly) opener × DoneMembers (inside frames) done pieces × KeysDiffer (members_of done)
    × (key ≡ s.bytes) × (has_pair key done ≡ false)
Own frames (valued done key) own =
    (opener : Symbol) × (pieces : List Piece) × (s : Scalar)
    × (own ≡ opener ∷ map More (pieces ++ One s ∷ Colon ∷ [])) × Opener frames (Open Curly) opener
    × DoneMembers (inside frames) done pieces × KeysDiffer (members_of done)
    × (key ≡ s.bytes) × (has_pair key done ≡ false)

-- the symbols that lead to frames, with nothing in the innermost
abbrev pub Opened : List Frame → List Symbol → Type 0
Opened [] symbols = symbols ≡ []
Opened (frame ∷ frames) symbols =
    (outer : List Symbol) × (own : List Symbol) × (symbols ≡ outer ++ own) × Opened frames outer
    × (length frames < 32) × Own frames frame own

abbrev pub Holds : List Frame → Option Tree → List Symbol → Type 0
Holds frames slot symbols = (before : List Symbol) × (inner : List Symbol) × (symbols ≡ before ++ inner)
    × Opened frames before × Fills frames slot inner

-- ---- one part more

pub more_dashes : (levels i : ℕ) (done : List Tree) (t : Tree) (parts below : List Symbol) →
    Dashes levels (items_of done) i parts → Below (Block levels t) t i below →
    Dashes levels (items_of (done ++ t ∷ [])) i (parts ++ Dash i ∷ below)
more_dashes levels i [] t parts below e b =
    (below, [], ap (λ p. p ++ Dash i ∷ below) e ∙ ap (λ r. Dash i ∷ r) (sym (append-nil below)), b, refl)
more_dashes levels i (u ∷ done) t parts below (first, rest, e, b, others) last = (
  first,
  rest ++ Dash i ∷ below,
  ap (λ p. p ++ Dash i ∷ below) e
      ∙ ap (λ r. Dash i ∷ r) (append_assoc first rest (Dash i ∷ below)),
  b,
  more_dashes levels i done t rest below others last,
)

pub more_keys : (levels i : ℕ) (done : PairList) (key : List ℕ) (t : Tree) (parts below : List Symbol) →
    Keys levels (members_of done) i parts → Below (Block levels t) t i below ⊎ DashesOf levels t i below
    → Keys levels (members_of (done ++ (key, t) ∷ [])) i (parts ++ Key i key ∷ below)
more_keys levels i [] key t parts below e b =
    (below, [], ap (λ p. p ++ Key i key ∷ below) e ∙ ap (λ r. Key i key ∷ r) (sym (append-nil below)), b, refl)
more_keys levels i (u ∷ done) key t parts below (first, rest, e, b, others) last = (
  first,
  rest ++ Key i key ∷ below,
  ap (λ p. p ++ Key i key ∷ below) e
      ∙ ap (λ r. Key i u.0 ∷ r) (append_assoc first rest (Key i key ∷ below)),
  b,
  more_keys levels i done key t rest below others last,
)

pub more_new : (before done : PairList) (key : List ℕ) (t : Tree) → NewKeys before (members_of done) →
    has_pair key (before ++ done) ≡ false → NewKeys before (members_of (done ++ (key, t) ∷ []))
more_new before [] key t new fresh = (subst (λ (ps : PairList). has_pair key ps ≡ false) (append-nil before) fresh, tt)
more_new before (p ∷ done) key t new fresh = (
  new.0,
  more_new (before ++ p ∷ []) done key t new.1 (ap (has_pair key) (append_assoc before (p ∷ []) done)
      ∙ fresh),
)

pub more_items : (levels : ℕ) (done : List Tree) (t : Tree) (pieces value : List Piece) →
    DoneItems levels done pieces → Flow levels t value →
    DoneItems levels (done ++ t ∷ []) (pieces ++ (value ++ Comma ∷ []))
more_items levels [] t pieces value e f = (value, [], ap (λ p. p ++ (value ++ Comma ∷ [])) e, f, refl)
more_items levels (u ∷ done) t pieces value (first, rest, e, g, others) f = (
  first,
  rest ++ (value ++ Comma ∷ []),
  ap (λ p. p ++ (value ++ Comma ∷ [])) e
      ∙ append_assoc first (Comma ∷ rest) (value ++ Comma ∷ []),
  g,
  more_items levels done t rest value others f,
)

pub all_items : (levels : ℕ) (done : List Tree) (pieces : List Piece) → DoneItems levels done pieces →
    FlowItems levels (items_of done) pieces
all_items levels [] pieces e = e
all_items levels (u ∷ done) pieces (first, rest, e, g, others) =
    (first, g, inr (rest, e, all_items levels done rest others))

pub last_item : (levels : ℕ) (done : List Tree) (t : Tree) (pieces value : List Piece) →
    DoneItems levels done pieces → Flow levels t value →
    FlowItems levels (items_of (done ++ t ∷ [])) (pieces ++ value)
last_item levels [] t pieces value e f = (value, f, inl (refl, ap (λ p. p ++ value) e))
last_item levels (u ∷ done) t pieces value (first, rest, e, g, others) f = (
  first,
  g,
  inr (
    rest ++ value,
    ap (λ p. p ++ value) e ∙ append_assoc first (Comma ∷ rest) value,
    last_item levels done t rest value others f,
  ),
)

pub more_members : (levels : ℕ) (done : PairList) (key : Scalar) (t : Tree) (pieces value : List Piece) →
    DoneMembers levels done pieces → Flow levels t value
    → DoneMembers levels (done ++ (key.bytes, t) ∷ []) (pieces ++ ((One key ∷ Colon ∷ value) ++ Comma ∷ []))
more_members levels [] key t pieces value e f =
    (key, value, [], refl, ap (λ p. p ++ ((One key ∷ Colon ∷ value) ++ Comma ∷ [])) e, f, refl)
more_members levels (u ∷ done) key t pieces value (k, first, rest, same, e, g, others) f = (
  k,
  first,
  rest ++ ((One key ∷ Colon ∷ value) ++ Comma ∷ []),
  same,
  ap (λ p. p ++ ((One key ∷ Colon ∷ value) ++ Comma ∷ [])) e
      ∙ append_assoc (One k ∷ Colon ∷ first) (Comma ∷ rest) ((One key ∷ Colon ∷ value) ++ Comma ∷ []),
  g,
  more_members levels done key t rest value others f,
)

pub all_members : (levels : ℕ) (done : PairList) (pieces : List Piece) → DoneMembers levels done pieces →
    FlowMembers levels (members_of done) pieces
all_members levels [] pieces e = e
all_members levels (u ∷ done) pieces (k, first, rest, same, e, g, others) =
    (k, same, first, g, inr (rest, e, all_members levels done rest others))

pub last_member : (levels : ℕ) (done : PairList) (key : Scalar) (t : Tree) (pieces value : List Piece) →
    DoneMembers levels done pieces → Flow levels t value
    → FlowMembers levels (members_of (done ++ (key.bytes, t) ∷ [])) (pieces ++ One key ∷ Colon ∷ value)
last_member levels [] key t pieces value e f =
    (key, refl, value, f, inl (refl, ap (λ p. p ++ One key ∷ Colon ∷ value) e))
last_member levels (u ∷ done) key t pieces value (k, first, rest, same, e, g, others) f = (
  k,
  same,
  first,
  g,
  inr (
    rest ++ One key ∷ Colon ∷ value,
    ap (λ p. p ++ One key ∷ Colon ∷ value) e
        ∙ append_assoc (One k ∷ Colon ∷ first) (Comma ∷ rest) (One key ∷ Colon ∷ value),
    last_member levels done key t rest value others f,
  ),
)

-- ---- scalars

abbrev IsScalar : Tree → Type 0
IsScalar (sequence ts) = ⊥
IsScalar (mapping ms) = ⊥
IsScalar t = Unit {0}

either_scalar : (b : Bool) (t u : Tree) → IsScalar t → IsScalar u → IsScalar (cond b t u)
either_scalar true t u h k = h
either_scalar false t u h k = k

plain_is : (a b c d : Bool) (n : ℕ) (bs : List ℕ) →
    IsScalar (cond a (flag true) (cond b (flag false) (cond c null (cond d (number n) (text bs)))))
plain_is true b c d n bs = tt
plain_is false true c d n bs = tt
plain_is false false true d n bs = tt
plain_is false false false true n bs = tt
plain_is false false false false n bs = tt

scalar_is : (s : Scalar) → IsScalar (scalar_tree s)
scalar_is s =
    either_scalar s.quoted (text s.bytes) (plain_tree s.bytes) tt
    (plain_is (bytes_eq s.bytes (codes "true")) (bytes_eq s.bytes (codes "false"))
    (bytes_eq s.bytes (codes "null") || bytes_eq s.bytes (codes "~")) (is_number s.bytes)
    (number_from 0 s.bytes) s.bytes)

flow_scalar : (t : Tree) (levels : ℕ) (pieces : List Piece) → IsScalar t → Single t pieces → Flow levels t pieces
flow_scalar null levels pieces h s = s
flow_scalar (flag b) levels pieces h s = s
flow_scalar (number n) levels pieces h s = s
flow_scalar (text bs) levels pieces h s = s
flow_scalar (sequence ts) levels pieces h s = absurd h
flow_scalar (mapping ms) levels pieces h s = absurd h
flow_scalar other levels pieces h s = s

pub flow_one : (levels : ℕ) (s : Scalar) → Flow levels (scalar_tree s) (One s ∷ [])
flow_one levels s = flow_scalar (scalar_tree s) levels (One s ∷ []) (scalar_is s) (s, refl, refl)

pub block_lone : (t : Tree) (levels c : ℕ) (symbols : List Symbol) → Lone levels t c symbols → Block levels t c symbols
block_lone null levels c symbols l = l
block_lone (flag b) levels c symbols l = l
block_lone (number n) levels c symbols l = l
block_lone (text bs) levels c symbols l = l
block_lone (sequence ts) levels c symbols l = inr l
block_lone (mapping ms) levels c symbols l = inr l
block_lone other levels c symbols l = l
