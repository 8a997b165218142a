-- How a reader goes from symbol to symbol: the maps and sequences that are not complete, the innermost first, and the node so far.
use Rattle.std.specs.Prelude.{◌≡◌, ⊤, ℕ, suc, ◌-◌, ◌<◌, Bool, true, false, not, ◌==◌, ◌&&◌, ◌||◌, nat_lt, if◌then◌else◌, List, [], ◌∷◌, ◌++◌, length, Option, Some, None, Result, Ok, Err}
use Rattle.zr_names.specs.Tree.{Tree, null, mapping, sequence, items_of, members_of}
use Rattle.zr_yaml.specs.declared.symbols.Bracket.{Bracket}
use Rattle.zr_yaml.specs.declared.symbols.Bracket.TheVariants.{Curly, Square}
use Rattle.zr_yaml.specs.declared.symbols.Piece.{Piece}
use Rattle.zr_yaml.specs.declared.symbols.Piece.TheVariants.{One, Open, Close, Comma, Colon}
use Rattle.zr_yaml.specs.declared.symbols.Symbol.{Symbol}
use Rattle.zr_yaml.specs.declared.symbols.Symbol.TheVariants.{Dash, Key, Value, More}
use Rattle.zr_yaml.specs.declared.fault.Stop.{Stop}
use Rattle.zr_yaml.specs.declared.fault.Stop.TheVariants as stops
use Rattle.zr_yaml.specs.declared.fault.YamlFault.{YamlFault}
use Rattle.zr_yaml.specs.declared.fault.YamlFault.TheVariants.{BadYaml, NoMemory}
use Rattle.zr_yaml.specs.Document.{PairList, has_pair}
use Rattle.zr_yaml.specs.Lines.{contents, is_text}
use Rattle.zr_yaml.specs.Scalar.{scalar_tree}
use Rattle.zr_yaml.specs.Symbols.{Read, line_symbols}

-- A map or a sequence with the parts that are complete.
pub data Frame : Type 0 where
  -- dashes at a column; the last one's node is to come
  dashes : ℕ → List Tree → Frame
  -- keys at a column; the node of this last one is to come
  keys : ℕ → PairList → List ℕ → Frame
  -- `[`
  items : List Tree → Frame
  -- `{`, with a key to come, a colon behind this key, or this key's value
  pairs : PairList → Frame
  named : PairList → List ℕ → Frame
  valued : PairList → List ℕ → Frame

-- what a reader has
pub record State : Type 0 where
  pub frames : List Frame
  -- the node that belongs into the innermost frame, where something stands there
  pub slot : Option Tree

abbrev pub start : State
start = record { frames = []; slot = None }

-- where nothing stands, there is Null
abbrev pub tree_or_null : Option Tree → Tree
tree_or_null None = null
tree_or_null (Some t) = t

-- nesting is at most 32 deep
abbrev pub has_room : List Frame → Bool
has_room frames = nat_lt (length frames) 32

-- ---- in brackets

-- what a piece does to the innermost frame
pub data Step : Type 0 where
  stay : Frame → Option Tree → Step
  under : Frame → Frame → Step
  filled : Tree → Step

abbrev pub opened : Bracket → Frame
opened Curly = pairs []
opened Square = items []

-- a value is to come
abbrev pub value_step : Frame → Piece → Option Step
value_step frame (One s) = Some (stay frame (Some (scalar_tree s)))
value_step frame (Open kind) = Some (under frame (opened kind))
value_step frame (Close kind) = None
value_step frame Comma = None
value_step frame Colon = None

-- behind a value of a sequence
abbrev pub after_item : List Tree → Piece → Option Step
after_item done Comma = Some (stay (items done) None)
after_item done (Close Square) = Some (filled (sequence (items_of done)))
after_item done _ = None

abbrev pub items_step : List Tree → Option Tree → Piece → Option Step
items_step done (Some t) piece = after_item (done ++ t ∷ []) piece
items_step done None (Close Square) = Some (filled (sequence (items_of done)))
items_step done None piece = value_step (items done) piece

abbrev pub pairs_step : PairList → Piece → Option Step
pairs_step done (One s) = if has_pair s.bytes done then None else Some (stay (named done s.bytes) None)
pairs_step done (Close Curly) = Some (filled (mapping (members_of done)))
pairs_step done _ = None

abbrev pub named_step : PairList → List ℕ → Piece → Option Step
named_step done key Colon = Some (stay (valued done key) None)
named_step done key _ = None

-- behind a value of a map
abbrev pub after_pair : PairList → Piece → Option Step
after_pair done Comma = Some (stay (pairs done) None)
after_pair done (Close Curly) = Some (filled (mapping (members_of done)))
after_pair done _ = None

abbrev pub valued_step : PairList → List ℕ → Option Tree → Piece → Option Step
valued_step done key (Some t) piece = after_pair (done ++ (key, t) ∷ []) piece
valued_step done key None piece = value_step (valued done key) piece

abbrev pub piece_step : Frame → Option Tree → Piece → Option Step
piece_step (items done) slot piece = items_step done slot piece
piece_step (pairs done) slot piece = pairs_step done piece
piece_step (named done key) slot piece = named_step done key piece
piece_step (valued done key) slot piece = valued_step done key slot piece
piece_step (dashes column done) slot piece = None
piece_step (keys column done key) slot piece = None

-- the state after such a step, over the frames outside
abbrev pub stepped : List Frame → Option Step → Option State
stepped frames None = None
stepped frames (Some (stay frame slot)) = Some (record { frames = frame ∷ frames; slot = slot })
stepped frames (Some (filled t)) = Some (record { frames = frames; slot = Some t })
stepped frames (Some (under frame inner)) =
    if has_room (frame ∷ frames) then Some (record { frames = inner ∷ frame ∷ frames; slot = None }) else None

abbrev pub more_step : List Frame → Option Tree → Piece → Option State
more_step [] slot piece = None
more_step (frame ∷ frames) slot piece = stepped frames (piece_step frame slot piece)

-- ---- blocks

-- a frame ends before a symbol at this column; a dash does not end dashes at its own column
abbrev pub ends_before : ℕ → Bool → Frame → Bool
ends_before column dashed (dashes c done) = nat_lt column c || (column == c && not dashed)
ends_before column dashed (keys c done key) = nat_lt column c
ends_before column dashed _ = false

abbrev pub ends_first : ℕ → Bool → List Frame → Bool
ends_first column dashed [] = false
ends_first column dashed (frame ∷ frames) = ends_before column dashed frame

-- the tree of a frame with its last part
abbrev pub frame_tree : Frame → Option Tree → Tree
frame_tree (dashes c done) slot = sequence (items_of (done ++ tree_or_null slot ∷ []))
frame_tree (keys c done key) slot = mapping (members_of (done ++ (key, tree_or_null slot) ∷ []))
frame_tree _ slot = null

-- the state when the frames that end are complete
abbrev pub closed : ℕ → Bool → List Frame → Option Tree → State
closed column dashed [] slot = record { frames = []; slot = slot }
closed column dashed (frame ∷ frames) slot =
    if ends_before column dashed frame then closed column dashed frames (Some (frame_tree frame slot))
    else record { frames = frame ∷ frames; slot = slot }

-- a block may begin at this column inside of these frames: deeper than the innermost one; dashes also at the column of a key
abbrev pub may_begin : ℕ → Bool → List Frame → Bool
may_begin column dashed [] = column == 0
may_begin column dashed (dashes c done ∷ frames) = nat_lt c column
may_begin column dashed (keys c done key ∷ frames) = nat_lt c column || (column == c && dashed)
may_begin column dashed (_ ∷ frames) = false

abbrev pub begun : Frame → Bool → List Frame → Option Tree → Option State
begun frame may frames (Some t) = None
begun frame may frames None =
    if may && has_room frames then Some (record { frames = frame ∷ frames; slot = None }) else None

-- the innermost frame has dashes, or keys, at this column
abbrev pub dashes_at : ℕ → List Frame → Bool
dashes_at column (dashes c done ∷ frames) = column == c
dashes_at column _ = false

abbrev pub keys_at : ℕ → List Frame → Bool
keys_at column (keys c done key ∷ frames) = column == c
keys_at column _ = false

-- the next dash, and the next key, of the innermost frame
abbrev pub next_dash : List Frame → Option Tree → Option State
next_dash (dashes c done ∷ frames) slot =
    Some (record { frames = dashes c (done ++ tree_or_null slot ∷ []) ∷ frames; slot = None })
next_dash _ slot = None

abbrev pub with_key : ℕ → List ℕ → PairList → List Frame → Option State
with_key column key done frames =
    if has_pair key done then None else Some (record { frames = keys column done key ∷ frames; slot = None })

abbrev pub next_key : List ℕ → List Frame → Option Tree → Option State
next_key key (keys c done last ∷ frames) slot = with_key c key (done ++ (last, tree_or_null slot) ∷ []) frames
next_key key _ slot = None

abbrev pub dash_step : ℕ → List Frame → Option Tree → Option State
dash_step column frames slot =
    if dashes_at column frames then next_dash frames slot else begun (dashes column [])
    (may_begin column true frames) frames slot

abbrev pub key_step : ℕ → List ℕ → List Frame → Option Tree → Option State
key_step column key frames slot =
    if keys_at column frames then next_key key frames slot else begun (keys column [] key)
    (may_begin column false frames) frames slot

abbrev pub lone_step : Bool → Piece → List Frame → Option Tree → Option State
lone_step may piece frames (Some t) = None
lone_step false piece frames None = None
lone_step true (One s) frames None = Some (record { frames = frames; slot = Some (scalar_tree s) })
lone_step true (Open kind) frames None =
    if has_room frames then Some (record { frames = opened kind ∷ frames; slot = None }) else None
lone_step true _ frames None = None

-- ---- all

abbrev pub symbol_step : State → Symbol → Option State
symbol_step s (Dash column) =
    dash_step column (closed column true s.frames s.slot).frames (closed column true s.frames s.slot).slot
symbol_step s (Key column key) =
    key_step column key (closed column false s.frames s.slot).frames (closed column false s.frames s.slot).slot
symbol_step s (Value column piece) = lone_step (may_begin column false s.frames) piece s.frames s.slot
symbol_step s (More piece) = more_step s.frames s.slot piece

abbrev pub then_symbols : (State → Option State) → Option State → Option State
then_symbols go None = None
then_symbols go (Some s) = go s

abbrev pub symbols_step : State → List Symbol → Option State
symbols_step s [] = Some s
symbols_step s (symbol ∷ others) = then_symbols (λ next. symbols_step next others) (symbol_step s symbol)

-- the tree when the text ends, where no bracket is open
abbrev pub is_bracket : Frame → Bool
is_bracket (dashes c done) = false
is_bracket (keys c done key) = false
is_bracket _ = true

abbrev pub ended : List Frame → Option Tree → Option Tree
ended [] slot = Some (tree_or_null slot)
ended (frame ∷ frames) slot = if is_bracket frame then None else ended frames (Some (frame_tree frame slot))

-- ---- lines

abbrev pub counted : ℕ → Option State → Option (State × ℕ)
counted unclosed None = None
counted unclosed (Some s) = Some (s, unclosed)

abbrev pub line_read : State → Option Read → Option (State × ℕ)
line_read s None = None
line_read s (Some x) = counted x.1 (symbols_step s x.0)

-- the state after a line, and how many brackets are open behind it
abbrev pub line_step : State → ℕ → List ℕ → Option (State × ℕ)
line_step s unclosed line = if is_text line then line_read s (line_symbols unclosed line) else None

abbrev pub then_lines : ℕ → (State × ℕ → Result (State × ℕ) ℕ) → Option (State × ℕ) → Result (State × ℕ) ℕ
then_lines good go None = Err good
then_lines good go (Some x) = go x

-- the state after lines and their number, or how many came before the first one that is bad
abbrev pub lines_step : ℕ → State × ℕ → List (List ℕ) → Result (State × ℕ) ℕ
lines_step good s [] = Ok (s.0, good)
lines_step good s (line ∷ others) = then_lines good (λ x. lines_step (suc good) x others) (line_step s.0 s.1 line)

abbrev pub tree_or : ℕ → Option Tree → Result Tree ℕ
tree_or good None = Err good
tree_or good (Some t) = Ok t

abbrev pub lines_end : Result (State × ℕ) ℕ → Result Tree ℕ
lines_end (Err good) = Err good
lines_end (Ok x) = tree_or x.1 (ended x.0.frames x.0.slot)

-- the tree of a text, or how many of its lines are good
abbrev pub outcome : List (List ℕ) → Result Tree ℕ
outcome lines = lines_end (lines_step 0 (start, 0) (contents lines))

-- what the code answers is this outcome, unless memory ran out
abbrev pub GivesOutcome : {X : Type 0} → (X → Tree) → Result X YamlFault → Result Tree ℕ → Type 0
GivesOutcome view (Ok x) given = given ≡ Ok (view x)
GivesOutcome view (Err (BadYaml n)) given = (0 < n) × (given ≡ Err (n - 1))
GivesOutcome view (Err NoMemory) given = ⊤

abbrev pub fault_at : Stop → ℕ → YamlFault
fault_at stops.Bad line = BadYaml line
fault_at stops.NoMemory line = NoMemory
