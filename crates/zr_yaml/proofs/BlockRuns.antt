-- Blocks are read.
use Rattle.std.proofs.Common.{◌≡◌, inl, inr, ℕ, suc, ◌+◌, ◌<◌, ◌≤◌, Bool, true, false, cond, ◌==◌, ◌&&◌, List, [], ◌∷◌, ◌++◌, length, map, Option, Some, None, refl, sym, ap, subst, ◌∙◌, append_assoc, arith}
use Rattle.std.specs.Prelude.{nat_lt}
use Rattle.std.proofs.lemmas.Bool.Decides.{nat_tests}
use Rattle.zr_names.specs.Tree.{Tree, null, flag, number, text, mapping, sequence, other, Items, no_items, item, Members, no_members, member, items_of, members_of}
use Rattle.zr_yaml.specs.declared.symbols.Bracket.{Bracket}
use Rattle.zr_yaml.specs.declared.symbols.Bracket.TheVariants.{Curly, Square}
use Rattle.zr_yaml.specs.declared.symbols.Piece.{Piece}
use Rattle.zr_yaml.specs.declared.symbols.Piece.TheVariants.{One, Open, Close}
use Rattle.zr_yaml.specs.declared.symbols.Symbol.{Symbol}
use Rattle.zr_yaml.specs.declared.symbols.Symbol.TheVariants.{Dash, Key, Value, More}
use Rattle.zr_yaml.specs.Document.{Below, Block, Dashes, DashesOf, Flow, Keys, Lone, NewKeys, PairList, Says, Single, has_pair}
use Rattle.zr_yaml.specs.Reading.{Frame, dashes, keys, items, pairs, State, begun, closed, dash_step, dashes_at, ended, ends_before, frame_tree, has_room, key_step, keys_at, lone_step, may_begin, next_dash, next_key, opened, start, symbol_step, symbols_step, then_symbols, tree_or_null}
use Rattle.zr_yaml.specs.Scalar.{scalar_tree}
use Rattle.zr_yaml.proofs.FlowRuns.{items_run, members_run}
use Rattle.zr_yaml.proofs.Running.{AtMost, Before, Ends, Ran, Stands, at, has_room_true, items_of-list, list_of, members_of-list, mored_append, mored_map, pair_list, run_on, run_one}

-- ---- tests of columns

not_below_itself : (i : ℕ) → nat_lt i i ≡ false
not_below_itself i = grind (arith, nat_tests)

itself : (i : ℕ) → (i == i) ≡ true
itself i = grind (arith, nat_tests)

below_true : (i j : ℕ) → i < j → nat_lt i j ≡ true
below_true i j h = grind (arith, nat_tests)

-- dashes at a column stay open before a dash there, and keys before any symbol there
dashes_stay : (i : ℕ) (done : List Tree) → ends_before i true (dashes i done) ≡ false
dashes_stay i done = rw (not_below_itself i, itself i) refl

keys_stay : (i : ℕ) (dashed : Bool) (done : PairList) (key : List ℕ) → ends_before i dashed (keys i done key) ≡ false
keys_stay i dashed done key = not_below_itself i

dashes_end : (i c : ℕ) (dashed : Bool) (done : List Tree) → Ends i c dashed →
    ends_before c dashed (dashes i done) ≡ true
dashes_end i c dashed done (inl h) = rw (below_true c i h) refl
dashes_end i c dashed done (inr (same, key)) = rw (same, key, itself i, not_below_itself i) refl

keys_end : (i c : ℕ) (dashed : Bool) (done : PairList) (key : List ℕ) → c < i →
    ends_before c dashed (keys i done key) ≡ true
keys_end i c dashed done key h = below_true c i h

-- a frame that stays open closes nothing
stays : (c : ℕ) (dashed : Bool) (frame : Frame) (frames : List Frame) (slot : Option Tree) →
    ends_before c dashed frame ≡ false → closed c dashed (frame ∷ frames) slot ≡ at (frame ∷ frames) slot
stays c dashed frame frames slot h =
    ap (λ (b : Bool). cond b (closed c dashed frames (Some (frame_tree frame slot))) (at (frame ∷ frames) slot)) h

closes : (c : ℕ) (dashed : Bool) (frame : Frame) (frames : List Frame) (slot : Option Tree) →
    ends_before c dashed frame ≡ true →
    closed c dashed (frame ∷ frames) slot ≡ closed c dashed frames (Some (frame_tree frame slot))
closes c dashed frame frames slot h =
    ap (λ (b : Bool). cond b (closed c dashed frames (Some (frame_tree frame slot))) (at (frame ∷ frames) slot)) h

-- ---- where a block may begin, nothing closes

-- a block may begin at this column, and the symbol there closes none of the frames and goes on with none of them
pub record Begins (i : ℕ) (dashed : Bool) (frames : List Frame) : Type 0 where
  pub may : may_begin i dashed frames ≡ true
  pub none : (slot : Option Tree) → closed i dashed frames slot ≡ at frames slot
  pub no_dashes : dashes_at i frames ≡ false
  pub no_keys : dashed ≡ false → keys_at i frames ≡ false

begins_first : (dashed : Bool) → Begins 0 dashed []
begins_first dashed = record { may = refl; none = λ slot. refl; no_dashes = refl; no_keys = λ h. refl }

other_column : (i j : ℕ) → i < j → (j == i) ≡ false
other_column i j h = grind (arith, nat_tests)

not_before : (i j : ℕ) → i < j → nat_lt j i ≡ false
not_before i j h = grind (arith, nat_tests)

pub begins_in_dashes : (i j : ℕ) (dashed : Bool) (done : List Tree) (frames : List Frame) → i < j →
    Begins j dashed (dashes i done ∷ frames)
begins_in_dashes i j dashed done frames h =
    record {
      may = below_true i j h;
      none = λ slot. stays j dashed (dashes i done) frames slot (rw (not_before i j h, other_column i j h) refl);
      no_dashes = other_column i j h;
      no_keys = λ n. refl;
    }

pub begins_in_keys : (i j : ℕ) (dashed : Bool) (done : PairList) (key : List ℕ) (frames : List Frame) → i < j →
    Begins j dashed (keys i done key ∷ frames)
begins_in_keys i j dashed done key frames h =
    record {
      may = rw (below_true i j h) refl;
      none = λ slot. stays j dashed (keys i done key) frames slot (not_before i j h);
      no_dashes = refl;
      no_keys = λ n. other_column i j h;
    }

begins_dashes : (i : ℕ) (done : PairList) (key : List ℕ) (frames : List Frame) →
    Begins i true (keys i done key ∷ frames)
begins_dashes i done key frames =
    record {
      may = rw (not_below_itself i, itself i) refl;
      none = λ slot. stays i true (keys i done key) frames slot (not_below_itself i);
      no_dashes = refl;
      no_keys = λ n. absurd cc;
    }

-- ---- the first dash, and the first key

begun_true : (frame : Frame) (may : Bool) (frames : List Frame) → may ≡ true → length frames < 32 →
    begun frame may frames None ≡ Some (at (frame ∷ frames) None)
begun_true frame may frames m room =
    ap (λ (b : Bool). cond (b && has_room frames) (Some (at (frame ∷ frames) None)) None) m
    ∙ ap (λ (b : Bool). cond b (Some (at (frame ∷ frames) None)) None) (has_room_true frames room)

first_dash : (i : ℕ) (frames : List Frame) → Begins i true frames → length frames < 32 →
    symbol_step (at frames None) (Dash i) ≡ Some (at (dashes i [] ∷ frames) None)
first_dash i frames b room =
    ap (λ (s : State). dash_step i s.frames s.slot) (b.none None)
    ∙ ap (λ (t : Bool). cond t (next_dash frames None) (begun (dashes i []) (may_begin i true frames) frames None))
    b.no_dashes
    ∙ begun_true (dashes i []) (may_begin i true frames) frames b.may room

first_key : (i : ℕ) (key : List ℕ) (frames : List Frame) → Begins i false frames → length frames < 32 →
    symbol_step (at frames None) (Key i key) ≡ Some (at (keys i [] key ∷ frames) None)
first_key i key frames b room =
    ap (λ (s : State). key_step i key s.frames s.slot) (b.none None)
    ∙ ap (λ (t : Bool). cond t (next_key key frames None)
    (begun (keys i [] key) (may_begin i false frames) frames None)) (b.no_keys refl)
    ∙ begun_true (keys i [] key) (may_begin i false frames) frames b.may room

-- ---- the next ones

next_dash_run : (i : ℕ) (x : State) (done : List Tree) (frames : List Frame) (slot : Option Tree) →
    Stands (AtMost i) x (dashes i done ∷ frames) slot
    → symbol_step x (Dash i) ≡ Some (at (dashes i (done ++ tree_or_null slot ∷ []) ∷ frames) None)
next_dash_run i x done frames slot s =
    let le : i ≤ i = omega arith in
    ap (λ (s : State). dash_step i s.frames s.slot) (s.0 i true le
    ∙ stays i true (dashes i done) frames slot (dashes_stay i done))
    ∙ ap (λ (t : Bool). cond t (next_dash (dashes i done ∷ frames) slot)
    (begun (dashes i []) (may_begin i true (dashes i done ∷ frames)) (dashes i done ∷ frames) slot)) (itself i)

next_key_run : (i : ℕ) (x : State) (done : PairList) (last key : List ℕ) (frames : List Frame)
    (slot : Option Tree) → Stands (Ends i) x (keys i done last ∷ frames) slot
    → has_pair key (done ++ (last, tree_or_null slot) ∷ []) ≡ false →
    symbol_step x (Key i key) ≡ Some (at (keys i (done ++ (last, tree_or_null slot) ∷ []) key ∷ frames) None)
next_key_run i x done last key frames slot s new =
    ap (λ (s : State). key_step i key s.frames s.slot) (s.0 i false (inr (refl, refl))
    ∙ stays i false (keys i done last) frames slot (keys_stay i false done last))
    ∙ ap (λ (t : Bool). cond t (next_key key (keys i done last ∷ frames) slot)
    (begun (keys i [] key) (may_begin i false (keys i done last ∷ frames)) (keys i done last ∷ frames) slot))
    (itself i)
    ∙ ap (λ (t : Bool). cond t None (Some (at (keys i (done ++ (last, tree_or_null slot) ∷ []) key ∷ frames) None))) new

-- ---- a value alone

lone_first : (i : ℕ) (frames : List Frame) (first : Piece) (others : List Symbol) →
    may_begin i false frames ≡ true →
    symbols_step (at frames None) (Value i first ∷ others)
    ≡ then_symbols (λ y. symbols_step y others) (lone_step true first frames None)
lone_first i frames first others may =
    ap (λ (b : Bool). then_symbols (λ y. symbols_step y others) (lone_step b first frames None)) may

lone_open : (kind : Bracket) (frames : List Frame) → length frames < 32 →
    lone_step true (Open kind) frames None ≡ Some (at (opened kind ∷ frames) None)
lone_open kind frames room =
    ap (λ (b : Bool). cond b (Some (at (opened kind ∷ frames) None)) None) (has_room_true frames room)

lone_single : (t : Tree) (i : ℕ) (frames : List Frame) (first : Piece) (others : List Piece) →
    may_begin i false frames ≡ true → Single t (first ∷ others)
    → symbols_step (at frames None) (Value i first ∷ map More others) ≡ Some (at frames (Some t))
lone_single t i frames first others may (s, e, te) =
    let one : first ≡ One s = cc in
    let none : others ≡ [] = cc in
    lone_first i frames first (map More others) may
    ∙ ap (λ p. then_symbols (λ y. symbols_step y (map More others)) (lone_step true p frames None)) one
    ∙ ap (λ ps. symbols_step (at frames (Some (scalar_tree s))) (map More ps)) none
    ∙ ap (λ u. Some (at frames (Some u))) (sym te)

lone_run : (t : Tree) (levels i : ℕ) (frames : List Frame) (first : Piece) (others : List Piece) →
    may_begin i false frames ≡ true → Flow levels t (first ∷ others) → length frames + levels ≤ 32
    → symbols_step (at frames None) (Value i first ∷ map More others) ≡ Some (at frames (Some t))
lone_run null levels i frames first others may f room = lone_single null i frames first others may f
lone_run (flag b) levels i frames first others may f room = lone_single (flag b) i frames first others may f
lone_run (number n) levels i frames first others may f room = lone_single (number n) i frames first others may f
lone_run (text bs) levels i frames first others may f room = lone_single (text bs) i frames first others may f
lone_run other levels i frames first others may f room = lone_single other i frames first others may f
lone_run (sequence ts) levels i frames first others may (below, le, (inner, e, inside)) room =
    let opens : first ≡ Open Square = cc in
    let tail : others ≡ inner ++ Close Square ∷ [] = cc in
    let deep : length frames + suc below ≤ 32 = omega (arith, le, room) in
    lone_first i frames first (map More others) may
    ∙ ap (λ p. then_symbols (λ y. symbols_step y (map More others)) (lone_step true p frames None)) opens
    ∙ ap (then_symbols (λ y. symbols_step y (map More others))) (lone_open Square frames (omega arith))
    ∙ ap (λ ps. symbols_step (at (items [] ∷ frames) None) (map More ps)) tail
    ∙ ap (symbols_step (at (items [] ∷ frames) None)) (sym (mored_map (inner ++ Close Square ∷ []))
    ∙ mored_append inner (Close Square ∷ []) [])
    ∙ items_run ts below frames [] inner [] inside deep
    ∙ ap (λ us. Some (at frames (Some (sequence us)))) (items_of-list ts)
lone_run (mapping ms) levels i frames first others may (differ, (below, le, (inner, e, inside))) room =
    let opens : first ≡ Open Curly = cc in
    let tail : others ≡ inner ++ Close Curly ∷ [] = cc in
    let deep : length frames + suc below ≤ 32 = omega (arith, le, room) in
    lone_first i frames first (map More others) may
    ∙ ap (λ p. then_symbols (λ y. symbols_step y (map More others)) (lone_step true p frames None)) opens
    ∙ ap (then_symbols (λ y. symbols_step y (map More others))) (lone_open Curly frames (omega arith))
    ∙ ap (λ ps. symbols_step (at (pairs [] ∷ frames) None) (map More ps)) tail
    ∙ ap (symbols_step (at (pairs [] ∷ frames) None)) (sym (mored_map (inner ++ Close Curly ∷ []))
    ∙ mored_append inner (Close Curly ∷ []) [])
    ∙ members_run ms below frames [] inner [] inside differ deep
    ∙ ap (λ us. Some (at frames (Some (mapping us)))) (members_of-list ms)

lone_ran : (t : Tree) (levels i : ℕ) (frames : List Frame) (symbols : List Symbol) →
    may_begin i false frames ≡ true → Lone levels t i symbols → length frames + levels ≤ 32 →
    Ran (at frames None) symbols (Before i) frames (Some t)
lone_ran t levels i frames symbols may (first, others, e, f) room = (
  at frames (Some t),
  ap (symbols_step (at frames None)) e ∙ lone_run t levels i frames first others may f room,
  (λ c dashed h. refl, refl),
)

-- ---- what stands below a dash or a key

at_most : (i c : ℕ) (dashed : Bool) → Ends i c dashed → c ≤ i
at_most i c dashed (inl h) = omega arith
at_most i c dashed (inr h) = omega (arith, h.0)

abbrev Runs : Tree → Type 0
Runs t = (levels i : ℕ) (frames : List Frame) (symbols : List Symbol) → Begins i false frames →
    Begins i true frames → Block levels t i symbols → length frames + levels ≤ 32 →
    Ran (at frames None) symbols (Before i) frames (Some t)

-- the node below, and the state that stands for it
abbrev RanBelow : State → List Symbol → (ℕ → Bool → Type 0) → List Frame → Tree → Type 0
RanBelow s symbols P frames t = (slot : Option Tree) × (tree_or_null slot ≡ t) × Ran s symbols P frames slot

below_run : (t : Tree) → Runs t → (levels i : ℕ) (frames : List Frame) (symbols : List Symbol) →
    ((j : ℕ) (dashed : Bool) → i < j → Begins j dashed frames) → Below (Block levels t) t i symbols →
    length frames + levels ≤ 32
    → RanBelow (at frames None) symbols (AtMost i) frames t
below_run t run levels i frames symbols begins (inl (e, n)) room =
    (None, sym n, (at frames None, ap (symbols_step (at frames None)) e, (λ c dashed h. refl, refl)))
below_run t run levels i frames symbols begins (inr (j, lt, block)) room =
    let r = run levels j frames symbols (begins j false lt) (begins j true lt) block room in
    (Some t, refl, (r.0, r.1, (λ c dashed h. r.2.0 c dashed (omega (arith, lt, h)), r.2.1)))

-- ---- dashes

abbrev DashesRun : Items → Type 0
DashesRun ts = (levels i : ℕ) (frames : List Frame) (done : List Tree) (s : State) (symbols : List Symbol) →
    0 < length symbols → Dashes levels ts i symbols
    → symbol_step s (Dash i) ≡ Some (at (dashes i done ∷ frames) None) → length frames + suc levels ≤ 32 →
    Ran s symbols (Ends i) frames (Some (sequence (items_of (done ++ list_of ts))))

-- the last dash's node makes the sequence complete
dashes_done : (i : ℕ) (frames : List Frame) (done : List Tree) (t : Tree) (x : State) (slot : Option Tree) →
    tree_or_null slot ≡ t → Stands (AtMost i) x (dashes i done ∷ frames) slot
    → Stands (Ends i) x frames (Some (sequence (items_of (done ++ t ∷ []))))
dashes_done i frames done t x slot e s =
    let same = ap (λ u. Some (sequence (items_of (done ++ u ∷ [])))) e in (
      λ c dashed h. s.0 c dashed (at_most i c dashed h)
          ∙ closes c dashed (dashes i done) frames slot (dashes_end i c dashed done h)
          ∙ ap (closed c dashed frames) same,
      s.1 ∙ ap (ended frames) same,
    )

dashes_more : (ts : Items) → DashesRun ts →
    (t : Tree) (levels i : ℕ) (frames : List Frame) (done : List Tree) (s x : State) (slot : Option Tree)
    (below rest symbols : List Symbol) → symbols ≡ Dash i ∷ (below ++ rest)
    → symbol_step s (Dash i) ≡ Some (at (dashes i done ∷ frames) None) → tree_or_null slot ≡ t →
    symbols_step (at (dashes i done ∷ frames) None) below ≡ Some x →
    Stands (AtMost i) x (dashes i done ∷ frames) slot
    → Dashes levels ts i rest → length frames + suc levels ≤ 32 →
    Ran s symbols (Ends i) frames (Some (sequence (items_of (done ++ t ∷ list_of ts))))
dashes_more no_items go t levels i frames done s x slot below rest symbols e first same ran stands none room = (
  x,
  ap (symbols_step s) e ∙ run_one (Dash i) (below ++ rest) s (at (dashes i done ∷ frames) None) first
      ∙ run_on below rest (at (dashes i done ∷ frames) None) x ran ∙ ap (symbols_step x) none,
  dashes_done i frames done t x slot same stands,
)
dashes_more (item u us) go t levels i frames done s x slot below rest symbols e first same ran stands others room =
    let some : 0 < length rest = omega (arith, ap length others.2) in
    let next : symbol_step x (Dash i) ≡ Some (at (dashes i (done ++ t ∷ []) ∷ frames) None) =
    next_dash_run i x done frames slot stands
    ∙ ap (λ v. Some (at (dashes i (done ++ v ∷ []) ∷ frames) None)) same in
    let r = go levels i frames (done ++ t ∷ []) x rest some others next room in (
      r.0,
      ap (symbols_step s) e ∙ run_one (Dash i) (below ++ rest) s (at (dashes i done ∷ frames) None) first
          ∙ run_on below rest (at (dashes i done ∷ frames) None) x ran ∙ r.1,
      subst (λ (vs : List Tree). Stands (Ends i) r.0 frames (Some (sequence (items_of vs))))
          (append_assoc done (t ∷ []) (u ∷ list_of us)) r.2,
    )

-- ---- keys

-- the first key of these begins or goes on with a map
abbrev Starts : ℕ → List Frame → PairList → State → Members → Type 0
Starts i frames done s no_members = Unit {0}
Starts i frames done s (member key t ms) = symbol_step s (Key i key) ≡ Some (at (keys i done key ∷ frames) None)

abbrev KeysRun : Members → Type 0
KeysRun ms = (levels i : ℕ) (frames : List Frame) (done : PairList) (s : State) (symbols : List Symbol) →
    0 < length symbols → Keys levels ms i symbols → NewKeys done ms
    → Starts i frames done s ms → length frames + suc levels ≤ 32 →
    Ran s symbols (Before i) frames (Some (mapping (members_of (done ++ pair_list ms))))

-- the last key's node makes the map complete
keys_done : (i : ℕ) (frames : List Frame) (done : PairList) (key : List ℕ) (t : Tree) (x : State)
    (slot : Option Tree) → tree_or_null slot ≡ t → Stands (Ends i) x (keys i done key ∷ frames) slot
    → Stands (Before i) x frames (Some (mapping (members_of (done ++ (key, t) ∷ []))))
keys_done i frames done key t x slot e s =
    let same = ap (λ u. Some (mapping (members_of (done ++ (key, u) ∷ [])))) e in (
      λ c dashed h. s.0 c dashed (inl h)
          ∙ closes c dashed (keys i done key) frames slot (keys_end i c dashed done key h)
          ∙ ap (closed c dashed frames) same,
      s.1 ∙ ap (ended frames) same,
    )

keys_more : (ms : Members) → KeysRun ms →
    (key : List ℕ) (t : Tree) (levels i : ℕ) (frames : List Frame) (done : PairList) (s x : State)
    (slot : Option Tree) (below rest symbols : List Symbol) → symbols ≡ Key i key ∷ (below ++ rest)
    → symbol_step s (Key i key) ≡ Some (at (keys i done key ∷ frames) None) → tree_or_null slot ≡ t →
    symbols_step (at (keys i done key ∷ frames) None) below ≡ Some x →
    Stands (Ends i) x (keys i done key ∷ frames) slot
    → Keys levels ms i rest → NewKeys (done ++ (key, t) ∷ []) ms → length frames + suc levels ≤ 32 →
    Ran s symbols (Before i) frames (Some (mapping (members_of (done ++ (key, t) ∷ pair_list ms))))
keys_more no_members go key t levels i frames done s x slot below rest symbols e first same ran stands none new room = (
  x,
  ap (symbols_step s) e ∙ run_one (Key i key) (below ++ rest) s (at (keys i done key ∷ frames) None) first
      ∙ run_on below rest (at (keys i done key ∷ frames) None) x ran ∙ ap (symbols_step x) none,
  keys_done i frames done key t x slot same stands,
)
keys_more (member k u us) go key t levels i frames done s x slot below rest symbols e first same ran stands others
    new room =
    let some : 0 < length rest = omega (arith, ap length others.2) in
    let fresh : has_pair k (done ++ (key, tree_or_null slot) ∷ []) ≡ false =
    ap (λ v. has_pair k (done ++ (key, v) ∷ [])) same ∙ new.0 in
    let next : symbol_step x (Key i k) ≡ Some (at (keys i (done ++ (key, t) ∷ []) k ∷ frames) None) =
    next_key_run i x done key k frames slot stands fresh
    ∙ ap (λ v. Some (at (keys i (done ++ (key, v) ∷ []) k ∷ frames) None)) same in
    let r = go levels i frames (done ++ (key, t) ∷ []) x rest some others new next room in (
      r.0,
      ap (symbols_step s) e ∙ run_one (Key i key) (below ++ rest) s (at (keys i done key ∷ frames) None) first
          ∙ run_on below rest (at (keys i done key ∷ frames) None) x ran ∙ r.1,
      subst (λ (vs : PairList). Stands (Before i) r.0 frames (Some (mapping (members_of vs))))
          (append_assoc done ((key, t) ∷ []) ((k, u) ∷ pair_list us)) r.2,
    )

-- ---- blocks

sequence_run : (ts : Items) → DashesRun ts → Runs (sequence ts)
sequence_run ts go levels i frames symbols b bt (inr lone) room =
    lone_ran (sequence ts) levels i frames symbols b.may lone room
sequence_run ts go levels i frames symbols b bt (inl (some, (below, le, ds))) room =
    let deep : length frames + suc below ≤ 32 = omega (arith, le, room) in
    let r = go below i frames [] (at frames None) symbols some ds (first_dash i frames bt (omega arith)) deep in
    let same = ap (λ us. Some (sequence us)) (items_of-list ts) in (
      r.0,
      r.1,
      (
        λ c dashed h. r.2.0 c dashed (inl h) ∙ ap (closed c dashed frames) same,
        r.2.1
            ∙ ap (ended frames) same,
      ),
    )

-- dashes at the column of a key
abbrev RunsDashesOf : Tree → Type 0
RunsDashesOf t = (levels i : ℕ) (frames : List Frame) (done : PairList) (key : List ℕ) (symbols : List Symbol) →
    DashesOf levels t i symbols → length (keys i done key ∷ frames) + levels ≤ 32
    → Ran (at (keys i done key ∷ frames) None) symbols (Ends i) (keys i done key ∷ frames) (Some t)

dashes_of : (ts : Items) → DashesRun ts → RunsDashesOf (sequence ts)
dashes_of ts go levels i frames done key symbols (some, (below, le, ds)) room =
    let deep : length (keys i done key ∷ frames) + suc below ≤ 32 = omega (arith, le, room) in
    let r = go below i (keys i done key ∷ frames) [] (at (keys i done key ∷ frames) None) symbols some ds
    (first_dash i (keys i done key ∷ frames) (begins_dashes i done key frames) (omega arith)) deep in
    let same = ap (λ us. Some (sequence us)) (items_of-list ts) in (
      r.0,
      r.1,
      (
        λ c dashed h. r.2.0 c dashed h ∙ ap (closed c dashed (keys i done key ∷ frames)) same,
        r.2.1
            ∙ ap (ended (keys i done key ∷ frames)) same,
      ),
    )

first_of : (i : ℕ) (frames : List Frame) (ms : Members) → Begins i false frames → length frames < 32 →
    Starts i frames [] (at frames None) ms
first_of i frames no_members b room = tt
first_of i frames (member key t ms) b room = first_key i key frames b room

mapping_run : (ms : Members) → KeysRun ms → Runs (mapping ms)
mapping_run ms go levels i frames symbols b bt (inr lone) room =
    lone_ran (mapping ms) levels i frames symbols b.may lone room
mapping_run ms go levels i frames symbols b bt (inl (differ, (some, (below, le, ks)))) room =
    let deep : length frames + suc below ≤ 32 = omega (arith, le, room) in
    let r = go below i frames [] (at frames None) symbols some ks differ (first_of i frames ms b (omega arith)) deep in
    let same = ap (λ us. Some (mapping us)) (members_of-list ms) in
    (r.0, r.1, (λ c dashed h. r.2.0 c dashed h ∙ ap (closed c dashed frames) same, r.2.1 ∙ ap (ended frames) same))

dashes_step : (t : Tree) → Runs t → (ts : Items) → DashesRun ts → DashesRun (item t ts)
dashes_step t run ts go levels i frames done s symbols some (below, rest, e, b, others) first room =
    let inside : length (dashes i done ∷ frames) + levels ≤ 32 = omega arith in
    let r = below_run t run levels i (dashes i done ∷ frames) below (λ j dashed lt.
    begins_in_dashes i j dashed done frames lt) b inside in
    dashes_more ts go t levels i frames done s r.2.0 r.0 below rest symbols e first r.1 r.2.1 r.2.2 others room

keys_step : (key : List ℕ) (t : Tree) → Runs t → RunsDashesOf t → (ms : Members) → KeysRun ms →
    KeysRun (member key t ms)
keys_step key t run run_dashes ms go levels i frames done s symbols some (
  below,
  rest,
  e,
  inl b,
  others,
) new first room =
    let inside : length (keys i done key ∷ frames) + levels ≤ 32 = omega arith in
    let r = below_run t run levels i (keys i done key ∷ frames) below (λ j dashed lt.
    begins_in_keys i j dashed done key frames lt) b inside in
    keys_more ms go key t levels i frames done s r.2.0 r.0 below rest symbols e first r.1 r.2.1 (
      λ c dashed h.
          r.2.2.0 c dashed (at_most i c dashed h),
      r.2.2.1,
    ) others new.1 room
keys_step key t run run_dashes ms go levels i frames done s symbols some (
  below,
  rest,
  e,
  inr d,
  others,
) new first room =
    let inside : length (keys i done key ∷ frames) + levels ≤ 32 = omega arith in
    let r = run_dashes levels i frames done key below d inside in
    keys_more ms go key t levels i frames done s r.0 (Some t) below rest symbols e first refl r.1 r.2 others new.1 room

mutual
  pub block_run : (t : Tree) → Runs t
  block_run null = λ levels i frames symbols b bt block room. lone_ran null levels i frames symbols b.may block room
  block_run (flag f) =
      λ levels i frames symbols b bt block room. lone_ran (flag f) levels i frames symbols b.may block room
  block_run (number n) =
      λ levels i frames symbols b bt block room. lone_ran (number n) levels i frames symbols b.may block room
  block_run (text bs) =
      λ levels i frames symbols b bt block room. lone_ran (text bs) levels i frames symbols b.may block room
  block_run other = λ levels i frames symbols b bt block room. lone_ran other levels i frames symbols b.may block room
  block_run (sequence ts) = sequence_run ts (dashes_run ts)
  block_run (mapping ms) = mapping_run ms (keys_run ms)

  dashes_run : (ts : Items) → DashesRun ts
  dashes_run no_items = λ levels i frames done s symbols some e first room. absurd (omega (arith, ap length e))
  dashes_run (item t ts) = dashes_step t (block_run t) ts (dashes_run ts)

  keys_run : (ms : Members) → KeysRun ms
  keys_run no_members = λ levels i frames done s symbols some e new first room. absurd (omega (arith, ap length e))
  keys_run (member key t ms) = keys_step key t (block_run t) (dashes_of_run t) ms (keys_run ms)

  dashes_of_run : (t : Tree) → RunsDashesOf t
  dashes_of_run (sequence ts) = dashes_of ts (dashes_run ts)
  dashes_of_run null = λ levels i frames done key symbols d room. absurd d
  dashes_of_run (flag f) = λ levels i frames done key symbols d room. absurd d
  dashes_of_run (number n) = λ levels i frames done key symbols d room. absurd d
  dashes_of_run (text bs) = λ levels i frames done key symbols d room. absurd d
  dashes_of_run (mapping ms) = λ levels i frames done key symbols d room. absurd d
  dashes_of_run other = λ levels i frames done key symbols d room. absurd d

-- what says a tree is read to its end
pub says_run : (t : Tree) (symbols : List Symbol) → Says t symbols → (x : State)
    × (symbols_step start symbols ≡ Some x) × (ended x.frames x.slot ≡ Some t)
says_run t symbols (inl (e, n)) = (start, ap (symbols_step start) e, ap Some (sym n))
says_run t symbols (inr block) =
    let r = block_run t 32 0 [] symbols (begins_first false) (begins_first true) block (omega arith) in
    (r.0, r.1, r.2.1)
