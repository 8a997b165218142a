-- What is read is a block.
use Rattle.std.proofs.Common.{◌≡◌, ◌⊎◌, inl, inr, ℕ, suc, ◌-◌, ◌<◌, ◌≤◌, Bool, true, false, cond, ◌==◌, ◌&&◌, ◌||◌, List, [], ◌∷◌, ◌++◌, length, map, Option, Some, None, refl, sym, ap, subst, ◌∙◌, append_assoc, arith}
use Rattle.std.specs.Prelude.{nat_lt}
use Rattle.std.proofs.lemmas.Bool.Decides.{nat_tests}
use Rattle.std.proofs.lemmas.List.{append-nil}
use Rattle.std.proofs.lemmas.Bool.{and_parts}
use Rattle.zr_names.specs.Tree.{Tree, mapping, sequence, Items, Members, items_of, members_of}
use Rattle.zr_yaml.specs.declared.symbols.Piece.{Piece}
use Rattle.zr_yaml.specs.declared.symbols.Symbol.{Symbol}
use Rattle.zr_yaml.specs.declared.symbols.Symbol.TheVariants.{Dash, Key, Value, More}
use Rattle.zr_yaml.specs.Document.{Below, Block, Dashes, DashesOf, Flow, Keys, KeysDiffer, PairList, has_pair}
use Rattle.zr_yaml.specs.Reading.{Frame, dashes, keys, items, pairs, named, valued, State, begun, closed, dash_step, ends_before, frame_tree, has_room, key_step, may_begin, next_dash, next_key, opened, tree_or_null}
use Rattle.zr_yaml.proofs.Holding.{Fills, Holds, Opener, Under, block_lone, inside, more_dashes, more_keys, more_new}
use Rattle.zr_yaml.proofs.Running.{at, room_true}

-- ---- tests of columns

test_below : (i j : ℕ) → nat_lt i j ≡ true → i < j
test_below i j h = grind (arith, nat_tests)

test_same : (i j : ℕ) → (i == j) ≡ true → i ≡ j
test_same i j h = grind (arith, nat_tests)

either_test : (a b : Bool) → (a || b) ≡ true → (a ≡ true) ⊎ (b ≡ true)
either_test true b h = inl refl
either_test false b h = inr h

-- ---- where blocks may begin

levels_in : List Frame → ℕ
levels_in frames = 32 - length frames

-- a block that begins where it may, for symbols other than dashes
pub under_block : (frames : List Frame) (c : ℕ) (t : Tree) (symbols : List Symbol) → length frames ≤ 32 →
    may_begin c false frames ≡ true → Block (32 - length frames) t c symbols → Under frames t symbols
under_block [] c t symbols le may b = subst (λ (n : ℕ). Block 32 t n symbols) (test_same c 0 may) b
under_block (dashes i done ∷ frames) c t symbols le may b =
    (c, test_below i c may, subst (λ (l : ℕ). Block l t c symbols) (omega arith) b)
under_block (keys i done key ∷ frames) c t symbols le may b =
    elim (either_test (nat_lt i c) (c == i && false) may) [
      | inl h ↦ inl (c, test_below i c h, subst (λ (l : ℕ). Block l t c symbols) (omega arith) b)
      | inr h ↦ absurd (never (c == i) h)
    ]
  where
    never : (a : Bool) → (a && false) ≡ true → ⊥
    never true h = cc
    never false h = cc
under_block (items done ∷ frames) c t symbols le may b = absurd cc
under_block (valued done key ∷ frames) c t symbols le may b = absurd cc
under_block (pairs done ∷ frames) c t symbols le may b = absurd cc
under_block (named done key ∷ frames) c t symbols le may b = absurd cc

-- a block where maps and sequences may be one deeper
deeper : (n : ℕ) → n < 32 → 32 - n ≡ suc (31 - n)
deeper n h = omega arith

pub under_dashes : (frames : List Frame) (c : ℕ) (ts : Items) (symbols : List Symbol) → length frames < 32 →
    may_begin c true frames ≡ true → 0 < length symbols → Dashes (inside frames) ts c symbols →
    Under frames (sequence ts) symbols
under_dashes [] c ts symbols room may some ds =
    subst (λ (n : ℕ). Block 32 (sequence ts) n symbols) (test_same c 0 may) (inl (some, (31, refl, ds)))
under_dashes (dashes i done ∷ frames) c ts symbols room may some ds =
    (c, test_below i c may, inl (some, (inside (dashes i done ∷ frames), omega arith, ds)))
under_dashes (keys i done key ∷ frames) c ts symbols room may some ds =
    elim (either_test (nat_lt i c) (c == i && true) may) [
      | inl h ↦ inl (c, test_below i c h, inl (some, (inside (keys i done key ∷ frames), omega arith, ds)))
      | inr h ↦ inr
          (subst (λ (n : ℕ). DashesOf (inside frames) (sequence ts) n symbols)
          (test_same c i (both_true (c == i) h)) (some, (inside (keys i done key ∷ frames), omega arith, ds)))
    ]
  where
    both_true : (a : Bool) → (a && true) ≡ true → a ≡ true
    both_true true h = refl
    both_true false h = h
under_dashes (items done ∷ frames) c ts symbols room may some ds = absurd cc
under_dashes (valued done key ∷ frames) c ts symbols room may some ds = absurd cc
under_dashes (pairs done ∷ frames) c ts symbols room may some ds = absurd cc
under_dashes (named done key ∷ frames) c ts symbols room may some ds = absurd cc

pub under_keys : (frames : List Frame) (c : ℕ) (ms : Members) (symbols : List Symbol) → length frames < 32 →
    may_begin c false frames ≡ true → 0 < length symbols → KeysDiffer ms → Keys (inside frames) ms c symbols →
    Under frames (mapping ms) symbols
under_keys frames c ms symbols room may some differ ks =
    under_block frames c (mapping ms) symbols (omega arith) may (inl (
      differ,
      (some, (inside frames, deeper (length frames) room, ks)),
    ))

opened_lone : (frames : List Frame) (piece : Piece) (opener : Symbol) (t : Tree) (pieces : List Piece) →
    length frames < 32 → (c : ℕ) × (opener ≡ Value c piece) × (may_begin c false frames ≡ true) →
    Flow (32 - length frames) t (piece ∷ pieces) → Under frames t (opener ∷ map More pieces)
opened_lone frames piece opener t pieces room (c, e, may) f =
    under_block frames c t (opener ∷ map More pieces) (omega arith) may
    (block_lone t (32 - length frames) c (opener ∷ map More pieces) (
      piece,
      pieces,
      ap (λ s. s ∷ map More pieces) e,
      f,
    ))

-- what a bracket opened
pub under_opened : (frames : List Frame) (piece : Piece) (opener : Symbol) (t : Tree) (pieces : List Piece) →
    length frames < 32 → Opener frames piece opener → Flow (32 - length frames) t (piece ∷ pieces) →
    Under frames t (opener ∷ map More pieces)
under_opened [] piece opener t pieces room o f = opened_lone [] piece opener t pieces room o f
under_opened (dashes i done ∷ frames) piece opener t pieces room o f =
    opened_lone (dashes i done ∷ frames) piece opener t pieces room o f
under_opened (keys i done key ∷ frames) piece opener t pieces room o f =
    opened_lone (keys i done key ∷ frames) piece opener t pieces room o f
under_opened (items done ∷ frames) piece opener t pieces room o f =
    (piece ∷ pieces, ap (λ s. s ∷ map More pieces) o, subst (λ (l : ℕ). Flow l t (piece ∷ pieces)) (omega arith) f)
under_opened (valued done key ∷ frames) piece opener t pieces room o f =
    (piece ∷ pieces, ap (λ s. s ∷ map More pieces) o, subst (λ (l : ℕ). Flow l t (piece ∷ pieces)) (omega arith) f)
under_opened (pairs done ∷ frames) piece opener t pieces room o f =
    opened_lone (pairs done ∷ frames) piece opener t pieces room o f
under_opened (named done key ∷ frames) piece opener t pieces room o f =
    opened_lone (named done key ∷ frames) piece opener t pieces room o f

-- ---- a frame of a block is complete

regroup : (symbols before inner outer own parts : List Symbol) (x : Symbol) → symbols ≡ before ++ inner →
    before ≡ outer ++ own → own ≡ parts ++ x ∷ [] → symbols ≡ outer ++ (parts ++ x ∷ inner)
regroup symbols before inner outer own parts x e eb eo =
    e ∙ ap (λ b. b ++ inner) (eb ∙ ap (λ o. outer ++ o) eo) ∙ append_assoc outer (parts ++ x ∷ []) inner
    ∙ ap (λ r. outer ++ r) (append_assoc parts (x ∷ []) inner)

not_empty : (parts inner : List Symbol) (x : Symbol) → 0 < length (parts ++ x ∷ inner)
not_empty [] inner x = omega arith
not_empty (p ∷ parts) inner x = omega arith

below_dash : (i : ℕ) (done : List Tree) (frames : List Frame) (slot : Option Tree) (inner : List Symbol) →
    Fills (dashes i done ∷ frames) slot inner →
    Below (Block (inside frames) (tree_or_null slot)) (tree_or_null slot) i inner
below_dash i done frames None inner e = inl (e, refl)
below_dash i done frames (Some t) inner (j, lt, b) = inr (j, lt, b)

below_key : (i : ℕ) (done : PairList) (key : List ℕ) (frames : List Frame) (slot : Option Tree)
    (inner : List Symbol) → Fills (keys i done key ∷ frames) slot inner
    → Below (Block (inside frames) (tree_or_null slot)) (tree_or_null slot) i inner
    ⊎ DashesOf (inside frames) (tree_or_null slot) i inner
below_key i done key frames None inner e = inl (inl (e, refl))
below_key i done key frames (Some t) inner (inl (j, lt, b)) = inl (inr (j, lt, b))
below_key i done key frames (Some t) inner (inr d) = inr d

pub close_dashes : (i : ℕ) (done : List Tree) (frames : List Frame) (slot : Option Tree) (symbols : List Symbol) →
    Holds (dashes i done ∷ frames) slot symbols → Holds frames (Some (frame_tree (dashes i done) slot)) symbols
close_dashes i done frames slot symbols (
  before,
  inner,
  e,
  (outer, own, eb, opened, room, (parts, eo, may, ds)),
  fills,
) = (
  outer,
  parts ++ Dash i ∷ inner,
  regroup symbols before inner outer own parts (Dash i) e eb eo,
  opened,
  under_dashes frames i (items_of (done ++ tree_or_null slot ∷ [])) (parts ++ Dash i ∷ inner) room may
      (not_empty parts inner (Dash i))
      (more_dashes (inside frames) i done (tree_or_null slot) parts inner ds
      (below_dash i done frames slot inner fills)),
)

pub close_keys : (i : ℕ) (done : PairList) (key : List ℕ) (frames : List Frame) (slot : Option Tree)
    (symbols : List Symbol) → Holds (keys i done key ∷ frames) slot symbols →
    Holds frames (Some (frame_tree (keys i done key) slot)) symbols
close_keys i done key frames slot symbols (
  before,
  inner,
  e,
  (outer, own, eb, opened, room, (parts, eo, may, ks, differ, fresh)),
  fills,
) = (
  outer,
  parts ++ Key i key ∷ inner,
  regroup symbols before inner outer own parts (Key i key) e eb eo,
  opened,
  under_keys frames i (members_of (done ++ (key, tree_or_null slot) ∷ [])) (parts ++ Key i key ∷ inner) room may
      (not_empty parts inner (Key i key)) (more_new [] done key (tree_or_null slot) differ fresh)
      (more_keys (inside frames) i done key (tree_or_null slot) parts inner ks
      (below_key i done key frames slot inner fills)),
)

HoldsAt : State → List Symbol → Type 0
HoldsAt s symbols = Holds s.frames s.slot symbols

pick : (b : Bool) (x y : State) (symbols : List Symbol) → Holds x.frames x.slot symbols →
    Holds y.frames y.slot symbols → Holds (cond b x y).frames (cond b x y).slot symbols
pick true x y symbols h k = h
pick false x y symbols h k = k

pub closed_holds : (c : ℕ) (dashed : Bool) (frames : List Frame) (slot : Option Tree) (symbols : List Symbol) →
    Holds frames slot symbols →
    Holds (closed c dashed frames slot).frames (closed c dashed frames slot).slot symbols
closed_holds c dashed [] slot symbols h = h
closed_holds c dashed (dashes i done ∷ frames) slot symbols h =
    pick (ends_before c dashed (dashes i done)) (closed c dashed frames (Some (frame_tree (dashes i done) slot)))
    (at (dashes i done ∷ frames) slot) symbols
    (closed_holds c dashed frames (Some (frame_tree (dashes i done) slot)) symbols
    (close_dashes i done frames slot symbols h)) h
closed_holds c dashed (keys i done key ∷ frames) slot symbols h =
    pick (ends_before c dashed (keys i done key))
    (closed c dashed frames (Some (frame_tree (keys i done key) slot))) (at (keys i done key ∷ frames) slot)
    symbols
    (closed_holds c dashed frames (Some (frame_tree (keys i done key) slot)) symbols
    (close_keys i done key frames slot symbols h)) h
closed_holds c dashed (items done ∷ frames) slot symbols h = h
closed_holds c dashed (valued done key ∷ frames) slot symbols h = h
closed_holds c dashed (pairs done ∷ frames) slot symbols h = h
closed_holds c dashed (named done key ∷ frames) slot symbols h = h

-- ---- dashes and keys

pub guard : {X : Type 0} (b : Bool) (x s : X) → cond b (Some x) None ≡ Some s → (b ≡ true) × (x ≡ s)
guard true x s e = (refl, cc)
guard false x s e = absurd cc

alone : (symbols before inner : List Symbol) (x : Symbol) → symbols ≡ before ++ inner → inner ≡ [] →
    symbols ++ x ∷ [] ≡ before ++ x ∷ []
alone symbols before inner x e n = ap (λ s. s ++ x ∷ []) (e ∙ ap (λ r. before ++ r) n ∙ append-nil before)

begun_dash : (c : ℕ) (frames : List Frame) (slot : Option Tree) (symbols : List Symbol) (s : State) →
    Holds frames slot symbols → begun (dashes c []) (may_begin c true frames) frames slot ≡ Some s →
    Holds s.frames s.slot (symbols ++ Dash c ∷ [])
begun_dash c frames (Some t) symbols s h e = absurd cc
begun_dash c frames None symbols s (before, inner, same, opened, n) e =
    let g = guard (may_begin c true frames && has_room frames) (at (dashes c [] ∷ frames) None) s e in
    let p : (may_begin c true frames ≡ true)
    × (has_room frames ≡ true) = and_parts (may_begin c true frames) (has_room frames) g.0 in
    let P : State → Type 0 = λ x. Holds x.frames x.slot (symbols ++ Dash c ∷ []) in
    subst P g.1 (
      symbols ++ Dash c ∷ [],
      [],
      sym (append-nil (symbols ++ Dash c ∷ [])),
      (
        before,
        Dash c ∷ [],
        alone symbols before inner (Dash c) same n,
        opened,
        room_true frames p.1,
        ([], refl, p.0, refl),
      ),
      refl,
    )

begun_key : (c : ℕ) (key : List ℕ) (frames : List Frame) (slot : Option Tree) (symbols : List Symbol) (s : State) →
    Holds frames slot symbols → begun (keys c [] key) (may_begin c false frames) frames slot ≡ Some s →
    Holds s.frames s.slot (symbols ++ Key c key ∷ [])
begun_key c key frames (Some t) symbols s h e = absurd cc
begun_key c key frames None symbols s (before, inner, same, opened, n) e =
    let g = guard (may_begin c false frames && has_room frames) (at (keys c [] key ∷ frames) None) s e in
    let p : (may_begin c false frames ≡ true)
    × (has_room frames ≡ true) = and_parts (may_begin c false frames) (has_room frames) g.0 in
    let P : State → Type 0 = λ x. Holds x.frames x.slot (symbols ++ Key c key ∷ []) in
    subst P g.1 (
      symbols ++ Key c key ∷ [],
      [],
      sym (append-nil (symbols ++ Key c key ∷ [])),
      (
        before,
        Key c key ∷ [],
        alone symbols before inner (Key c key) same n,
        opened,
        room_true frames p.1,
        ([], refl, p.0, refl, tt, refl),
      ),
      refl,
    )

goes_on_dash : (i : ℕ) (done : List Tree) (frames : List Frame) (slot : Option Tree) (symbols : List Symbol) →
    Holds (dashes i done ∷ frames) slot symbols →
    Holds (dashes i (done ++ tree_or_null slot ∷ []) ∷ frames) None (symbols ++ Dash i ∷ [])
goes_on_dash i done frames slot symbols (
  before,
  inner,
  e,
  (outer, own, eb, opened, room, (parts, eo, may, ds)),
  fills,
) = (
  symbols ++ Dash i ∷ [],
  [],
  sym (append-nil (symbols ++ Dash i ∷ [])),
  (
    outer,
    (parts ++ Dash i ∷ inner) ++ Dash i ∷ [],
    ap (λ s. s ++ Dash i ∷ []) (regroup symbols before inner outer own parts (Dash i) e eb eo)
        ∙ append_assoc outer (parts ++ Dash i ∷ inner) (Dash i ∷ []),
    opened,
    room,
    (
      parts ++ Dash i ∷ inner,
      refl,
      may,
      more_dashes (inside frames) i done (tree_or_null slot) parts inner ds
          (below_dash i done frames slot inner fills),
    ),
  ),
  refl,
)

goes_on_key : (i : ℕ) (done : PairList) (last key : List ℕ) (frames : List Frame) (slot : Option Tree)
    (symbols : List Symbol) → has_pair key (done ++ (last, tree_or_null slot) ∷ []) ≡ false →
    Holds (keys i done last ∷ frames) slot symbols
    → Holds (keys i (done ++ (last, tree_or_null slot) ∷ []) key ∷ frames) None (symbols ++ Key i key ∷ [])
goes_on_key i done last key frames slot symbols new (
  before,
  inner,
  e,
  (outer, own, eb, opened, room, (parts, eo, may, ks, differ, fresh)),
  fills,
) = (
  symbols ++ Key i key ∷ [],
  [],
  sym (append-nil (symbols ++ Key i key ∷ [])),
  (
    outer,
    (parts ++ Key i last ∷ inner) ++ Key i key ∷ [],
    ap (λ s. s ++ Key i key ∷ []) (regroup symbols before inner outer own parts (Key i last) e eb eo)
        ∙ append_assoc outer (parts ++ Key i last ∷ inner) (Key i key ∷ []),
    opened,
    room,
    (
      parts ++ Key i last ∷ inner,
      refl,
      may,
      more_keys (inside frames) i done last (tree_or_null slot) parts inner ks
          (below_key i done last frames slot inner fills),
      more_new [] done last (tree_or_null slot) differ fresh,
      new,
    ),
  ),
  refl,
)

dash_cases : (b : Bool) (c i : ℕ) (done : List Tree) (frames : List Frame) (slot : Option Tree)
    (symbols : List Symbol) (s : State) → (c == i) ≡ b → Holds (dashes i done ∷ frames) slot symbols
    → cond b (next_dash (dashes i done ∷ frames) slot)
    (begun (dashes c []) (may_begin c true (dashes i done ∷ frames)) (dashes i done ∷ frames) slot) ≡ Some s →
    Holds s.frames s.slot (symbols ++ Dash c ∷ [])
dash_cases true c i done frames slot symbols s test h e =
    let same : at (dashes i (done ++ tree_or_null slot ∷ []) ∷ frames) None ≡ s = cc in
    let P : State → Type 0 = λ x. Holds x.frames x.slot (symbols ++ Dash c ∷ []) in
    subst P same (subst
    (λ (n : ℕ). Holds (dashes i (done ++ tree_or_null slot ∷ []) ∷ frames) None (symbols ++ Dash n ∷ []))
    (sym (test_same c i test)) (goes_on_dash i done frames slot symbols h))
dash_cases false c i done frames slot symbols s test h e = begun_dash c (dashes i done ∷ frames) slot symbols s h e

pub dash_holds : (c : ℕ) (frames : List Frame) (slot : Option Tree) (symbols : List Symbol) (s : State) →
    Holds frames slot symbols → dash_step c frames slot ≡ Some s → Holds s.frames s.slot (symbols ++ Dash c ∷ [])
dash_holds c [] slot symbols s h e = begun_dash c [] slot symbols s h e
dash_holds c (dashes i done ∷ frames) slot symbols s h e = dash_cases (c == i) c i done frames slot symbols s refl h e
dash_holds c (keys i done key ∷ frames) slot symbols s h e = begun_dash c (keys i done key ∷ frames) slot symbols s h e
dash_holds c (items done ∷ frames) slot symbols s h e = begun_dash c (items done ∷ frames) slot symbols s h e
dash_holds c (valued done key ∷ frames) slot symbols s h e = begun_dash c (valued done key ∷ frames) slot symbols s h e
dash_holds c (pairs done ∷ frames) slot symbols s h e = begun_dash c (pairs done ∷ frames) slot symbols s h e
dash_holds c (named done key ∷ frames) slot symbols s h e = begun_dash c (named done key ∷ frames) slot symbols s h e

pub guard_not : {X : Type 0} (b : Bool) (x s : X) → cond b None (Some x) ≡ Some s → (b ≡ false) × (x ≡ s)
guard_not true x s e = absurd cc
guard_not false x s e = (refl, cc)

key_cases : (b : Bool) (c i : ℕ) (key : List ℕ) (done : PairList) (last : List ℕ) (frames : List Frame)
    (slot : Option Tree) (symbols : List Symbol) (s : State) → (c == i) ≡ b →
    Holds (keys i done last ∷ frames) slot symbols
    → cond b (next_key key (keys i done last ∷ frames) slot)
    (begun (keys c [] key) (may_begin c false (keys i done last ∷ frames)) (keys i done last ∷ frames) slot)
    ≡ Some s → Holds s.frames s.slot (symbols ++ Key c key ∷ [])
key_cases true c i key done last frames slot symbols s test h e =
    let g = guard_not (has_pair key (done ++ (last, tree_or_null slot) ∷ []))
    (at (keys i (done ++ (last, tree_or_null slot) ∷ []) key ∷ frames) None) s e in
    let P : State → Type 0 = λ x. Holds x.frames x.slot (symbols ++ Key c key ∷ []) in
    subst P g.1 (subst
    (λ (n : ℕ). Holds (keys i (done ++ (last, tree_or_null slot) ∷ []) key ∷ frames) None
    (symbols ++ Key n key ∷ [])) (sym (test_same c i test))
    (goes_on_key i done last key frames slot symbols g.0 h))
key_cases false c i key done last frames slot symbols s test h e =
    begun_key c key (keys i done last ∷ frames) slot symbols s h e

pub key_holds : (c : ℕ) (key : List ℕ) (frames : List Frame) (slot : Option Tree) (symbols : List Symbol)
    (s : State) → Holds frames slot symbols → key_step c key frames slot ≡ Some s →
    Holds s.frames s.slot (symbols ++ Key c key ∷ [])
key_holds c key [] slot symbols s h e = begun_key c key [] slot symbols s h e
key_holds c key (dashes i done ∷ frames) slot symbols s h e =
    begun_key c key (dashes i done ∷ frames) slot symbols s h e
key_holds c key (keys i done last ∷ frames) slot symbols s h e =
    key_cases (c == i) c i key done last frames slot symbols s refl h e
key_holds c key (items done ∷ frames) slot symbols s h e = begun_key c key (items done ∷ frames) slot symbols s h e
key_holds c key (valued done last ∷ frames) slot symbols s h e =
    begun_key c key (valued done last ∷ frames) slot symbols s h e
key_holds c key (pairs done ∷ frames) slot symbols s h e = begun_key c key (pairs done ∷ frames) slot symbols s h e
key_holds c key (named done last ∷ frames) slot symbols s h e =
    begun_key c key (named done last ∷ frames) slot symbols s h e
