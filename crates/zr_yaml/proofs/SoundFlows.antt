-- What is read in brackets is a value, and all that is read is a block.
use Rattle.std.proofs.Common.{◌≡◌, inl, inr, ℕ, suc, ◌-◌, ◌<◌, ◌≤◌, Bool, true, false, cond, List, [], ◌∷◌, ◌++◌, length, map, Option, Some, None, refl, sym, ap, subst, ◌∙◌, append_assoc, arith}
use Rattle.std.proofs.lemmas.List.{append-nil, map-append}
use Rattle.zr_names.specs.Tree.{Tree, mapping, sequence, items_of, members_of}
use Rattle.zr_yaml.specs.declared.scalar.Scalar.{Scalar}
use Rattle.zr_yaml.specs.declared.symbols.Bracket.{Bracket}
use Rattle.zr_yaml.specs.declared.symbols.Bracket.TheVariants.{Curly, Square}
use Rattle.zr_yaml.specs.declared.symbols.Piece.{Piece}
use Rattle.zr_yaml.specs.declared.symbols.Piece.TheVariants.{One, Open, Close, Comma, Colon}
use Rattle.zr_yaml.specs.declared.symbols.Symbol.{Symbol}
use Rattle.zr_yaml.specs.declared.symbols.Symbol.TheVariants.{Dash, Key, Value, More}
use Rattle.zr_yaml.specs.Document.{Block, Flow, FlowItems, FlowMembers, KeysDiffer, PairList, Says, has_pair}
use Rattle.zr_yaml.specs.Reading.{Frame, dashes, keys, items, pairs, named, valued, State, stay, closed, ended, frame_tree, has_room, lone_step, may_begin, more_step, opened, start, stepped, symbol_step, symbols_step, then_symbols, tree_or_null, value_step}
use Rattle.zr_yaml.specs.Scalar.{scalar_tree}
use Rattle.zr_yaml.proofs.Holding.{DoneMembers, Holds, Opened, Opener, Own, Under, all_items, all_members, block_lone, flow_one, inside, last_item, last_member, more_items, more_members, more_new}
use Rattle.zr_yaml.proofs.Running.{at, room_true}
use Rattle.zr_yaml.proofs.Sound.{close_dashes, close_keys, closed_holds, dash_holds, guard, key_holds, under_block, under_opened}

-- ---- levels

room_inside : (frames : List Frame) → length frames < 32 → 32 - length frames ≡ suc (inside frames)
room_inside frames h = omega arith

-- ---- the shapes of the symbols

after : (symbols before inner : List Symbol) (x : Symbol) → symbols ≡ before ++ inner →
    symbols ++ x ∷ [] ≡ before ++ (inner ++ x ∷ [])
after symbols before inner x e = ap (λ s. s ++ x ∷ []) e ∙ append_assoc before inner (x ∷ [])

mapped : (pieces : List Piece) (p : Piece) → map More pieces ++ More p ∷ [] ≡ map More (pieces ++ p ∷ [])
mapped pieces p = sym (map-append More pieces (p ∷ []))

-- the symbols of a frame in brackets, with those of its slot and one more
within : (symbols before inner outer own : List Symbol) (opener : Symbol) (pieces value : List Piece) (p : Piece) →
    symbols ≡ before ++ inner → before ≡ outer ++ own → own ≡ opener ∷ map More pieces → inner ≡ map More value
    → symbols ++ More p ∷ [] ≡ outer ++ (opener ∷ map More (pieces ++ (value ++ p ∷ [])))
within symbols before inner outer own opener pieces value p e eb eo ei =
    ap (λ s. s ++ More p ∷ []) (e ∙ ap (λ b. b ++ inner) (eb ∙ ap (λ o. outer ++ o) eo)
    ∙ ap (λ r. (outer ++ (opener ∷ map More pieces)) ++ r) ei)
    ∙ append_assoc (outer ++ (opener ∷ map More pieces)) (map More value) (More p ∷ [])
    ∙ ap (λ r. (outer ++ (opener ∷ map More pieces)) ++ r) (mapped value p)
    ∙ append_assoc outer (opener ∷ map More pieces) (map More (value ++ p ∷ []))
    ∙ ap (λ r. outer ++ (opener ∷ r)) (sym (map-append More pieces (value ++ p ∷ [])))

-- ---- a value alone

lone_holds : (may : Bool) (c : ℕ) (piece : Piece) (frames : List Frame) (slot : Option Tree) (symbols : List Symbol)
    (s : State) → may_begin c false frames ≡ may → Holds frames slot symbols → length frames ≤ 32 →
    lone_step may piece frames slot ≡ Some s
    → Holds s.frames s.slot (symbols ++ Value c piece ∷ [])
lone_holds may c piece frames (Some t) symbols s m h le e = absurd cc
lone_holds false c piece frames None symbols s m h le e = absurd cc
lone_holds true c (One one) frames None symbols s m (before, inner, same, op, n) le e =
    let there : at frames (Some (scalar_tree one)) ≡ s = cc in
    let P : State → Type 0 = λ x. Holds x.frames x.slot (symbols ++ Value c (One one) ∷ []) in
    subst P there (
      before,
      inner ++ Value c (One one) ∷ [],
      after symbols before inner (Value c (One one)) same,
      op,
      subst (λ (r : List Symbol). Under frames (scalar_tree one) (r ++ Value c (One one) ∷ [])) (sym n)
          (under_block frames c (scalar_tree one) (Value c (One one) ∷ []) le m
          (block_lone (scalar_tree one) (32 - length frames) c (Value c (One one) ∷ []) (
            One one,
            [],
            refl,
            flow_one (32 - length frames) one,
          ))),
    )
lone_holds true c (Open kind) frames None symbols s m (before, inner, same, op, n) le e =
    let g = guard (has_room frames) (at (opened kind ∷ frames) None) s e in
    let P : State → Type 0 = λ x. Holds x.frames x.slot (symbols ++ Value c (Open kind) ∷ []) in
    subst P g.1 (
      symbols ++ Value c (Open kind) ∷ [],
      [],
      sym (append-nil (symbols ++ Value c (Open kind) ∷ [])),
      (
        before,
        Value c (Open kind) ∷ [],
        ap (λ s'. s' ++ Value c (Open kind) ∷ []) (same ∙ ap (λ r. before ++ r) n ∙ append-nil before),
        op,
        room_true frames g.0,
        opens kind c frames m,
      ),
      refl,
    )
  where
    lone_opener : (frames : List Frame) (c : ℕ) (p : Piece) → may_begin c false frames ≡ true →
        Opener frames p (Value c p)
    lone_opener [] c p m = (c, refl, m)
    lone_opener (dashes i done ∷ frames) c p m = (c, refl, m)
    lone_opener (keys i done key ∷ frames) c p m = (c, refl, m)
    lone_opener (items done ∷ frames) c p m = absurd cc
    lone_opener (valued done key ∷ frames) c p m = absurd cc
    lone_opener (pairs done ∷ frames) c p m = absurd cc
    lone_opener (named done key ∷ frames) c p m = absurd cc

    opens : (kind : Bracket) (c : ℕ) (frames : List Frame) → may_begin c false frames ≡ true →
        Own frames (opened kind) (Value c (Open kind) ∷ [])
    opens Square c frames m = (Value c (Open Square), [], refl, lone_opener frames c (Open Square) m, refl)
    opens Curly c frames m = (Value c (Open Curly), [], refl, lone_opener frames c (Open Curly) m, refl, tt)
lone_holds true c (Close kind) frames None symbols s m h le e = absurd cc
lone_holds true c Comma frames None symbols s m h le e = absurd cc
lone_holds true c Colon frames None symbols s m h le e = absurd cc

-- ---- in brackets

-- a bracket that opens inside of another
opens_more : (kind : Bracket) (frames : List Frame) → Opener frames (Open kind) (More (Open kind)) →
    Own frames (opened kind) (More (Open kind) ∷ [])
opens_more Square frames o = (More (Open Square), [], refl, o, refl)
opens_more Curly frames o = (More (Open Curly), [], refl, o, refl, tt)

-- a value is to come
abbrev Takes : Frame → Type 0
Takes frame = (frames : List Frame) (t : Tree) (pieces : List Piece) → Flow (inside frames) t pieces →
    Under (frame ∷ frames) t (map More pieces)

value_holds : (frame : Frame) (frames : List Frame) (piece : Piece) (symbols : List Symbol) (s : State) →
    Takes frame → ((kind : Bracket) → Opener (frame ∷ frames) (Open kind) (More (Open kind)))
    → Holds (frame ∷ frames) None symbols → stepped frames (value_step frame piece) ≡ Some s →
    Holds s.frames s.slot (symbols ++ More piece ∷ [])
value_holds frame frames (One one) symbols s takes opener (before, inner, same, op, n) e =
    let there : at (frame ∷ frames) (Some (scalar_tree one)) ≡ s = cc in
    let P : State → Type 0 = λ x. Holds x.frames x.slot (symbols ++ More (One one) ∷ []) in
    subst P there (
      before,
      inner ++ More (One one) ∷ [],
      after symbols before inner (More (One one)) same,
      op,
      subst (λ (r : List Symbol). Under (frame ∷ frames) (scalar_tree one) (r ++ More (One one) ∷ [])) (sym n)
          (takes frames (scalar_tree one) (One one ∷ []) (flow_one (inside frames) one)),
    )
value_holds frame frames (Open kind) symbols s takes opener (before, inner, same, op, n) e =
    let g = guard (has_room (frame ∷ frames)) (at (opened kind ∷ frame ∷ frames) None) s e in
    let P : State → Type 0 = λ x. Holds x.frames x.slot (symbols ++ More (Open kind) ∷ []) in
    subst P g.1 (
      symbols ++ More (Open kind) ∷ [],
      [],
      sym (append-nil (symbols ++ More (Open kind) ∷ [])),
      (
        before,
        More (Open kind) ∷ [],
        ap (λ s'. s' ++ More (Open kind) ∷ []) (same ∙ ap (λ r. before ++ r) n ∙ append-nil before),
        op,
        room_true (frame ∷ frames) g.0,
        opens_more kind (frame ∷ frames) (opener kind),
      ),
      refl,
    )
value_holds frame frames (Close kind) symbols s takes opener h e = absurd cc
value_holds frame frames Comma symbols s takes opener h e = absurd cc
value_holds frame frames Colon symbols s takes opener h e = absurd cc

-- a sequence ends
ends_items : (frames : List Frame) (opener : Symbol) (done : List Tree) (pieces : List Piece) → length frames < 32 →
    Opener frames (Open Square) opener → FlowItems (inside frames) (items_of done) pieces
    → Under frames (sequence (items_of done)) (opener ∷ map More (pieces ++ Close Square ∷ []))
ends_items frames opener done pieces room o f =
    under_opened frames (Open Square) opener (sequence (items_of done)) (pieces ++ Close Square ∷ []) room o
    (inside frames, room_inside frames room, (pieces, refl, f))

ends_members : (frames : List Frame) (opener : Symbol) (done : PairList) (pieces : List Piece) →
    length frames < 32 → Opener frames (Open Curly) opener → KeysDiffer (members_of done) →
    FlowMembers (inside frames) (members_of done) pieces
    → Under frames (mapping (members_of done)) (opener ∷ map More (pieces ++ Close Curly ∷ []))
ends_members frames opener done pieces room o differ f =
    under_opened frames (Open Curly) opener (mapping (members_of done)) (pieces ++ Close Curly ∷ []) room o (
      differ,
      (inside frames, room_inside frames room, (pieces, refl, f)),
    )

-- a frame in brackets with nothing in its slot, and one piece more
ends_empty : (symbols before inner outer own : List Symbol) (opener : Symbol) (pieces : List Piece) (p : Piece) →
    symbols ≡ before ++ inner → before ≡ outer ++ own → own ≡ opener ∷ map More pieces → inner ≡ []
    → symbols ++ More p ∷ [] ≡ outer ++ (opener ∷ map More (pieces ++ p ∷ []))
ends_empty symbols before inner outer own opener pieces p e eb eo n =
    within symbols before inner outer own opener pieces [] p e eb eo n

items_holds : (done : List Tree) (frames : List Frame) (slot : Option Tree) (piece : Piece) (symbols : List Symbol)
    (s : State) → Holds (items done ∷ frames) slot symbols → more_step (items done ∷ frames) slot piece ≡ Some s
    → Holds s.frames s.slot (symbols ++ More piece ∷ [])
items_holds done frames None (One one) symbols s h e =
    value_holds (items done) frames (One one) symbols s (λ fs t ps f. (ps, refl, f)) (λ kind. refl) h e
items_holds done frames None (Open kind) symbols s h e =
    value_holds (items done) frames (Open kind) symbols s (λ fs t ps f. (ps, refl, f)) (λ kind'. refl) h e
items_holds done frames None (Close Square) symbols s (
  before,
  inner,
  same,
  (outer, own, eb, op, room, (opener, pieces, eo, o, ds)),
  n,
) e =
    let there : at frames (Some (sequence (items_of done))) ≡ s = cc in
    let P : State → Type 0 = λ x. Holds x.frames x.slot (symbols ++ More (Close Square) ∷ []) in
    subst P there (
      outer,
      opener ∷ map More (pieces ++ Close Square ∷ []),
      ends_empty symbols before inner outer own opener pieces (Close Square) same eb eo n,
      op,
      ends_items frames opener done pieces room o (all_items (inside frames) done pieces ds),
    )
items_holds done frames None (Close Curly) symbols s h e = absurd cc
items_holds done frames None Comma symbols s h e = absurd cc
items_holds done frames None Colon symbols s h e = absurd cc
items_holds done frames (Some t) Comma symbols s (
  before,
  inner,
  same,
  (outer, own, eb, op, room, (opener, pieces, eo, o, ds)),
  (value, ei, f),
) e =
    let there : at (items (done ++ t ∷ []) ∷ frames) None ≡ s = cc in
    let P : State → Type 0 = λ x. Holds x.frames x.slot (symbols ++ More Comma ∷ []) in
    subst P there (
      symbols ++ More Comma ∷ [],
      [],
      sym (append-nil (symbols ++ More Comma ∷ [])),
      (
        outer,
        opener ∷ map More (pieces ++ (value ++ Comma ∷ [])),
        within symbols before inner outer own opener pieces value Comma same eb eo ei,
        op,
        room,
        (opener, pieces ++ (value ++ Comma ∷ []), refl, o, more_items (inside frames) done t pieces value ds f),
      ),
      refl,
    )
items_holds done frames (Some t) (Close Square) symbols s (
  before,
  inner,
  same,
  (outer, own, eb, op, room, (opener, pieces, eo, o, ds)),
  (value, ei, f),
) e =
    let there : at frames (Some (sequence (items_of (done ++ t ∷ [])))) ≡ s = cc in
    let P : State → Type 0 = λ x. Holds x.frames x.slot (symbols ++ More (Close Square) ∷ []) in
    subst P there (
      outer,
      opener ∷ map More ((pieces ++ value) ++ Close Square ∷ []),
      within symbols before inner outer own opener pieces value (Close Square) same eb eo ei
          ∙ ap (λ ps. outer ++ (opener ∷ map More ps)) (sym (append_assoc pieces value (Close Square ∷ []))),
      op,
      ends_items frames opener (done ++ t ∷ []) (pieces ++ value) room o
          (last_item (inside frames) done t pieces value ds f),
    )
items_holds done frames (Some t) (Close Curly) symbols s h e = absurd cc
items_holds done frames (Some t) (One one) symbols s h e = absurd cc
items_holds done frames (Some t) (Open kind) symbols s h e = absurd cc
items_holds done frames (Some t) Colon symbols s h e = absurd cc

pairs_holds : (done : PairList) (frames : List Frame) (slot : Option Tree) (piece : Piece) (symbols : List Symbol)
    (s : State) → Holds (pairs done ∷ frames) slot symbols → more_step (pairs done ∷ frames) slot piece ≡ Some s
    → Holds s.frames s.slot (symbols ++ More piece ∷ [])
pairs_holds done frames (Some t) piece symbols s (before, inner, same, op, never) e = absurd never
pairs_holds done frames None (One one) symbols s (
  before,
  inner,
  same,
  (outer, own, eb, op, room, (opener, pieces, eo, o, ds, differ)),
  n,
) e =
    let fresh : (has_pair one.bytes done ≡ false)
    × (at (named done one.bytes ∷ frames) None ≡ s) = named_guard (has_pair one.bytes done) e in
    let P : State → Type 0 = λ x. Holds x.frames x.slot (symbols ++ More (One one) ∷ []) in
    subst P fresh.1 (
      symbols ++ More (One one) ∷ [],
      [],
      sym (append-nil (symbols ++ More (One one) ∷ [])),
      (
        outer,
        opener ∷ map More (pieces ++ One one ∷ []),
        ends_empty symbols before inner outer own opener pieces (One one) same eb eo n,
        op,
        room,
        (opener, pieces, one, refl, o, ds, differ, refl, fresh.0),
      ),
      refl,
    )
  where
    named_guard : (b : Bool) → stepped frames (cond b None (Some (stay (named done one.bytes) None))) ≡ Some s →
        (b ≡ false) × (at (named done one.bytes ∷ frames) None ≡ s)
    named_guard true e = absurd cc
    named_guard false e = (refl, cc)
pairs_holds done frames None (Close Curly) symbols s (
  before,
  inner,
  same,
  (outer, own, eb, op, room, (opener, pieces, eo, o, ds, differ)),
  n,
) e =
    let there : at frames (Some (mapping (members_of done))) ≡ s = cc in
    let P : State → Type 0 = λ x. Holds x.frames x.slot (symbols ++ More (Close Curly) ∷ []) in
    subst P there (
      outer,
      opener ∷ map More (pieces ++ Close Curly ∷ []),
      ends_empty symbols before inner outer own opener pieces (Close Curly) same eb eo n,
      op,
      ends_members frames opener done pieces room o differ (all_members (inside frames) done pieces ds),
    )
pairs_holds done frames None (Close Square) symbols s h e = absurd cc
pairs_holds done frames None (Open kind) symbols s h e = absurd cc
pairs_holds done frames None Comma symbols s h e = absurd cc
pairs_holds done frames None Colon symbols s h e = absurd cc

-- pieces before a value
longer : (pieces : List Piece) (one : Scalar) (value : List Piece) (p : Piece) →
    (pieces ++ One one ∷ Colon ∷ []) ++ (value ++ p ∷ []) ≡ pieces ++ ((One one ∷ Colon ∷ value) ++ p ∷ [])
longer pieces one value p = append_assoc pieces (One one ∷ Colon ∷ []) (value ++ p ∷ [])

named_holds : (done : PairList) (key : List ℕ) (frames : List Frame) (slot : Option Tree) (piece : Piece)
    (symbols : List Symbol) (s : State) → Holds (named done key ∷ frames) slot symbols →
    more_step (named done key ∷ frames) slot piece ≡ Some s
    → Holds s.frames s.slot (symbols ++ More piece ∷ [])
named_holds done key frames (Some t) piece symbols s (before, inner, same, op, never) e = absurd never
named_holds done key frames None Colon symbols s (
  before,
  inner,
  same,
  (outer, own, eb, op, room, (opener, pieces, one, eo, o, ds, differ, ke, fresh)),
  n,
) e =
    let there : at (valued done key ∷ frames) None ≡ s = cc in
    let P : State → Type 0 = λ x. Holds x.frames x.slot (symbols ++ More Colon ∷ []) in
    subst P there (
      symbols ++ More Colon ∷ [],
      [],
      sym (append-nil (symbols ++ More Colon ∷ [])),
      (
        outer,
        opener ∷ map More (pieces ++ One one ∷ Colon ∷ []),
        ends_empty symbols before inner outer own opener (pieces ++ One one ∷ []) Colon same eb eo n
            ∙ ap (λ ps. outer ++ (opener ∷ map More ps)) (append_assoc pieces (One one ∷ []) (Colon ∷ [])),
        op,
        room,
        (opener, pieces, one, refl, o, ds, differ, ke, fresh),
      ),
      refl,
    )
named_holds done key frames None (One one) symbols s h e = absurd cc
named_holds done key frames None (Open kind) symbols s h e = absurd cc
named_holds done key frames None (Close kind) symbols s h e = absurd cc
named_holds done key frames None Comma symbols s h e = absurd cc

same_key : (levels : ℕ) (done : PairList) (key : List ℕ) (one : Scalar) (t : Tree) (pieces : List Piece) →
    key ≡ one.bytes → DoneMembers levels (done ++ (one.bytes, t) ∷ []) pieces →
    DoneMembers levels (done ++ (key, t) ∷ []) pieces
same_key levels done key one t pieces e d =
    subst (λ (k : List ℕ). DoneMembers levels (done ++ (k, t) ∷ []) pieces) (sym e) d

same_last : (levels : ℕ) (done : PairList) (key : List ℕ) (one : Scalar) (t : Tree) (pieces : List Piece) →
    key ≡ one.bytes → FlowMembers levels (members_of (done ++ (one.bytes, t) ∷ [])) pieces →
    FlowMembers levels (members_of (done ++ (key, t) ∷ [])) pieces
same_last levels done key one t pieces e d =
    subst (λ (k : List ℕ). FlowMembers levels (members_of (done ++ (k, t) ∷ [])) pieces) (sym e) d

valued_holds : (done : PairList) (key : List ℕ) (frames : List Frame) (slot : Option Tree) (piece : Piece)
    (symbols : List Symbol) (s : State) → Holds (valued done key ∷ frames) slot symbols →
    more_step (valued done key ∷ frames) slot piece ≡ Some s
    → Holds s.frames s.slot (symbols ++ More piece ∷ [])
valued_holds done key frames None piece symbols s h e =
    value_holds (valued done key) frames piece symbols s (λ fs t ps f. (ps, refl, f)) (λ kind. refl) h e
valued_holds done key frames (Some t) Comma symbols s (
  before,
  inner,
  same,
  (outer, own, eb, op, room, (opener, pieces, one, eo, o, ds, differ, ke, fresh)),
  (value, ei, f),
) e =
    let there : at (pairs (done ++ (key, t) ∷ []) ∷ frames) None ≡ s = cc in
    let P : State → Type 0 = λ x. Holds x.frames x.slot (symbols ++ More Comma ∷ []) in
    subst P there (
      symbols ++ More Comma ∷ [],
      [],
      sym (append-nil (symbols ++ More Comma ∷ [])),
      (
        outer,
        opener ∷ map More (pieces ++ ((One one ∷ Colon ∷ value) ++ Comma ∷ [])),
        within symbols before inner outer own opener (pieces ++ One one ∷ Colon ∷ []) value Comma same eb eo ei
            ∙ ap (λ ps. outer ++ (opener ∷ map More ps)) (longer pieces one value Comma),
        op,
        room,
        (
          opener,
          pieces ++ ((One one ∷ Colon ∷ value) ++ Comma ∷ []),
          refl,
          o,
          same_key (inside frames) done key one t _ ke
              (more_members (inside frames) done one t pieces value ds f),
          more_new [] done key t differ fresh,
        ),
      ),
      refl,
    )
valued_holds done key frames (Some t) (Close Curly) symbols s (
  before,
  inner,
  same,
  (outer, own, eb, op, room, (opener, pieces, one, eo, o, ds, differ, ke, fresh)),
  (value, ei, f),
) e =
    let there : at frames (Some (mapping (members_of (done ++ (key, t) ∷ [])))) ≡ s = cc in
    let P : State → Type 0 = λ x. Holds x.frames x.slot (symbols ++ More (Close Curly) ∷ []) in
    subst P there (
      outer,
      opener ∷ map More ((pieces ++ One one ∷ Colon ∷ value) ++ Close Curly ∷ []),
      within symbols before inner outer own opener (pieces ++ One one ∷ Colon ∷ []) value (Close Curly) same eb eo ei
          ∙ ap (λ ps. outer ++ (opener ∷ map More ps)) (longer pieces one value (Close Curly)
          ∙ sym (append_assoc pieces (One one ∷ Colon ∷ value) (Close Curly ∷ []))),
      op,
      ends_members frames opener (done ++ (
        key,
        t,
      ) ∷ []) (pieces ++ One one ∷ Colon ∷ value) room o (more_new [] done key t differ fresh)
          (same_last (inside frames) done key one t _ ke
          (last_member (inside frames) done one t pieces value ds f)),
    )
valued_holds done key frames (Some t) (Close Square) symbols s h e = absurd cc
valued_holds done key frames (Some t) (One one) symbols s h e = absurd cc
valued_holds done key frames (Some t) (Open kind) symbols s h e = absurd cc
valued_holds done key frames (Some t) Colon symbols s h e = absurd cc

more_holds : (frames : List Frame) (slot : Option Tree) (piece : Piece) (symbols : List Symbol) (s : State) →
    Holds frames slot symbols → more_step frames slot piece ≡ Some s →
    Holds s.frames s.slot (symbols ++ More piece ∷ [])
more_holds [] slot piece symbols s h e = absurd cc
more_holds (dashes i done ∷ frames) slot piece symbols s h e = absurd cc
more_holds (keys i done key ∷ frames) slot piece symbols s h e = absurd cc
more_holds (items done ∷ frames) slot piece symbols s h e = items_holds done frames slot piece symbols s h e
more_holds (pairs done ∷ frames) slot piece symbols s h e = pairs_holds done frames slot piece symbols s h e
more_holds (named done key ∷ frames) slot piece symbols s h e = named_holds done key frames slot piece symbols s h e
more_holds (valued done key ∷ frames) slot piece symbols s h e = valued_holds done key frames slot piece symbols s h e

-- ---- all

few_frames : (frames : List Frame) (symbols : List Symbol) → Opened frames symbols → length frames ≤ 32
few_frames [] symbols o = omega arith
few_frames (frame ∷ frames) symbols (outer, own, e, op, room, o) = omega (arith, room)

symbol_holds : (s : State) (symbol : Symbol) (symbols : List Symbol) (x : State) → Holds s.frames s.slot symbols →
    symbol_step s symbol ≡ Some x → Holds x.frames x.slot (symbols ++ symbol ∷ [])
symbol_holds s (Dash c) symbols x h e =
    dash_holds c (closed c true s.frames s.slot).frames (closed c true s.frames s.slot).slot symbols x
    (closed_holds c true s.frames s.slot symbols h) e
symbol_holds s (Key c key) symbols x h e =
    key_holds c key (closed c false s.frames s.slot).frames (closed c false s.frames s.slot).slot symbols x
    (closed_holds c false s.frames s.slot symbols h) e
symbol_holds s (Value c piece) symbols x h e =
    lone_holds (may_begin c false s.frames) c piece s.frames s.slot symbols x refl h (few_frames s.frames h.0 h.3) e
symbol_holds s (More piece) symbols x h e = more_holds s.frames s.slot piece symbols x h e

pub symbols_hold : (others : List Symbol) (s : State) (symbols : List Symbol) (x : State) →
    Holds s.frames s.slot symbols → symbols_step s others ≡ Some x → Holds x.frames x.slot (symbols ++ others)
symbols_hold [] s symbols x h e =
    let there : s ≡ x = cc in
    let P : State → Type 0 = λ y. Holds y.frames y.slot (symbols ++ []) in
    subst P there (subst (Holds s.frames s.slot) (sym (append-nil symbols)) h)
symbols_hold (symbol ∷ others) s symbols x h e =
    go (λ y. symbols_hold others y (symbols ++ symbol ∷ []) x) (symbol_step s symbol) refl e
  where
    go : ((y : State) → Holds y.frames y.slot (symbols ++ symbol ∷ []) → symbols_step y others ≡ Some x →
        Holds x.frames x.slot ((symbols ++ symbol ∷ []) ++ others)) → (o : Option State) → symbol_step s symbol ≡ o
        → then_symbols (λ y. symbols_step y others) o ≡ Some x → Holds x.frames x.slot (symbols ++ symbol ∷ others)
    go rest None was e = absurd cc
    go rest (Some y) was e =
        subst (Holds x.frames x.slot) (append_assoc symbols (symbol ∷ []) others)
        (rest y (symbol_holds s symbol symbols y h was) e)

says_of : (slot : Option Tree) (symbols : List Symbol) → Holds [] slot symbols → Says (tree_or_null slot) symbols
says_of None symbols (before, inner, e, none, n) = inl (e ∙ ap (λ b. b ++ inner) none ∙ n, refl)
says_of (Some t) symbols (before, inner, e, none, b) =
    inr (subst (Block 32 t 0) (sym (e ∙ ap (λ b. b ++ inner) none)) b)

ended_says : (frames : List Frame) (slot : Option Tree) (t : Tree) (symbols : List Symbol) →
    Holds frames slot symbols → ended frames slot ≡ Some t → Says t symbols
ended_says [] slot t symbols h e = let same : tree_or_null slot ≡ t =
    cc in subst (λ (u : Tree). Says u symbols) same (says_of slot symbols h)
ended_says (dashes i done ∷ frames) slot t symbols h e =
    ended_says frames (Some (frame_tree (dashes i done) slot)) t symbols (close_dashes i done frames slot symbols h)
    e
ended_says (keys i done key ∷ frames) slot t symbols h e =
    ended_says frames (Some (frame_tree (keys i done key) slot)) t symbols
    (close_keys i done key frames slot symbols h) e
ended_says (items done ∷ frames) slot t symbols h e = absurd cc
ended_says (pairs done ∷ frames) slot t symbols h e = absurd cc
ended_says (named done key ∷ frames) slot t symbols h e = absurd cc
ended_says (valued done key ∷ frames) slot t symbols h e = absurd cc

-- what was read to its end says the tree
pub run_says : (symbols : List Symbol) (x : State) (t : Tree) → symbols_step start symbols ≡ Some x →
    ended x.frames x.slot ≡ Some t → Says t symbols
run_says symbols x t e d =
    ended_says x.frames x.slot t symbols (symbols_hold symbols start [] x ([], [], refl, refl, refl) e) d
