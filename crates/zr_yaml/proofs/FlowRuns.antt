-- What stands in brackets is read.
use Rattle.std.proofs.Common.{◌≡◌, inl, inr, ℕ, suc, ◌+◌, ◌<◌, ◌≤◌, Bool, false, cond, List, [], ◌∷◌, ◌++◌, length, Some, None, refl, sym, ap, ◌∙◌, append_assoc, arith}
use Rattle.std.proofs.lemmas.List.{append-nil}
use Rattle.zr_names.specs.Tree.{Tree, null, flag, number, text, mapping, sequence, other, Items, no_items, item, Members, no_members, member, items_of, members_of}
use Rattle.zr_yaml.specs.declared.scalar.Scalar.{Scalar}
use Rattle.zr_yaml.specs.declared.symbols.Bracket.{Bracket}
use Rattle.zr_yaml.specs.declared.symbols.Bracket.TheVariants.{Curly, Square}
use Rattle.zr_yaml.specs.declared.symbols.Piece.{Piece}
use Rattle.zr_yaml.specs.declared.symbols.Piece.TheVariants.{One, Open, Close, Comma, Colon}
use Rattle.zr_yaml.specs.declared.symbols.Symbol.{Symbol}
use Rattle.zr_yaml.specs.declared.symbols.Symbol.TheVariants.{More}
use Rattle.zr_yaml.specs.Document.{Flow, FlowItems, FlowMembers, NewKeys, PairList, Single, has_pair}
use Rattle.zr_yaml.specs.Reading.{Frame, items, pairs, named, valued, stay, under, opened, piece_step, stepped, symbols_step, then_symbols}
use Rattle.zr_yaml.specs.Scalar.{scalar_tree}
use Rattle.zr_yaml.proofs.Running.{at, has_room_true, items_of-list, list_of, members_of-list, mored, mored_append, pair_list}

-- a frame in which a value is to come
pub record Takes (frame : Frame) : Type 0 where
  pub one : (s : Scalar) → piece_step frame None (One s) ≡ Some (stay frame (Some (scalar_tree s)))
  pub opens : (kind : Bracket) → piece_step frame None (Open kind) ≡ Some (under frame (opened kind))

pub items_take : (done : List Tree) → Takes (items done)
items_take done = record { one = λ s. refl; opens = λ kind. refl }

pub valued_take : (done : PairList) (key : List ℕ) → Takes (valued done key)
valued_take done key = record { one = λ s. refl; opens = λ kind. refl }

single_run : (t : Tree) (frame : Frame) (frames : List Frame) (pieces : List Piece) (rest : List Symbol) →
    Takes frame → Single t pieces
    → symbols_step (at (frame ∷ frames) None) (mored pieces rest) ≡ symbols_step (at (frame ∷ frames) (Some t)) rest
single_run t frame frames pieces rest takes (s, e, te) =
    ap (λ ps. symbols_step (at (frame ∷ frames) None) (mored ps rest)) e
    ∙ ap (λ step. then_symbols (λ y. symbols_step y rest) (stepped frames step)) (takes.one s)
    ∙ ap (λ u. symbols_step (at (frame ∷ frames) (Some u)) rest) (sym te)

-- a bracket opens
open_run : (kind : Bracket) (frame : Frame) (frames : List Frame) (rest : List Symbol) → Takes frame →
    length (frame ∷ frames) < 32
    → symbols_step (at (frame ∷ frames) None) (More (Open kind) ∷ rest)
    ≡ symbols_step (at (opened kind ∷ frame ∷ frames) None) rest
open_run kind frame frames rest takes room =
    ap (λ step. then_symbols (λ y. symbols_step y rest) (stepped frames step)) (takes.opens kind)
    ∙ ap (λ (b : Bool). then_symbols (λ y.
    symbols_step y rest) (cond b (Some (at (opened kind ∷ frame ∷ frames) None)) None))
    (has_room_true (frame ∷ frames) room)

-- a key and its colon
name_run : (key : Scalar) (k : List ℕ) (frames : List Frame) (done : PairList) (rest : List Symbol) →
    k ≡ key.bytes → has_pair k done ≡ false
    → symbols_step (at (pairs done ∷ frames) None) (More (One key) ∷ More Colon ∷ rest)
    ≡ symbols_step (at (valued done k ∷ frames) None) rest
name_run key k frames done rest same new =
    let fresh : has_pair key.bytes done ≡ false = ap (λ b. has_pair b done) (sym same) ∙ new in
    ap (λ (b : Bool). then_symbols (λ y.
    symbols_step y (More Colon ∷ rest))
    (stepped frames (cond b None (Some (stay (named done key.bytes) None))))) fresh
    ∙ ap (λ b. symbols_step (at (valued done b ∷ frames) None) rest) (sym same)

mutual
  pub value_run : (t : Tree) (levels : ℕ) (frame : Frame) (frames : List Frame) (pieces : List Piece)
      (rest : List Symbol) → Takes frame → Flow levels t pieces → length (frame ∷ frames) + levels ≤ 32
      → symbols_step (at (frame ∷ frames) None) (mored pieces rest) ≡ symbols_step (at (frame ∷ frames) (Some t)) rest
  value_run null levels frame frames pieces rest takes f room = single_run null frame frames pieces rest takes f
  value_run (flag b) levels frame frames pieces rest takes f room = single_run (flag b) frame frames pieces rest takes f
  value_run (number n) levels frame frames pieces rest takes f room =
      single_run (number n) frame frames pieces rest takes f
  value_run (text bs) levels frame frames pieces rest takes f room =
      single_run (text bs) frame frames pieces rest takes f
  value_run other levels frame frames pieces rest takes f room = single_run other frame frames pieces rest takes f
  value_run (sequence ts) levels frame frames pieces rest takes (below, le, (inner, e, inside)) room =
      let deep : length (frame ∷ frames) + suc below ≤ 32 = omega (arith, le, room) in
      ap (λ ps. symbols_step (at (frame ∷ frames) None) (mored ps rest)) e
      ∙ open_run Square frame frames (mored (inner ++ Close Square ∷ []) rest) takes (omega arith)
      ∙ ap (symbols_step (at (items [] ∷ frame ∷ frames) None)) (mored_append inner (Close Square ∷ []) rest)
      ∙ items_run ts below (frame ∷ frames) [] inner rest inside deep
      ∙ ap (λ us. symbols_step (at (frame ∷ frames) (Some (sequence us))) rest) (items_of-list ts)
  value_run (mapping ms) levels frame frames pieces rest takes (differ, (below, le, (inner, e, inside))) room =
      let deep : length (frame ∷ frames) + suc below ≤ 32 = omega (arith, le, room) in
      ap (λ ps. symbols_step (at (frame ∷ frames) None) (mored ps rest)) e
      ∙ open_run Curly frame frames (mored (inner ++ Close Curly ∷ []) rest) takes (omega arith)
      ∙ ap (symbols_step (at (pairs [] ∷ frame ∷ frames) None)) (mored_append inner (Close Curly ∷ []) rest)
      ∙ members_run ms below (frame ∷ frames) [] inner rest inside differ deep
      ∙ ap (λ us. symbols_step (at (frame ∷ frames) (Some (mapping us))) rest) (members_of-list ms)

  pub items_run : (ts : Items) (levels : ℕ) (frames : List Frame) (done : List Tree) (pieces : List Piece)
      (rest : List Symbol) → FlowItems levels ts pieces → length frames + suc levels ≤ 32
      → symbols_step (at (items done ∷ frames) None) (mored pieces (More (Close Square) ∷ rest))
      ≡ symbols_step (at frames (Some (sequence (items_of (done ++ list_of ts))))) rest
  items_run no_items levels frames done pieces rest e room =
      ap (λ ps. symbols_step (at (items done ∷ frames) None) (mored ps (More (Close Square) ∷ rest))) e
      ∙ ap (λ us. symbols_step (at frames (Some (sequence (items_of us)))) rest) (sym (append-nil done))
  items_run (item t ts) levels frames done pieces rest (value, f, inl (none, e)) room =
      ap (λ ps. symbols_step (at (items done ∷ frames) None) (mored ps (More (Close Square) ∷ rest))) e
      ∙ value_run t levels (items done) frames value (More (Close Square) ∷ rest) (items_take done) f (omega arith)
      ∙ ap (λ us. symbols_step (at frames (Some (sequence (items_of (done ++ t ∷ list_of us))))) rest) (sym none)
  items_run (item t ts) levels frames done pieces rest (value, f, inr (others, e, more)) room =
      ap (λ ps. symbols_step (at (items done ∷ frames) None) (mored ps (More (Close Square) ∷ rest))) e
      ∙ ap (symbols_step (at (items done ∷ frames) None))
      (mored_append value (Comma ∷ others) (More (Close Square) ∷ rest))
      ∙ value_run t levels (items done) frames value (More Comma ∷ mored others (More (Close Square) ∷ rest))
      (items_take done) f (omega arith)
      ∙ items_run ts levels frames (done ++ t ∷ []) others rest more room
      ∙ ap (λ us. symbols_step (at frames (Some (sequence (items_of us)))) rest)
      (append_assoc done (t ∷ []) (list_of ts))

  pub members_run : (ms : Members) (levels : ℕ) (frames : List Frame) (done : PairList) (pieces : List Piece)
      (rest : List Symbol) → FlowMembers levels ms pieces → NewKeys done ms → length frames + suc levels ≤ 32
      → symbols_step (at (pairs done ∷ frames) None) (mored pieces (More (Close Curly) ∷ rest))
      ≡ symbols_step (at frames (Some (mapping (members_of (done ++ pair_list ms))))) rest
  members_run no_members levels frames done pieces rest e new room =
      ap (λ ps. symbols_step (at (pairs done ∷ frames) None) (mored ps (More (Close Curly) ∷ rest))) e
      ∙ ap (λ us. symbols_step (at frames (Some (mapping (members_of us)))) rest) (sym (append-nil done))
  members_run (member k t ms) levels frames done pieces rest (key, same, value, f, inl (none, e)) (new, more_new) room =
      ap (λ ps. symbols_step (at (pairs done ∷ frames) None) (mored ps (More (Close Curly) ∷ rest))) e
      ∙ name_run key k frames done (mored value (More (Close Curly) ∷ rest)) same new
      ∙ value_run t levels (valued done k) frames value (More (Close Curly) ∷ rest) (valued_take done k) f (omega arith)
      ∙ ap (λ us. symbols_step (at frames (Some (mapping (members_of (done ++ (k, t) ∷ pair_list us))))) rest)
      (sym none)
  members_run (member k t ms) levels frames done pieces rest (key, same, value, f, inr (others, e, more)) (
    new,
    more_new,
  ) room =
      ap (λ ps. symbols_step (at (pairs done ∷ frames) None) (mored ps (More (Close Curly) ∷ rest))) e
      ∙ ap (symbols_step (at (pairs done ∷ frames) None))
      (mored_append (One key ∷ Colon ∷ value) (Comma ∷ others) (More (Close Curly) ∷ rest))
      ∙ name_run key k frames done (mored value (More Comma ∷ mored others (More (Close Curly) ∷ rest))) same new
      ∙ value_run t levels (valued done k) frames value (More Comma ∷ mored others (More (Close Curly) ∷ rest))
      (valued_take done k) f (omega arith)
      ∙ members_run ms levels frames (done ++ (k, t) ∷ []) others rest more more_new room
      ∙ ap (λ us. symbols_step (at frames (Some (mapping (members_of us)))) rest)
      (append_assoc done ((k, t) ∷ []) (pair_list ms))
