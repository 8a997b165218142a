-- The brackets that the lines count and those among the frames are as many.
use Rattle.std.proofs.Common.{◌≡◌, ℕ, zero, suc, ◌+◌, ◌-◌, Bool, true, false, cond, ◌==◌, ◌&&◌, List, [], ◌∷◌, ◌++◌, length, drop, Option, Some, None, refl, sym, ap, subst, ◌∙◌, arith}
use Rattle.std.proofs.lemmas.Bool.Decides.{nat_tests}
use Rattle.zr_names.specs.Tree.{Tree}
use Rattle.zr_yaml.specs.declared.scalar.Scalar.{Scalar}
use Rattle.zr_yaml.specs.declared.symbols.Bracket.{Bracket}
use Rattle.zr_yaml.specs.declared.symbols.Bracket.TheVariants.{Curly, Square}
use Rattle.zr_yaml.specs.declared.symbols.Front.{Front}
use Rattle.zr_yaml.specs.declared.symbols.Front.TheVariants.{Nothing, Blank, Dashed, Content}
use Rattle.zr_yaml.specs.declared.symbols.Piece.{Piece}
use Rattle.zr_yaml.specs.declared.symbols.Piece.TheVariants.{One, Open, Close, Comma, Colon}
use Rattle.zr_yaml.specs.declared.symbols.Symbol.{Symbol}
use Rattle.zr_yaml.specs.declared.symbols.Symbol.TheVariants.{Dash, Key, Value, More}
use Rattle.zr_yaml.specs.Document.{PairList, has_pair}
use Rattle.zr_yaml.specs.Reading.{Frame, dashes, keys, items, pairs, named, valued, State, Step, stay, under, filled, begun, closed, dashes_at, has_room, is_bracket, keys_at, lone_step, may_begin, more_step, next_dash, next_key, opened, piece_step, stepped, symbol_step, symbols_step, then_symbols, tree_or_null, value_step}
use Rattle.zr_yaml.specs.Scan.{after_gap}
use Rattle.zr_yaml.specs.Scalar.{scalar_at, scalar_tree}
use Rattle.zr_yaml.specs.Symbols.{Read, begins_value, content_at, front_of, key_found, line_at, line_by, line_end, line_symbols, lone_found, next_from, nothing_left, open_after, opened_by, opens, piece_at, pieces_at, pieces_from, value_at, value_behind, value_from, with_piece, with_symbols}
use Rattle.zr_yaml.proofs.Running.{at}
use Rattle.zr_yaml.proofs.Sound.{guard, guard_not}

-- how many brackets are open inside of the innermost block
abbrev pub flows : List Frame → ℕ
flows [] = 0
flows (frame ∷ frames) = cond (is_bracket frame) (suc (flows frames)) 0

abbrev pub after_symbol : ℕ → Symbol → ℕ
after_symbol n (Dash c) = 0
after_symbol n (Key c key) = 0
after_symbol n (Value c p) = open_after n p
after_symbol n (More p) = open_after n p

abbrev pub after_symbols : ℕ → List Symbol → ℕ
after_symbols n [] = n
after_symbols n (symbol ∷ others) = after_symbols (after_symbol n symbol) others

-- ---- among the frames

pub no_flows : (c : ℕ) (dashed : Bool) (frames : List Frame) → may_begin c dashed frames ≡ true → flows frames ≡ 0
no_flows c dashed [] m = refl
no_flows c dashed (dashes i done ∷ frames) m = refl
no_flows c dashed (keys i done key ∷ frames) m = refl
no_flows c dashed (items done ∷ frames) m = absurd cc
no_flows c dashed (pairs done ∷ frames) m = absurd cc
no_flows c dashed (named done key ∷ frames) m = absurd cc
no_flows c dashed (valued done key ∷ frames) m = absurd cc

begun_flows : (frame : Frame) (may : Bool) (frames : List Frame) (slot : Option Tree) (x : State) →
    is_bracket frame ≡ false → begun frame may frames slot ≡ Some x → flows x.frames ≡ 0
begun_flows frame may frames (Some t) x b e = absurd cc
begun_flows frame may frames None x b e =
    let g = guard (may && has_room frames) (at (frame ∷ frames) None) x e in
    ap (λ (s : State). flows s.frames) (sym g.1) ∙ ap (λ (t : Bool). cond t (suc (flows frames)) 0) b

next_dash_flows : (frames : List Frame) (slot : Option Tree) (x : State) → next_dash frames slot ≡ Some x →
    flows x.frames ≡ 0
next_dash_flows [] slot x e = absurd cc
next_dash_flows (dashes i done ∷ frames) slot x e =
    let there : at (dashes i (done ++ tree_or_null slot ∷ []) ∷ frames) None ≡ x =
    cc in ap (λ (s : State). flows s.frames) (sym there)
next_dash_flows (keys i done key ∷ frames) slot x e = absurd cc
next_dash_flows (items done ∷ frames) slot x e = absurd cc
next_dash_flows (pairs done ∷ frames) slot x e = absurd cc
next_dash_flows (named done key ∷ frames) slot x e = absurd cc
next_dash_flows (valued done key ∷ frames) slot x e = absurd cc

next_key_flows : (key : List ℕ) (frames : List Frame) (slot : Option Tree) (x : State) →
    next_key key frames slot ≡ Some x → flows x.frames ≡ 0
next_key_flows key [] slot x e = absurd cc
next_key_flows key (dashes i done ∷ frames) slot x e = absurd cc
next_key_flows key (keys i done last ∷ frames) slot x e =
    let g = guard_not (has_pair key (done ++ (last, tree_or_null slot) ∷ []))
    (at (keys i (done ++ (last, tree_or_null slot) ∷ []) key ∷ frames) None) x e in
    ap (λ (s : State). flows s.frames) (sym g.1)
next_key_flows key (items done ∷ frames) slot x e = absurd cc
next_key_flows key (pairs done ∷ frames) slot x e = absurd cc
next_key_flows key (named done last ∷ frames) slot x e = absurd cc
next_key_flows key (valued done last ∷ frames) slot x e = absurd cc

either_flows : (b : Bool) (p q : Option State) (x : State) → (p ≡ Some x → flows x.frames ≡ 0) →
    (q ≡ Some x → flows x.frames ≡ 0) → cond b p q ≡ Some x → flows x.frames ≡ 0
either_flows true p q x h k e = h e
either_flows false p q x h k e = k e

opened_flows : (kind : Bracket) (frames : List Frame) → flows (opened kind ∷ frames) ≡ flows frames + 1
opened_flows Curly frames = omega arith
opened_flows Square frames = omega arith

lone_flows : (may : Bool) (c : ℕ) (p : Piece) (frames : List Frame) (slot : Option Tree) (x : State) →
    lone_step may p frames slot ≡ Some x → flows x.frames ≡ open_after (flows frames) p
lone_flows may c p frames (Some t) x e = absurd cc
lone_flows false c p frames None x e = absurd cc
lone_flows true c (One s) frames None x e = let there : at frames (Some (scalar_tree s)) ≡ x =
    cc in ap (λ (s' : State). flows s'.frames) (sym there)
lone_flows true c (Open kind) frames None x e =
    let g = guard (has_room frames) (at (opened kind ∷ frames) None) x e in
    ap (λ (s : State). flows s.frames) (sym g.1) ∙ opened_flows kind frames
lone_flows true c (Close kind) frames None x e = absurd cc
lone_flows true c Comma frames None x e = absurd cc
lone_flows true c Colon frames None x e = absurd cc

-- what a step makes of the count, in a frame in brackets
abbrev Counted : ℕ → Piece → Option Step → Type 0
Counted n p None = Unit {0}
Counted n p (Some (stay frame slot)) = (is_bracket frame ≡ true) × (open_after (suc n) p ≡ suc n)
Counted n p (Some (under frame inner)) = (is_bracket frame ≡ true) × (is_bracket inner ≡ true)
    × (open_after (suc n) p ≡ suc (suc n))
Counted n p (Some (filled t)) = open_after (suc n) p ≡ n

opened_bracket : (kind : Bracket) → is_bracket (opened kind) ≡ true
opened_bracket Curly = refl
opened_bracket Square = refl

value_counted : (n : ℕ) (frame : Frame) (p : Piece) → is_bracket frame ≡ true → Counted n p (value_step frame p)
value_counted n frame (One s) b = (b, refl)
value_counted n frame (Open kind) b = (b, opened_bracket kind, omega arith)
value_counted n frame (Close kind) b = tt
value_counted n frame Comma b = tt
value_counted n frame Colon b = tt

named_counted : (n : ℕ) (s : Scalar) (done : PairList) (b : Bool) →
    Counted n (One s) (cond b None (Some (stay (named done s.bytes) None)))
named_counted n s done true = tt
named_counted n s done false = (refl, refl)

piece_counted : (n : ℕ) (frame : Frame) (slot : Option Tree) (p : Piece) → Counted n p (piece_step frame slot p)
piece_counted n (dashes i done) slot p = tt
piece_counted n (keys i done key) slot p = tt
piece_counted n (items done) None (One s) = (refl, refl)
piece_counted n (items done) None (Open kind) = (refl, opened_bracket kind, omega arith)
piece_counted n (items done) None (Close Square) = omega arith
piece_counted n (items done) None (Close Curly) = tt
piece_counted n (items done) None Comma = tt
piece_counted n (items done) None Colon = tt
piece_counted n (items done) (Some t) (One s) = tt
piece_counted n (items done) (Some t) (Open kind) = tt
piece_counted n (items done) (Some t) (Close Square) = omega arith
piece_counted n (items done) (Some t) (Close Curly) = tt
piece_counted n (items done) (Some t) Comma = (refl, refl)
piece_counted n (items done) (Some t) Colon = tt
piece_counted n (pairs done) slot (One s) = named_counted n s done (has_pair s.bytes done)
piece_counted n (pairs done) slot (Open kind) = tt
piece_counted n (pairs done) slot (Close Curly) = omega arith
piece_counted n (pairs done) slot (Close Square) = tt
piece_counted n (pairs done) slot Comma = tt
piece_counted n (pairs done) slot Colon = tt
piece_counted n (named done key) slot (One s) = tt
piece_counted n (named done key) slot (Open kind) = tt
piece_counted n (named done key) slot (Close kind) = tt
piece_counted n (named done key) slot Comma = tt
piece_counted n (named done key) slot Colon = (refl, refl)
piece_counted n (valued done key) None p = value_counted n (valued done key) p refl
piece_counted n (valued done key) (Some t) (One s) = tt
piece_counted n (valued done key) (Some t) (Open kind) = tt
piece_counted n (valued done key) (Some t) (Close Curly) = omega arith
piece_counted n (valued done key) (Some t) (Close Square) = tt
piece_counted n (valued done key) (Some t) Comma = (refl, refl)
piece_counted n (valued done key) (Some t) Colon = tt

bracket_flows : (frame : Frame) (frames : List Frame) → is_bracket frame ≡ true →
    flows (frame ∷ frames) ≡ suc (flows frames)
bracket_flows frame frames b = ap (λ (t : Bool). cond t (suc (flows frames)) 0) b

stepped_flows : (frames : List Frame) (p : Piece) (step : Option Step) (x : State) → Counted (flows frames) p step →
    stepped frames step ≡ Some x → flows x.frames ≡ open_after (suc (flows frames)) p
stepped_flows frames p None x h e = absurd cc
stepped_flows frames p (Some (stay frame slot)) x h e = let there : at (frame ∷ frames) slot ≡ x =
    cc in ap (λ (s : State). flows s.frames) (sym there) ∙ bracket_flows frame frames h.0 ∙ sym h.1
stepped_flows frames p (Some (filled t)) x h e = let there : at frames (Some t) ≡ x =
    cc in ap (λ (s : State). flows s.frames) (sym there) ∙ sym h
stepped_flows frames p (Some (under frame inner)) x h e =
    let g = guard (has_room (frame ∷ frames)) (at (inner ∷ frame ∷ frames) None) x e in
    ap (λ (s : State). flows s.frames) (sym g.1) ∙ bracket_flows inner (frame ∷ frames) h.1
    ∙ ap suc (bracket_flows frame frames h.0) ∙ sym h.2

more_flows : (frames : List Frame) (slot : Option Tree) (p : Piece) (x : State) → more_step frames slot p ≡ Some x →
    flows x.frames ≡ open_after (flows frames) p
more_flows [] slot p x e = absurd cc
more_flows (dashes i done ∷ frames) slot p x e = absurd cc
more_flows (keys i done key ∷ frames) slot p x e = absurd cc
more_flows (items done ∷ frames) slot p x e =
    stepped_flows frames p (piece_step (items done) slot p) x (piece_counted (flows frames) (items done) slot p) e
more_flows (pairs done ∷ frames) slot p x e =
    stepped_flows frames p (piece_step (pairs done) slot p) x (piece_counted (flows frames) (pairs done) slot p) e
more_flows (named done key ∷ frames) slot p x e =
    stepped_flows frames p (piece_step (named done key) slot p) x
    (piece_counted (flows frames) (named done key) slot p) e
more_flows (valued done key ∷ frames) slot p x e =
    stepped_flows frames p (piece_step (valued done key) slot p) x
    (piece_counted (flows frames) (valued done key) slot p) e

symbol_flows : (s : State) (symbol : Symbol) (x : State) → symbol_step s symbol ≡ Some x →
    flows x.frames ≡ after_symbol (flows s.frames) symbol
symbol_flows s (Dash c) x e =
    let y = closed c true s.frames s.slot in
    either_flows (dashes_at c y.frames) (next_dash y.frames y.slot)
    (begun (dashes c []) (may_begin c true y.frames) y.frames y.slot) x
    (next_dash_flows y.frames y.slot x) (begun_flows (dashes c []) (may_begin c true y.frames) y.frames y.slot x refl) e
symbol_flows s (Key c key) x e =
    let y = closed c false s.frames s.slot in
    either_flows (keys_at c y.frames) (next_key key y.frames y.slot)
    (begun (keys c [] key) (may_begin c false y.frames) y.frames y.slot) x
    (next_key_flows key y.frames y.slot x)
    (begun_flows (keys c [] key) (may_begin c false y.frames) y.frames y.slot x refl) e
symbol_flows s (Value c p) x e = lone_flows (may_begin c false s.frames) c p s.frames s.slot x e
symbol_flows s (More p) x e = more_flows s.frames s.slot p x e

pub symbols_flows : (symbols : List Symbol) (s x : State) → symbols_step s symbols ≡ Some x →
    flows x.frames ≡ after_symbols (flows s.frames) symbols
symbols_flows [] s x e = let there : s ≡ x = cc in ap (λ (y : State). flows y.frames) (sym there)
symbols_flows (symbol ∷ others) s x e = go (λ y. symbols_flows others y x) (symbol_step s symbol) refl e
  where
    go : ((y : State) → symbols_step y others ≡ Some x → flows x.frames ≡ after_symbols (flows y.frames) others) →
        (o : Option State) → symbol_step s symbol ≡ o → then_symbols (λ y. symbols_step y others) o ≡ Some x
        → flows x.frames ≡ after_symbols (after_symbol (flows s.frames) symbol) others
    go rest None was e = absurd cc
    go rest (Some y) was e = rest y e ∙ ap (λ n. after_symbols n others) (symbol_flows s symbol y was)

-- ---- in the lines

abbrev pub Counts : ℕ → Option Read → Type 0
Counts n None = Unit {0}
Counts n (Some r) = r.1 ≡ after_symbols n r.0

first_counts : (n : ℕ) (symbol : Symbol) (read : Option Read) → Counts (after_symbol n symbol) read →
    Counts n (with_symbols (symbol ∷ []) read)
first_counts n symbol None h = tt
first_counts n symbol (Some r) h = h

either_counts : (n : ℕ) (b : Bool) (p q : Option Read) → (b ≡ true → Counts n p) → (b ≡ false → Counts n q) →
    Counts n (cond b p q)
either_counts n true p q h k = h refl
either_counts n false p q h k = k refl

nothing_counts : (n : ℕ) (rest : List ℕ) → n ≡ 0 → Counts n (nothing_left rest)
nothing_counts n [] e = sym e
nothing_counts n (b ∷ bs) e = tt

end_counts : (n : ℕ) (rest : List ℕ) → n ≡ 0 → Counts n (line_end rest)
end_counts n rest e = nothing_counts n (after_gap false rest) e

zero_test : (n : ℕ) → (n == 0) ≡ true → n ≡ 0
zero_test n h = grind (arith, nat_tests)

abbrev PiecesCount : ℕ → Type 0
PiecesCount n = (unclosed : ℕ) (spaced : Bool) (bytes : List ℕ) → Counts unclosed (pieces_at n unclosed spaced bytes)

piece_counts : (n : ℕ) → PiecesCount n → (unclosed : ℕ) (found : Option (Piece × List ℕ)) →
    Counts unclosed (with_piece (λ o rest. pieces_at n o false rest) unclosed found)
piece_counts n go unclosed None = tt
piece_counts n go unclosed (Some x) =
    first_counts unclosed (More x.0) (next_from (λ o rest. pieces_at n o false rest) (open_after unclosed x.0) x.1)
    (either_counts (open_after unclosed x.0) (open_after unclosed x.0 == 0) (line_end x.1)
    (pieces_at n (open_after unclosed x.0) false x.1) (λ h.
    end_counts (open_after unclosed x.0) x.1 (zero_test (open_after unclosed x.0) h)) (λ h.
    go (open_after unclosed x.0) false x.1))

from_counts : (n : ℕ) → PiecesCount n → (unclosed : ℕ) (rest : List ℕ) →
    Counts unclosed (pieces_from (λ o more. pieces_at n o false more) unclosed rest)
from_counts n go unclosed [] = refl
from_counts n go unclosed (b ∷ bs) = piece_counts n go unclosed (piece_at (b ∷ bs))

pieces_counts : (n : ℕ) → PiecesCount n
pieces_counts zero = λ unclosed spaced bytes. tt
pieces_counts (suc n) = λ unclosed spaced bytes. from_counts n (pieces_counts n) unclosed (after_gap spaced bytes)

lone_counts : (column : ℕ) (found : Option (Scalar × List ℕ)) → Counts 0 (lone_found column found)
lone_counts column None = tt
lone_counts column (Some x) = first_counts 0 (Value column (One x.0)) (line_end x.1) (end_counts 0 x.1 refl)

value_from_counts : (column : ℕ) (kind : Option Bracket) (bytes rest : List ℕ) →
    Counts 0 (value_from column kind bytes rest)
value_from_counts column None bytes rest = lone_counts column (scalar_at false bytes)
value_from_counts column (Some kind) bytes rest =
    first_counts 0 (Value column (Open kind)) (pieces_at (suc (length rest)) 1 false rest)
    (pieces_counts (suc (length rest)) 1 false rest)

value_counts : (column : ℕ) (bytes : List ℕ) → Counts 0 (value_at column bytes)
value_counts column [] = refl
value_counts column (b ∷ bs) = value_from_counts column (opened_by b) (b ∷ bs) bs

key_counts : (width column : ℕ) (found : Option (Scalar × List ℕ)) → Counts 0 (key_found width column found)
key_counts width column None = tt
key_counts width column (Some x) =
    either_counts 0 (begins_value x.1) _ _ (λ h.
    first_counts 0 (Key column x.0.bytes) (value_behind width (after_gap false (drop 1 x.1)))
    (value_counts (width - length (after_gap false (drop 1 x.1))) (after_gap false (drop 1 x.1))))
    (λ h. first_counts 0 (Value column (One x.0)) (line_end x.1) (end_counts 0 x.1 refl))

content_counts : (width : ℕ) (bytes : List ℕ) → Counts 0 (content_at width bytes)
content_counts width bytes =
    either_counts 0 (opens bytes) _ _ (λ h. value_counts (width - length bytes) bytes) (λ h.
    key_counts width (width - length bytes) (scalar_at false bytes))

by_counts : (front : Front) (width : ℕ) (bytes : List ℕ) (rest : Option Read) → Counts 0 rest →
    Counts 0 (line_by front width bytes rest)
by_counts Nothing width bytes rest h = refl
by_counts Blank width bytes rest h = h
by_counts Dashed width bytes rest h = first_counts 0 (Dash (width - length bytes)) rest h
by_counts Content width bytes rest h = content_counts width bytes

line_counts : (width : ℕ) (bytes : List ℕ) → Counts 0 (line_at width bytes)
line_counts width [] = refl
line_counts width (b ∷ bs) = by_counts (front_of (b ∷ bs)) width (b ∷ bs) (line_at width bs) (line_counts width bs)

symbols_count : (unclosed : ℕ) (bytes : List ℕ) → Counts unclosed (line_symbols unclosed bytes)
symbols_count unclosed bytes =
    either_counts unclosed (unclosed == 0) _ _ (λ h.
    subst (λ (n : ℕ). Counts n (line_at (length bytes) bytes)) (sym (zero_test unclosed h))
    (line_counts (length bytes) bytes)) (λ h. pieces_counts (suc (length bytes)) unclosed true bytes)

-- behind a line as many brackets are open as among the frames
pub line_flows : (unclosed : ℕ) (bytes : List ℕ) (symbols : List Symbol) (count : ℕ) (s x : State) →
    line_symbols unclosed bytes ≡ Some (symbols, count) → symbols_step s symbols ≡ Some x →
    flows s.frames ≡ unclosed → flows x.frames ≡ count
line_flows unclosed bytes symbols count s x e run same =
    symbols_flows symbols s x run ∙ ap (λ n. after_symbols n symbols) same
    ∙ sym (subst (Counts unclosed) e (symbols_count unclosed bytes))
