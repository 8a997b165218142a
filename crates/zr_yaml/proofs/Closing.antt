-- Open brackets can be closed by one line more.
use Rattle.std.proofs.Common.{◌≡◌, ◌⊎◌, inl, inr, ℕ, zero, suc, ◌-◌, ◌<◌, Bool, true, false, cond, ◌==◌, ◌&&◌, List, [], ◌∷◌, ◌++◌, length, take, map, get_or, Option, Some, None, refl, sym, ap, subst, ◌∙◌, arith}
use Rattle.std.specs.Prelude.{nat_lt}
use Rattle.std.proofs.lemmas.Bool.Decides.{nat_tests}
use Rattle.std.proofs.lemmas.Str.{IsUtf8-from_ascii, utf8_valid_len-IsUtf8}
use Rattle.zr_names.specs.Tree.{Tree, null, mapping, sequence, items_of, members_of}
use Rattle.zr_yaml.specs.declared.scalar.Scalar.{Scalar}
use Rattle.zr_yaml.specs.declared.symbols.Bracket.{Bracket}
use Rattle.zr_yaml.specs.declared.symbols.Bracket.TheVariants.{Curly, Square}
use Rattle.zr_yaml.specs.declared.symbols.Piece.{Piece}
use Rattle.zr_yaml.specs.declared.symbols.Piece.TheVariants.{One, Open, Close, Colon}
use Rattle.zr_yaml.specs.declared.symbols.Symbol.{Symbol}
use Rattle.zr_yaml.specs.declared.symbols.Symbol.TheVariants.{More}
use Rattle.zr_yaml.specs.Lines.{is_text, without_return}
use Rattle.zr_yaml.specs.Reading.{Frame, dashes, keys, items, pairs, named, valued, State, ended, frame_tree, may_begin, symbols_step, tree_or_null}
use Rattle.zr_yaml.specs.Scalar.{ends_with}
use Rattle.zr_yaml.specs.Symbols.{Read, line_at, line_end, line_symbols, piece_at, pieces_at, with_piece, with_symbols}
use Rattle.zr_yaml.proofs.Holding.{Holds, Opened, Opener}
use Rattle.zr_yaml.proofs.Running.{at}
use Rattle.zr_yaml.proofs.Unclosed.{flows, no_flows}

-- ---- where no bracket is open, the text may end

not_flows : (c : ℕ) (dashed : Bool) (frames : List Frame) → may_begin c dashed frames ≡ true → flows frames ≡ 0
not_flows c dashed frames m = no_flows c dashed frames m

pub ended_some : (frames : List Frame) (before : List Symbol) (slot : Option Tree) → Opened frames before →
    flows frames ≡ 0 → (t : Tree) × (ended frames slot ≡ Some t)
ended_some [] before slot o n = (tree_or_null slot, refl)
ended_some (dashes i done ∷ frames) before slot (outer, own, e, o, room, (parts, eo, may, ds)) n =
    ended_some frames outer (Some (frame_tree (dashes i done) slot)) o (no_flows i true frames may)
ended_some (keys i done key ∷ frames) before slot (outer, own, e, o, room, (parts, eo, may, ks, differ, fresh)) n =
    ended_some frames outer (Some (frame_tree (keys i done key) slot)) o (no_flows i false frames may)
ended_some (items done ∷ frames) before slot o n = absurd (omega arith)
ended_some (pairs done ∷ frames) before slot o n = absurd (omega arith)
ended_some (named done key ∷ frames) before slot o n = absurd (omega arith)
ended_some (valued done key ∷ frames) before slot o n = absurd (omega arith)

-- ---- the brackets that close the frames

abbrev pub closers : List Frame → List ℕ
closers [] = []
closers (dashes i done ∷ frames) = []
closers (keys i done key ∷ frames) = []
closers (items done ∷ frames) = 93 ∷ closers frames
closers (pairs done ∷ frames) = 125 ∷ closers frames
closers (named done key ∷ frames) = 125 ∷ closers frames
closers (valued done key ∷ frames) = 125 ∷ closers frames

abbrev pub closing : List Frame → List Symbol
closing [] = []
closing (dashes i done ∷ frames) = []
closing (keys i done key ∷ frames) = []
closing (items done ∷ frames) = More (Close Square) ∷ closing frames
closing (pairs done ∷ frames) = More (Close Curly) ∷ closing frames
closing (named done key ∷ frames) = More (Close Curly) ∷ closing frames
closing (valued done key ∷ frames) = More (Close Curly) ∷ closing frames

-- a frame that a bracket may close
abbrev Closable : List Frame → Option Tree → Type 0
Closable (pairs done ∷ frames) (Some t) = ⊥
Closable (named done key ∷ frames) slot = ⊥
Closable (valued done key ∷ frames) None = ⊥
Closable frames slot = Unit {0}

-- outside of a bracket stands one in which a value is to come
outer_closable : (frames : List Frame) (p : Piece) (symbol : Symbol) (t : Tree) → Opener frames p symbol →
    Closable frames (Some t)
outer_closable [] p symbol t o = tt
outer_closable (dashes i done ∷ frames) p symbol t o = tt
outer_closable (keys i done key ∷ frames) p symbol t o = tt
outer_closable (items done ∷ frames) p symbol t o = tt
outer_closable (valued done key ∷ frames) p symbol t o = tt
outer_closable (pairs done ∷ frames) p symbol t (c, e, m) = cc
outer_closable (named done key ∷ frames) p symbol t (c, e, m) = cc

abbrev Closes : List Frame → Option Tree → Type 0
Closes frames slot = (x : State) × (symbols_step (at frames slot) (closing frames) ≡ Some x)

pub close_run : (frames : List Frame) (slot : Option Tree) (before : List Symbol) → Opened frames before →
    Closable frames slot → Closes frames slot
close_run [] slot before o c = (at [] slot, refl)
close_run (dashes i done ∷ frames) slot before o c = (at (dashes i done ∷ frames) slot, refl)
close_run (keys i done key ∷ frames) slot before o c = (at (keys i done key ∷ frames) slot, refl)
close_run (items done ∷ frames) None before (outer, own, e, o, room, (opener, pieces, eo, op, ds)) c =
    close_run frames (Some (sequence (items_of done))) outer o (outer_closable frames (Open Square) opener _ op)
close_run (items done ∷ frames) (Some t) before (outer, own, e, o, room, (opener, pieces, eo, op, ds)) c =
    close_run frames (Some (sequence (items_of (done ++ t ∷ [])))) outer o
    (outer_closable frames (Open Square) opener _ op)
close_run (pairs done ∷ frames) None before (outer, own, e, o, room, (opener, pieces, eo, op, ds, differ)) c =
    close_run frames (Some (mapping (members_of done))) outer o (outer_closable frames (Open Curly) opener _ op)
close_run (pairs done ∷ frames) (Some t) before o c = absurd c
close_run (named done key ∷ frames) slot before o c = absurd c
close_run (valued done key ∷ frames) None before o c = absurd c
close_run (valued done key ∷ frames) (Some t) before (
  outer,
  own,
  e,
  o,
  room,
  (opener, pieces, one, eo, op, ds, differ, ke, fresh),
) c =
    close_run frames (Some (mapping (members_of (done ++ (key, t) ∷ [])))) outer o
    (outer_closable frames (Open Curly) opener _ op)

-- ---- as a line

no_closers : (frames : List Frame) → flows frames ≡ 0 → (closers frames ≡ []) × (closing frames ≡ [])
no_closers [] n = (refl, refl)
no_closers (dashes i done ∷ frames) n = (refl, refl)
no_closers (keys i done key ∷ frames) n = (refl, refl)
no_closers (items done ∷ frames) n = absurd (omega arith)
no_closers (pairs done ∷ frames) n = absurd (omega arith)
no_closers (named done key ∷ frames) n = absurd (omega arith)
no_closers (valued done key ∷ frames) n = absurd (omega arith)

pub closers_length : (frames : List Frame) → length (closers frames) ≡ flows frames
closers_length [] = refl
closers_length (dashes i done ∷ frames) = refl
closers_length (keys i done key ∷ frames) = refl
closers_length (items done ∷ frames) = ap suc (closers_length frames)
closers_length (pairs done ∷ frames) = ap suc (closers_length frames)
closers_length (named done key ∷ frames) = ap suc (closers_length frames)
closers_length (valued done key ∷ frames) = ap suc (closers_length frames)

abbrev Lexes : List Frame → Type 0
Lexes frames = (n : ℕ) (spaced : Bool) → 0 < flows frames → flows frames < n →
    pieces_at n (flows frames) spaced (closers frames) ≡ Some (closing frames, 0)

-- what comes behind the first bracket
rest_lexes : (frames : List Frame) → Lexes frames → (n count : ℕ) (kind : Bracket) → count ≡ flows frames →
    flows frames < n → (b : Bool) → (flows frames == 0) ≡ b
    → with_symbols (More (Close kind) ∷ [])
    (cond (count == 0) (line_end (closers frames)) (pieces_at n count false (closers frames)))
    ≡ Some (More (Close kind) ∷ closing frames, 0)
rest_lexes frames go n count kind same fits true test =
    let none = no_closers frames (zero_test (flows frames) test) in
    let ended : (count == 0) ≡ true = ap (λ m. m == 0) same ∙ test in
    ap (λ (b : Bool). with_symbols (More (Close kind) ∷ [])
    (cond b (line_end (closers frames)) (pieces_at n count false (closers frames)))) ended
    ∙ ap (λ bs. with_symbols (More (Close kind) ∷ []) (line_end bs)) none.0
    ∙ ap (λ ss. Some (More (Close kind) ∷ ss, 0)) (sym none.1)
  where
    zero_test : (n : ℕ) → (n == 0) ≡ true → n ≡ 0
    zero_test n h = grind (arith, nat_tests)
rest_lexes frames go n count kind same fits false test =
    let goes : (count == 0) ≡ false = ap (λ m. m == 0) same ∙ test in
    ap (λ (b : Bool). with_symbols (More (Close kind) ∷ [])
    (cond b (line_end (closers frames)) (pieces_at n count false (closers frames)))) goes
    ∙ ap (λ m. with_symbols (More (Close kind) ∷ []) (pieces_at n m false (closers frames))) same
    ∙ ap (with_symbols (More (Close kind) ∷ [])) (go n false (some_test (flows frames) test) fits)
  where
    some_test : (n : ℕ) → (n == 0) ≡ false → 0 < n
    some_test n h = grind (arith, nat_tests)

one_less : (m : ℕ) → suc m - 1 ≡ m
one_less m = omega arith

square_lexes : (frames : List Frame) → Lexes frames → (n : ℕ) (spaced : Bool) → suc (flows frames) < n →
    pieces_at n (suc (flows frames)) spaced (93 ∷ closers frames) ≡ Some (More (Close Square) ∷ closing frames, 0)
square_lexes frames go zero spaced fits = absurd (omega arith)
square_lexes frames go (suc n) true fits =
    rest_lexes frames go n (suc (flows frames) - 1) Square (one_less (flows frames)) (omega arith)
    (flows frames == 0) refl
square_lexes frames go (suc n) false fits =
    rest_lexes frames go n (suc (flows frames) - 1) Square (one_less (flows frames)) (omega arith)
    (flows frames == 0) refl

curly_lexes : (frames : List Frame) → Lexes frames → (n : ℕ) (spaced : Bool) → suc (flows frames) < n →
    pieces_at n (suc (flows frames)) spaced (125 ∷ closers frames) ≡ Some (More (Close Curly) ∷ closing frames, 0)
curly_lexes frames go zero spaced fits = absurd (omega arith)
curly_lexes frames go (suc n) true fits =
    rest_lexes frames go n (suc (flows frames) - 1) Curly (one_less (flows frames)) (omega arith)
    (flows frames == 0) refl
curly_lexes frames go (suc n) false fits =
    rest_lexes frames go n (suc (flows frames) - 1) Curly (one_less (flows frames)) (omega arith)
    (flows frames == 0) refl

pub closers_lex : (frames : List Frame) → Lexes frames
closers_lex [] = λ n spaced some fits. absurd (omega arith)
closers_lex (dashes i done ∷ frames) = λ n spaced some fits. absurd (omega arith)
closers_lex (keys i done key ∷ frames) = λ n spaced some fits. absurd (omega arith)
closers_lex (items done ∷ frames) = λ n spaced some fits. square_lexes frames (closers_lex frames) n spaced fits
closers_lex (pairs done ∷ frames) = λ n spaced some fits. curly_lexes frames (closers_lex frames) n spaced fits
closers_lex (named done key ∷ frames) = λ n spaced some fits. curly_lexes frames (closers_lex frames) n spaced fits
closers_lex (valued done key ∷ frames) = λ n spaced some fits. curly_lexes frames (closers_lex frames) n spaced fits

-- ---- a Null before them

abbrev null_scalar : Scalar
null_scalar = record { bytes = 126 ∷ []; quoted = false }

null_piece : (b : ℕ) (bs : List ℕ) → (b ≡ 93) ⊎ (b ≡ 125) → piece_at (126 ∷ b ∷ bs) ≡ Some (One null_scalar, b ∷ bs)
null_piece b bs (inl e) =
    subst (λ (c : ℕ). piece_at (126 ∷ c ∷ bs) ≡ Some (One null_scalar, c ∷ bs)) (sym e) (square bs)
  where
    square : (bs : List ℕ) → piece_at (126 ∷ 93 ∷ bs) ≡ Some (One null_scalar, 93 ∷ bs)
    square bs = let none : length (93 ∷ bs) - length (93 ∷ bs) ≡ 0 = omega arith in rw none refl
null_piece b bs (inr e) = subst (λ (c : ℕ). piece_at (126 ∷ c ∷ bs) ≡ Some (One null_scalar, c ∷ bs)) (sym e) (curly bs)
  where
    curly : (bs : List ℕ) → piece_at (126 ∷ 125 ∷ bs) ≡ Some (One null_scalar, 125 ∷ bs)
    curly bs = let none : length (125 ∷ bs) - length (125 ∷ bs) ≡ 0 = omega arith in rw none refl

-- ---- the line is a line

abbrev Plain : List ℕ → Type 0
Plain [] = Unit {0}
Plain (b ∷ bs) = (b < 128) × ((b ≡ 13) → ⊥) × Plain bs

closers_plain : (frames : List Frame) → Plain (closers frames)
closers_plain [] = tt
closers_plain (dashes i done ∷ frames) = tt
closers_plain (keys i done key ∷ frames) = tt
closers_plain (items done ∷ frames) = (omega arith, (λ e. omega arith), closers_plain frames)
closers_plain (pairs done ∷ frames) = (omega arith, (λ e. omega arith), closers_plain frames)
closers_plain (named done key ∷ frames) = (omega arith, (λ e. omega arith), closers_plain frames)
closers_plain (valued done key ∷ frames) = (omega arith, (λ e. omega arith), closers_plain frames)

plain_at : (bs : List ℕ) (i : ℕ) → Plain bs → (get_or bs i 0 < 128) × (get_or bs i 0 ≡ 13 → ⊥)
plain_at [] i p = (omega arith, λ e. omega arith)
plain_at (b ∷ bs) zero p = (p.0, p.1)
plain_at (b ∷ bs) (suc i) p = plain_at bs i p.2

pub plain_text : (bs : List ℕ) → Plain bs → is_text bs ≡ true
plain_text bs p = let whole =
    utf8_valid_len-IsUtf8 bs (IsUtf8-from_ascii bs (λ i. (plain_at bs i p).0)) in grind (arith, nat_tests)

pub plain_return : (bs : List ℕ) → Plain bs → without_return bs ≡ bs
plain_return bs p =
    let other = (plain_at bs (length bs - 1) p).1 in
    let test : (get_or bs (length bs - 1) 0 == 13) ≡ false = grind (arith, nat_tests) in
    let same : ends_with 13 bs ≡ false = never (nat_lt 0 (length bs)) (get_or bs (length bs - 1) 0 == 13) test in
    ap (λ (b : Bool). cond b (take (length bs - 1) bs) bs) same
  where
    never : (a b : Bool) → b ≡ false → (a && b) ≡ false
    never true b h = h
    never false b h = refl

-- ---- the line that closes

not_zero : (n : ℕ) → (suc n == 0) ≡ false
not_zero n = grind (arith, nat_tests)

null_lexes : (frames : List Frame) (n : ℕ) (spaced : Bool) → suc (flows frames) < n →
    pieces_at (suc n) (suc (flows frames)) spaced (126 ∷ 125 ∷ closers frames)
    ≡ Some (More (One null_scalar) ∷ More (Close Curly) ∷ closing frames, 0)
null_lexes frames n true fits =
    ap (with_piece (λ o rest. pieces_at n o false rest) (suc (flows frames)))
    (null_piece 125 (closers frames) (inr refl))
    ∙ ap (λ (b : Bool). with_symbols (More (One null_scalar) ∷ [])
    (cond b (line_end (125 ∷ closers frames)) (pieces_at n (suc (flows frames)) false (125 ∷ closers frames))))
    (not_zero (flows frames))
    ∙ ap (with_symbols (More (One null_scalar) ∷ [])) (curly_lexes frames (closers_lex frames) n false fits)
null_lexes frames n false fits =
    ap (with_piece (λ o rest. pieces_at n o false rest) (suc (flows frames)))
    (null_piece 125 (closers frames) (inr refl))
    ∙ ap (λ (b : Bool). with_symbols (More (One null_scalar) ∷ [])
    (cond b (line_end (125 ∷ closers frames)) (pieces_at n (suc (flows frames)) false (125 ∷ closers frames))))
    (not_zero (flows frames))
    ∙ ap (with_symbols (More (One null_scalar) ∷ [])) (curly_lexes frames (closers_lex frames) n false fits)

-- the same behind a blank
blank_lexes : (frames : List Frame) (n : ℕ) → suc (flows frames) < n →
    pieces_at (suc n) (suc (flows frames)) false (32 ∷ 126 ∷ 125 ∷ closers frames)
    ≡ Some (More (One null_scalar) ∷ More (Close Curly) ∷ closing frames, 0)
blank_lexes frames n fits = null_lexes frames n true fits

colon_lexes : (frames : List Frame) (n : ℕ) → suc (flows frames) < n
    → pieces_at (suc (suc n)) (suc (flows frames)) true (58 ∷ 32 ∷ 126 ∷ 125 ∷ closers frames)
    ≡ Some (More Colon ∷ More (One null_scalar) ∷ More (Close Curly) ∷ closing frames, 0)
colon_lexes frames n fits =
    ap (λ (b : Bool). with_symbols (More Colon ∷ [])
    (cond b (line_end (32 ∷ 126 ∷ 125 ∷ closers frames))
    (pieces_at (suc n) (suc (flows frames)) false (32 ∷ 126 ∷ 125 ∷ closers frames)))) (not_zero (flows frames))
    ∙ ap (with_symbols (More Colon ∷ [])) (blank_lexes frames n fits)

-- a line that leads from a state to one without open brackets
pub record ClosingLine (frames : List Frame) (slot : Option Tree) : Type 0 where
  pub line : List ℕ
  pub plain : Plain line
  pub symbols : List Symbol
  pub says : line_symbols (flows frames) line ≡ Some (symbols, 0)
  pub state : State
  pub runs : symbols_step (at frames slot) symbols ≡ Some state

in_brackets : (m : ℕ) (line : List ℕ) (read : Option Read) →
    pieces_at (suc (length line)) (suc m) true line ≡ read → line_symbols (suc m) line ≡ read
in_brackets m line read e =
    ap (λ (b : Bool). cond b (line_at (length line) line) (pieces_at (suc (length line)) (suc m) true line))
    (not_zero m) ∙ e

by_closers : (frames : List Frame) (slot : Option Tree) (before : List Symbol) → Opened frames before →
    Closable frames slot → (m : ℕ) → flows frames ≡ suc m → ClosingLine frames slot
by_closers frames slot before o c m same =
    let run = close_run frames slot before o c in
    let fits : flows frames < suc (length (closers frames)) = omega (arith, closers_length frames) in
    record {
      line = closers frames;
      plain = closers_plain frames;
      symbols = closing frames;
      says = ap (λ n. line_symbols n (closers frames)) same
          ∙ in_brackets m (closers frames) (Some (
            closing frames,
            0,
          )) (ap (λ n. pieces_at (suc (length (closers frames))) n true (closers frames)) (sym same)
          ∙ closers_lex frames (suc (length (closers frames))) true (omega (arith, same)) fits);
      state = run.0;
      runs = run.1;
    }

pub closing_line : (frames : List Frame) (slot : Option Tree) (symbols : List Symbol) → Holds frames slot symbols →
    0 < flows frames → ClosingLine frames slot
closing_line [] slot symbols h some = absurd (omega arith)
closing_line (dashes i done ∷ frames) slot symbols h some = absurd (omega arith)
closing_line (keys i done key ∷ frames) slot symbols h some = absurd (omega arith)
closing_line (items done ∷ frames) None symbols (before, inner, e, o, f) some =
    by_closers (items done ∷ frames) None before o tt (flows frames) refl
closing_line (items done ∷ frames) (Some t) symbols (before, inner, e, o, f) some =
    by_closers (items done ∷ frames) (Some t) before o tt (flows frames) refl
closing_line (pairs done ∷ frames) None symbols (before, inner, e, o, f) some =
    by_closers (pairs done ∷ frames) None before o tt (flows frames) refl
closing_line (pairs done ∷ frames) (Some t) symbols (before, inner, e, o, f) some = absurd f
closing_line (named done key ∷ frames) (Some t) symbols (before, inner, e, o, f) some = absurd f
closing_line (named done key ∷ frames) None symbols (
  before,
  inner,
  e,
  (outer, own, eb, op, room, (opener, pieces, one, eo, opens, ds, differ, ke, fresh)),
  f,
) some =
    let run = close_run (valued done key ∷ frames) (Some null)
    (outer ++ opener ∷ map More (pieces ++ One one ∷ Colon ∷ [])) (
      outer,
      opener ∷ map More (pieces ++ One one ∷ Colon ∷ []),
      refl,
      op,
      room,
      (opener, pieces, one, refl, opens, ds, differ, ke, fresh),
    ) tt in
    record {
      line = 58 ∷ 32 ∷ 126 ∷ 125 ∷ closers frames;
      plain = (
        omega arith,
        (λ e. omega arith),
        (
          omega arith,
          (λ e. omega arith),
          (omega arith, (λ e. omega arith), (omega arith, (λ e. omega arith), closers_plain frames)),
        ),
      );
      symbols = More Colon ∷ More (One null_scalar) ∷ More (Close Curly) ∷ closing frames;
      says = in_brackets (flows frames) (58 ∷ 32 ∷ 126 ∷ 125 ∷ closers frames) _
          (colon_lexes frames (suc (suc (suc (length (closers frames))))) (omega (arith, closers_length frames)));
      state = run.0;
      runs = run.1;
    }
closing_line (valued done key ∷ frames) (Some t) symbols (before, inner, e, o, f) some =
    by_closers (valued done key ∷ frames) (Some t) before o tt (flows frames) refl
closing_line (valued done key ∷ frames) None symbols (before, inner, e, o, f) some =
    let run = close_run (valued done key ∷ frames) (Some null) before o tt in
    record {
      line = 126 ∷ 125 ∷ closers frames;
      plain = (omega arith, (λ e. omega arith), (omega arith, (λ e. omega arith), closers_plain frames));
      symbols = More (One null_scalar) ∷ More (Close Curly) ∷ closing frames;
      says = in_brackets (flows frames) (126 ∷ 125 ∷ closers frames) _
          (null_lexes frames (suc (suc (length (closers frames)))) true (omega (arith, closers_length frames)));
      state = run.0;
      runs = run.1;
    }
