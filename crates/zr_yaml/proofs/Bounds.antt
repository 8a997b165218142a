-- A line opens no more brackets than it has bytes.
use Rattle.std.proofs.Common.{◌≡◌, ℕ, zero, suc, ◌+◌, ◌-◌, ◌≤◌, Bool, true, false, cond, ◌==◌, List, [], ◌∷◌, length, drop, Option, Some, None, refl, sym, ap, subst, ◌∙◌, take, arith}
use Rattle.std.proofs.lemmas.Bool.Decides.{nat_tests}
use Rattle.std.proofs.lemmas.List.{length-drop, take_all}
use Rattle.zr_yaml.specs.declared.scalar.Scalar.{Scalar}
use Rattle.zr_yaml.specs.declared.symbols.Bracket.{Bracket}
use Rattle.zr_yaml.specs.declared.symbols.Front.{Front}
use Rattle.zr_yaml.specs.declared.symbols.Front.TheVariants.{Nothing, Blank, Dashed, Content}
use Rattle.zr_yaml.specs.declared.symbols.Piece.{Piece}
use Rattle.zr_yaml.specs.declared.symbols.Piece.TheVariants.{One, Open}
use Rattle.zr_yaml.specs.declared.symbols.Symbol.{Symbol}
use Rattle.zr_yaml.specs.declared.symbols.Symbol.TheVariants.{Dash, Key, Value, More}
use Rattle.zr_yaml.specs.Lines.{content_from, contents_from, is_text, lines_of}
use Rattle.zr_yaml.specs.Reading.{State, counted, line_read, line_step, lines_step, symbols_step, then_lines}
use Rattle.zr_yaml.specs.Scan.{after_gap}
use Rattle.zr_yaml.specs.Scalar.{scalar_at}
use Rattle.zr_yaml.specs.Symbols.{Read, begins_value, content_at, front_of, key_found, line_at, line_by, line_end, line_symbols, lone_found, nothing_left, open_after, opened_by, opens, piece_at, pieces_at, pieces_from, value_at, value_behind, value_from, with_piece, with_symbols}
use Rattle.zr_yaml.proofs.Pieces.{fits_after}
use Rattle.zr_yaml.proofs.Within.{gap_within, piece_within, scalar_within}

-- what is answered beside is at most so much
abbrev pub Bounded : {X : Type 0} → ℕ → Option (X × ℕ) → Type 0
Bounded n None = Unit {0}
Bounded n (Some x) = x.1 ≤ n

looser : {X : Type 0} (n m : ℕ) (read : Option (X × ℕ)) → n ≤ m → Bounded n read → Bounded m read
looser n m None le h = tt
looser n m (Some x) le h = omega (arith, le, h)

either : {X : Type 0} (n : ℕ) (test : Bool) (a b : Option (X × ℕ)) → Bounded n a → Bounded n b →
    Bounded n (cond test a b)
either n true a b h k = h
either n false a b h k = k

symbols_bounded : (n : ℕ) (symbols : List Symbol) (read : Option Read) → Bounded n read →
    Bounded n (with_symbols symbols read)
symbols_bounded n symbols None h = tt
symbols_bounded n symbols (Some x) h = h

nothing_bounded : (n : ℕ) (rest : List ℕ) → Bounded n (nothing_left rest)
nothing_bounded n [] = omega arith
nothing_bounded n (b ∷ bs) = tt

end_bounded : (n : ℕ) (rest : List ℕ) → Bounded n (line_end rest)
end_bounded n rest = nothing_bounded n (after_gap false rest)

abbrev Goes : ℕ → Type 0
Goes n = (unclosed : ℕ) (spaced : Bool) (bytes : List ℕ) →
    Bounded (unclosed + length bytes) (pieces_at n unclosed spaced bytes)

piece_bounded : (n : ℕ) → Goes n → (unclosed : ℕ) (b : ℕ) (bs : List ℕ) (found : Option (Piece × List ℕ)) →
    piece_at (b ∷ bs) ≡ found
    → Bounded (unclosed + suc (length bs)) (with_piece (λ o rest. pieces_at n o false rest) unclosed found)
piece_bounded n go unclosed b bs None e = tt
piece_bounded n go unclosed b bs (Some x) e =
    let short = piece_within (b ∷ bs) x e in
    let fits = fits_after unclosed x.0 in
    let le : open_after unclosed x.0 + length x.1 ≤ unclosed + suc (length bs) = omega (arith, short, fits) in
    symbols_bounded (unclosed + suc (length bs)) (More x.0 ∷ []) _
    (either (unclosed + suc (length bs)) (open_after unclosed x.0 == 0) (line_end x.1)
    (pieces_at n (open_after unclosed x.0) false x.1) (end_bounded _ x.1)
    (looser _ _ (pieces_at n (open_after unclosed x.0) false x.1) le (go (open_after unclosed x.0) false x.1)))

from_bounded : (n : ℕ) → Goes n → (unclosed : ℕ) (rest : List ℕ) →
    Bounded (unclosed + length rest) (pieces_from (λ o more. pieces_at n o false more) unclosed rest)
from_bounded n go unclosed [] = omega arith
from_bounded n go unclosed (b ∷ bs) = piece_bounded n go unclosed b bs (piece_at (b ∷ bs)) refl

pieces_bounded : (n : ℕ) → Goes n
pieces_bounded zero = λ unclosed spaced bytes. tt
pieces_bounded (suc n) = λ unclosed spaced bytes.
    let gap = gap_within spaced bytes in
    let le : unclosed + length (after_gap spaced bytes) ≤ unclosed + length bytes = omega (arith, gap) in
    looser _ _ (pieces_at (suc n) unclosed spaced bytes) le
    (from_bounded n (pieces_bounded n) unclosed (after_gap spaced bytes))

lone_bounded : (n column : ℕ) (found : Option (Scalar × List ℕ)) → Bounded n (lone_found column found)
lone_bounded n column None = tt
lone_bounded n column (Some x) = symbols_bounded n (Value column (One x.0) ∷ []) (line_end x.1) (end_bounded n x.1)

value_from_bounded : (column : ℕ) (kind : Option Bracket) (b : ℕ) (bs : List ℕ) →
    Bounded (suc (length bs)) (value_from column kind (b ∷ bs) bs)
value_from_bounded column None b bs = lone_bounded (suc (length bs)) column (scalar_at false (b ∷ bs))
value_from_bounded column (Some kind) b bs =
    let le : 1 + length bs ≤ suc (length bs) = omega arith in
    symbols_bounded (suc (length bs)) (Value column (Open kind) ∷ []) _
    (looser _ _ (pieces_at (suc (length bs)) 1 false bs) le (pieces_bounded (suc (length bs)) 1 false bs))

value_bounded : (column : ℕ) (bytes : List ℕ) → Bounded (length bytes) (value_at column bytes)
value_bounded column [] = omega arith
value_bounded column (b ∷ bs) = value_from_bounded column (opened_by b) b bs

key_bounded : (width column : ℕ) (bytes : List ℕ) (found : Option (Scalar × List ℕ)) →
    scalar_at false bytes ≡ found → Bounded (length bytes) (key_found width column found)
key_bounded width column bytes None e = tt
key_bounded width column bytes (Some x) e =
    let short = scalar_within false bytes x e in
    let gap = gap_within false (drop 1 x.1) in
    let cut : length (drop 1 x.1) ≡ length x.1 - 1 = length-drop 1 x.1 in
    let le : length (after_gap false (drop 1 x.1)) ≤ length bytes = omega (arith, short, gap, cut) in
    either (length bytes) (begins_value x.1) _ _
    (symbols_bounded (length bytes) (Key column x.0.bytes ∷ []) _
    (looser _ _ (value_behind width (after_gap false (drop 1 x.1))) le
    (value_bounded _ (after_gap false (drop 1 x.1)))))
    (symbols_bounded (length bytes) (Value column (One x.0) ∷ []) (line_end x.1) (end_bounded _ x.1))

content_bounded : (width : ℕ) (bytes : List ℕ) → Bounded (length bytes) (content_at width bytes)
content_bounded width bytes =
    either (length bytes) (opens bytes) _ _ (value_bounded (width - length bytes) bytes)
    (key_bounded width (width - length bytes) bytes (scalar_at false bytes) refl)

by_bounded : (n : ℕ) (front : Front) (width : ℕ) (bytes : List ℕ) (rest : Option Read) → length bytes ≤ n →
    Bounded n rest → Bounded n (line_by front width bytes rest)
by_bounded n Nothing width bytes rest le h = omega arith
by_bounded n Blank width bytes rest le h = h
by_bounded n Dashed width bytes rest le h = symbols_bounded n (Dash (width - length bytes) ∷ []) rest h
by_bounded n Content width bytes rest le h = looser _ _ (content_at width bytes) le (content_bounded width bytes)

line_bounded : (width : ℕ) (bytes : List ℕ) → Bounded (length bytes) (line_at width bytes)
line_bounded width [] = omega arith
line_bounded width (b ∷ bs) =
    let le : length bs ≤ suc (length bs) = omega arith in
    let same : suc (length bs) ≤ suc (length bs) = omega arith in
    by_bounded (suc (length bs)) (front_of (b ∷ bs)) width (b ∷ bs) (line_at width bs) same
    (looser _ _ (line_at width bs) le (line_bounded width bs))

symbols_of_bounded : (unclosed : ℕ) (bytes : List ℕ) → Bounded (unclosed + length bytes) (line_symbols unclosed bytes)
symbols_of_bounded unclosed bytes =
    let le : length bytes ≤ unclosed + length bytes = omega arith in
    either (unclosed + length bytes) (unclosed == 0) _ _
    (looser _ _ (line_at (length bytes) bytes) le (line_bounded (length bytes) bytes))
    (pieces_bounded (suc (length bytes)) unclosed true bytes)

counted_bounded : (n unclosed : ℕ) (s : Option State) → unclosed ≤ n → Bounded n (counted unclosed s)
counted_bounded n unclosed None le = tt
counted_bounded n unclosed (Some s) le = le

read_bounded : (n : ℕ) (s : State) (read : Option Read) → Bounded n read → Bounded n (line_read s read)
read_bounded n s None h = tt
read_bounded n s (Some x) h = counted_bounded n x.1 (symbols_step s x.0) h

step_bounded : (s : State) (unclosed : ℕ) (line : List ℕ) → Bounded (unclosed + length line) (line_step s unclosed line)
step_bounded s unclosed line =
    either (unclosed + length line) (is_text line) _ None
    (read_bounded (unclosed + length line) s (line_symbols unclosed line) (symbols_of_bounded unclosed line)) tt

-- how many brackets are open behind a line
pub count_bounded : (s next : State) (unclosed count : ℕ) (line : List ℕ) →
    line_step s unclosed line ≡ Some (next, count) → count ≤ unclosed + length line
count_bounded s next unclosed count line e =
    subst (Bounded {X = State} (unclosed + length line)) e (step_bounded s unclosed line)

none_first : (good : ℕ) → (good + 1 == 0) ≡ false
none_first good = grind (arith, nat_tests)

-- one line more
pub good_line : (good : ℕ) (s : State) (unclosed : ℕ) (text line after content : List ℕ) (next : State)
    (count : ℕ) → lines_of text ≡ line ∷ lines_of after → content ≡ content_from (good == 0) line
    → line_step s unclosed content ≡ Some (next, count)
    → lines_step good (s, unclosed) (contents_from (good == 0) (lines_of text)) ≡ lines_step (good + 1) (
      next,
      count,
    ) (contents_from (good + 1 == 0) (lines_of after))
good_line good s unclosed text line after content next count cut e step =
    let one : suc good ≡ good + 1 = omega arith in
    ap (λ ls. lines_step good (s, unclosed) (contents_from (good == 0) ls)) cut
    ∙ ap (λ c. lines_step good (s, unclosed) (c ∷ contents_from false (lines_of after))) (sym e)
    ∙ ap (then_lines good (λ x. lines_step (suc good) x (contents_from false (lines_of after)))) step
    ∙ ap (λ n. lines_step n (next, count) (contents_from false (lines_of after))) one
    ∙ ap (λ f. lines_step (good + 1) (next, count) (contents_from f (lines_of after))) (sym (none_first good))

-- what is left behind a front
pub rest_of : (n : ℕ) (text : List ℕ) → take (length text - n) (drop n text) ≡ drop n text
rest_of n text = take_all (length text - n) (drop n text) (omega (arith, length-drop n text))
