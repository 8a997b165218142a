-- The loops over the pieces of a line.
use Rattle.std.proofs.Common.{◌≡◌, ℕ, zero, suc, ◌+◌, ◌-◌, ◌<◌, ◌≤◌, Bool, true, false, cond, ◌==◌, List, [], ◌∷◌, ◌++◌, length, drop, Option, Some, None, Result, Ok, Err, refl, sym, ap, subst, ◌∙◌, append_assoc, arith}
use Rattle.std.proofs.lemmas.List.{length-drop}
use Rattle.std.proofs.lemmas.Bool.Decides.{nat_tests}
use Rattle.zr_yaml.specs.declared.fault.Stop.{Stop}
use Rattle.zr_yaml.specs.declared.fault.Stop.TheVariants.{Bad, NoMemory}
use Rattle.zr_yaml.specs.declared.scalar.Scalar.{Scalar}
use Rattle.zr_yaml.specs.declared.symbols.Front.{Front}
use Rattle.zr_yaml.specs.declared.symbols.Front.TheVariants.{Nothing, Dashed}
use Rattle.zr_yaml.specs.declared.symbols.Piece.{Piece}
use Rattle.zr_yaml.specs.declared.symbols.Piece.TheVariants.{One, Open, Close, Comma, Colon}
use Rattle.zr_yaml.specs.declared.symbols.Symbol.{Symbol}
use Rattle.zr_yaml.specs.declared.symbols.Symbol.TheVariants.{Dash, Key, Value, More}
use Rattle.zr_yaml.specs.Scan.{after_gap}
use Rattle.zr_yaml.specs.Scalar.{scalar_at}
use Rattle.zr_yaml.specs.Symbols.{Adds, Read, begins_value, content_at, key_found, opens, value_at, value_behind, front_of, line_at, line_by, line_end, open_after, piece_at, pieces_at, pieces_from, with_piece, with_symbols}
use Rattle.zr_yaml.proofs.Within.{gap_within, piece_within, scalar_within}

pub with_symbols_append : (a b : List Symbol) (read : Option Read) →
    with_symbols (a ++ b) read ≡ with_symbols a (with_symbols b read)
with_symbols_append a b None = refl
with_symbols_append a b (Some x) = rw append_assoc refl

abbrev pub from : ℕ → ℕ → List ℕ → Option Read
from n unclosed rest = pieces_from (λ o more. pieces_at n o false more) unclosed rest

-- one piece, and then those after it
pub from_piece : (n unclosed : ℕ) (rest after : List ℕ) (piece : Piece) → length rest ≤ n →
    piece_at rest ≡ Some (piece, after) → (open_after unclosed piece == 0) ≡ false
    → (m : ℕ) × (length (after_gap false after) ≤ m)
    × (from n unclosed rest
    ≡ with_symbols (More piece ∷ []) (from m (open_after unclosed piece) (after_gap false after)))
from_piece n unclosed [] after piece le e some = absurd cc
from_piece zero unclosed (b ∷ bs) after piece le e some = absurd (omega arith)
from_piece (suc m) unclosed (b ∷ bs) after piece le e some =
    let short = piece_within (b ∷ bs) (piece, after) e in
    let gap = gap_within false after in (
      m,
      omega (arith, short, gap),
      ap (with_piece (λ o more. pieces_at (suc m) o false more) unclosed) e
          ∙ ap (λ (t : Bool). with_symbols (More piece ∷ [])
          (cond t (line_end after) (pieces_at (suc m) (open_after unclosed piece) false after))) some,
    )

-- what a line says goes by its front
pub line_step : (width : ℕ) (rest : List ℕ) →
    line_at width rest ≡ line_by (front_of rest) width rest (line_at width (drop 1 rest))
line_step width [] = refl
line_step width (b ∷ bs) = refl

-- what goes on is not empty
pub goes_on : (rest : List ℕ) (front : Front) → front ≡ front_of rest → (front ≡ Nothing → ⊥) → 0 < length rest
goes_on [] front e other = absurd (other e)
goes_on (b ∷ bs) front e other = omega arith

pub has_value : (rest : List ℕ) → begins_value rest ≡ true → 0 < length rest
has_value [] e = cc
has_value (b ∷ bs) e = omega arith

abbrev pub Reads : List Symbol → ℕ → List ℕ → List Symbol → ℕ → Bool → List ℕ → Type 0
Reads symbols unclosed rest first opened spaced text = record {
  n : ℕ;
  enough : length rest ≤ n;
  room : unclosed + length rest ≤ opened + length text;
  same : with_symbols symbols (from n unclosed rest)
      ≡ with_symbols first (pieces_at (suc (length text)) opened spaced text);
}

pub from_same : (unclosed : ℕ) (spaced : Bool) (text : List ℕ) (first : List Symbol) (rest : List ℕ) →
    rest ≡ after_gap spaced text → Reads first unclosed rest first unclosed spaced text
from_same unclosed spaced text first rest e =
    let gap = gap_within spaced text in
    let shorter : length rest ≤ length text = omega (arith, gap, ap length e) in
    record {
      n = length text;
      enough = shorter;
      room = omega (arith, shorter);
      same = ap (λ r. with_symbols first (from (length text) unclosed r)) e;
    }

pub fits_after : (unclosed : ℕ) (piece : Piece) → open_after unclosed piece ≤ unclosed + 1
fits_after unclosed (One s) = omega arith
fits_after unclosed (Open kind) = omega arith
fits_after unclosed (Close kind) = omega arith
fits_after unclosed Comma = omega arith
fits_after unclosed Colon = omega arith

test_false : (n : ℕ) → (n ≡ 0 → ⊥) → (n == 0) ≡ false
test_false zero h = absurd (h refl)
test_false (suc n) h = grind (arith, nat_tests)

pub pushed : (symbols : List Symbol) (unclosed : ℕ) (rest : List ℕ) (first : List Symbol) (opened : ℕ)
    (spaced : Bool) (text : List ℕ) (piece : Piece) (after : List ℕ) (now : ℕ) (more : List Symbol) (next : List ℕ)
    → Reads symbols unclosed rest first opened spaced text → piece_at rest ≡ Some (piece, after) →
    now ≡ open_after unclosed piece → (now ≡ 0 → ⊥) → more ≡ symbols ++ More piece ∷ [] →
    next ≡ after_gap false after
    → Reads more now next first opened spaced text
pushed symbols unclosed rest first opened spaced text piece after now more next r e o some m g =
    let other : (open_after unclosed piece == 0) ≡ false = test_false (open_after unclosed piece) (λ z. some (o ∙ z)) in
    let step = from_piece r.n unclosed rest after piece r.enough e other in
    let short = piece_within rest (piece, after) e in
    let gap = gap_within false after in
    let fits = fits_after unclosed piece in
    let size = ap length g in
    record {
      n = step.0;
      enough = subst (λ (t : List ℕ). length t ≤ step.0) (sym g) step.1;
      room = omega (arith, short, gap, fits, size, r.room, o);
      same = let f : ℕ → List ℕ → Option Read = from step.0 in ap (λ s. with_symbols s (f now next)) m
          ∙ with_symbols_append symbols (More piece ∷ []) (f now next)
          ∙ ap (λ (t : Option Read). with_symbols symbols (with_symbols (More piece ∷ []) t))
          (ap (λ o'. f o' next) o ∙ ap (f (open_after unclosed piece)) g)
          ∙ ap (with_symbols symbols) (sym step.2) ∙ r.same;
    }

-- a dash more
pub dashed : (width : ℕ) (first symbols more : List Symbol) (text rest next : List ℕ) →
    with_symbols symbols (line_at width rest) ≡ with_symbols first (line_at width text)
    → Dashed ≡ front_of rest → more ≡ symbols ++ Dash (width - length rest) ∷ [] → next ≡ drop 1 rest →
    with_symbols more (line_at width next) ≡ with_symbols first (line_at width text)
dashed width first symbols more text rest next same front m n =
    ap (λ s. with_symbols s (line_at width next)) m
    ∙ with_symbols_append symbols (Dash (width - length rest) ∷ []) (line_at width next)
    ∙ ap (λ r. with_symbols symbols (with_symbols (Dash (width - length rest) ∷ []) (line_at width r))) n
    ∙ ap (with_symbols symbols) (ap (λ f. line_by f width rest (line_at width (drop 1 rest))) front
    ∙ sym (line_step width rest)) ∙ same

-- a symbol before those that a function adds
pub adds_more : (old mid new : List Symbol) (symbol : Symbol) (result : Result ℕ Stop) (read : Option Read) →
    mid ≡ old ++ symbol ∷ [] → Adds mid new result read → Adds old new result (with_symbols (symbol ∷ []) read)
adds_more old mid new symbol (Ok n) read m h = sym (with_symbols_append old (symbol ∷ []) read)
    ∙ ap (λ s. with_symbols s read) (sym m) ∙ h
adds_more old mid new symbol (Err Bad) read m h = ap (with_symbols (symbol ∷ [])) h
adds_more old mid new symbol (Err NoMemory) read m h = h

-- a key and its value
pub keyed : (width : ℕ) (text : List ℕ) (one : Scalar) (rest : List ℕ) → opens text ≡ false →
    scalar_at false text ≡ Some (one, rest) → begins_value rest ≡ true
    → content_at width text
    ≡ with_symbols (Key (width - length text) one.bytes ∷ [])
    (value_behind width (after_gap false (drop 1 rest)))
keyed width text one rest o s b =
    ap (λ (t : Bool). cond t (value_at (width - length text) text)
    (key_found width (width - length text) (scalar_at false text))) o
    ∙ ap (key_found width (width - length text)) s
    ∙ ap (λ (t : Bool). cond t
    (with_symbols (Key (width - length text) one.bytes ∷ [])
    (value_behind width (after_gap false (drop 1 rest))))
    (with_symbols (Value (width - length text) (One one) ∷ []) (line_end rest))) b

pub adds_keyed : (old mid new : List Symbol) (width : ℕ) (text : List ℕ) (one : Scalar) (rest after left : List ℕ)
    (result : Result ℕ Stop) → opens text ≡ false → scalar_at false text ≡ Some (one, rest) →
    begins_value rest ≡ true
    → mid ≡ old ++ Key (width - length text) one.bytes ∷ [] → after ≡ drop 1 rest → left ≡ after_gap false after →
    Adds mid new result (value_at (width - length left) left) → Adds old new result (content_at width text)
adds_keyed old mid new width text one rest after left result o s b m a l h =
    let same : left ≡ after_gap false (drop 1 rest) = l ∙ ap (after_gap false) a in
    let there : Adds mid new result (value_behind width (after_gap false (drop 1 rest))) =
    subst (λ (t : List ℕ). Adds mid new result (value_behind width t)) same h in
    subst (Adds old new result) (sym (keyed width text one rest o s b))
    (adds_more old mid new (Key (width - length text) one.bytes) result _ m there)

pub behind_key : (width : ℕ) (text : List ℕ) (one : Scalar) (rest after left : List ℕ) →
    scalar_at false text ≡ Some (one, rest) → length text ≤ width → after ≡ drop 1 rest →
    left ≡ after_gap false after → length left ≤ width
behind_key width text one rest after left s within a l =
    let short = scalar_within false text (one, rest) s in
    let gap = gap_within false after in
    let cut : length (drop 1 rest) ≡ length rest - 1 = length-drop 1 rest in
    omega (arith, short, gap, cut, ap length a, ap length l)
