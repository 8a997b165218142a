-- What a line says: its dashes, its key and the pieces of its value, each with the column at which it stands.
use Rattle.std.specs.Prelude.{◌≡◌, ℕ, zero, suc, ◌+◌, ◌-◌, Bool, true, false, ◌==◌, ◌&&◌, if◌then◌else◌, List, [], ◌∷◌, ◌++◌, length, drop, Option, Some, None, is_some, Result, Ok, Err, ⊤}
use Rattle.zr_yaml.specs.declared.fault.Stop.{Stop}
use Rattle.zr_yaml.specs.declared.fault.Stop.TheVariants.{Bad, NoMemory}
use Rattle.zr_yaml.specs.declared.scalar.Scalar.{Scalar}
use Rattle.zr_yaml.specs.declared.symbols.Bracket.{Bracket}
use Rattle.zr_yaml.specs.declared.symbols.Bracket.TheVariants.{Curly, Square}
use Rattle.zr_yaml.specs.declared.symbols.Front.{Front}
use Rattle.zr_yaml.specs.declared.symbols.Front.TheVariants.{Nothing, Blank, Dashed, Content}
use Rattle.zr_yaml.specs.declared.symbols.Piece.{Piece}
use Rattle.zr_yaml.specs.declared.symbols.Piece.TheVariants.{One, Open, Close, Comma, Colon}
use Rattle.zr_yaml.specs.declared.symbols.Symbol.{Symbol}
use Rattle.zr_yaml.specs.declared.symbols.Symbol.TheVariants.{Dash, Key, Value, More}
use Rattle.zr_yaml.specs.Scan.{is_blank, ends_part, after_gap}
use Rattle.zr_yaml.specs.Scalar.{scalar_at}

-- ---- in brackets

-- the bracket that a byte opens, and the one that it closes
abbrev pub opened_by : ℕ → Option Bracket
opened_by b = if b == 123 then Some Curly else (if b == 91 then Some Square else None)

abbrev pub closed_by : ℕ → Option Bracket
closed_by b = if b == 125 then Some Curly else (if b == 93 then Some Square else None)

abbrev pub one_found : Option (Scalar × List ℕ) → Option (Piece × List ℕ)
one_found None = None
one_found (Some x) = Some (One x.0, x.1)

abbrev pub other_piece : ℕ → List ℕ → Option (Piece × List ℕ)
other_piece b bs =
    if b == 44 then Some (Comma, bs)
    else (if b == 58 && ends_part bs then Some (Colon, bs) else one_found (scalar_at true (b ∷ bs)))

abbrev pub closing_piece : Option Bracket → ℕ → List ℕ → Option (Piece × List ℕ)
closing_piece (Some kind) b bs = Some (Close kind, bs)
closing_piece None b bs = other_piece b bs

abbrev pub opening_piece : Option Bracket → ℕ → List ℕ → Option (Piece × List ℕ)
opening_piece (Some kind) b bs = Some (Open kind, bs)
opening_piece None b bs = closing_piece (closed_by b) b bs

-- the piece at the front, in brackets: a bracket, a comma, a colon that ends a part, or a scalar
abbrev pub piece_at : List ℕ → Option (Piece × List ℕ)
piece_at [] = None
piece_at (b ∷ bs) = opening_piece (opened_by b) b bs

-- how many brackets are open after a piece
abbrev pub open_after : ℕ → Piece → ℕ
open_after unclosed (One s) = unclosed
open_after unclosed (Open kind) = unclosed + 1
open_after unclosed (Close kind) = unclosed - 1
open_after unclosed Comma = unclosed
open_after unclosed Colon = unclosed

-- ---- lines

-- symbols, and how many brackets are open behind them
abbrev pub Read : Type 0
Read = List Symbol × ℕ

-- symbols before those of the rest
abbrev pub with_symbols : List Symbol → Option Read → Option Read
with_symbols symbols None = None
with_symbols symbols (Some x) = Some (symbols ++ x.0, x.1)

-- the line ends here
abbrev pub nothing_left : List ℕ → Option Read
nothing_left [] = Some ([], 0)
nothing_left (b ∷ bs) = None

-- nothing but blanks and a comment follows a value on its line
abbrev pub line_end : List ℕ → Option Read
line_end rest = nothing_left (after_gap false rest)

-- what comes after a piece: where no bracket is open any more, the line's end
abbrev pub next_from : (ℕ → List ℕ → Option Read) → ℕ → List ℕ → Option Read
next_from go unclosed rest = if unclosed == 0 then line_end rest else go unclosed rest

abbrev pub with_piece : (ℕ → List ℕ → Option Read) → ℕ → Option (Piece × List ℕ) → Option Read
with_piece go unclosed None = None
with_piece go unclosed (Some x) = with_symbols (More x.0 ∷ []) (next_from go (open_after unclosed x.0) x.1)

abbrev pub pieces_from : (ℕ → List ℕ → Option Read) → ℕ → List ℕ → Option Read
pieces_from go unclosed [] = Some ([], unclosed)
pieces_from go unclosed (b ∷ bs) = with_piece go unclosed (piece_at (b ∷ bs))

-- the pieces of a line while brackets are open, at most so many
abbrev pub pieces_at : ℕ → ℕ → Bool → List ℕ → Option Read
pieces_at zero unclosed spaced bytes = None
pieces_at (suc n) unclosed spaced bytes =
    pieces_from (λ o rest. pieces_at n o false rest) unclosed (after_gap spaced bytes)

-- a value at its column: brackets, or a scalar alone
abbrev pub lone_found : ℕ → Option (Scalar × List ℕ) → Option Read
lone_found column None = None
lone_found column (Some x) = with_symbols (Value column (One x.0) ∷ []) (line_end x.1)

-- a value at its column, or nothing
abbrev pub value_from : ℕ → Option Bracket → List ℕ → List ℕ → Option Read
value_from column (Some kind) bytes rest =
    with_symbols (Value column (Open kind) ∷ []) (pieces_at (suc (length rest)) 1 false rest)
value_from column None bytes rest = lone_found column (scalar_at false bytes)

abbrev pub value_at : ℕ → List ℕ → Option Read
value_at column [] = Some ([], 0)
value_at column (b ∷ bs) = value_from column (opened_by b) (b ∷ bs) bs

-- the value behind a key, in a line that is so long
abbrev pub value_behind : ℕ → List ℕ → Option Read
value_behind width rest = value_at (width - length rest) rest

-- a colon that ends a part
abbrev pub begins_value : List ℕ → Bool
begins_value [] = false
begins_value (b ∷ bs) = b == 58 && ends_part bs

-- a key and its value, or a scalar alone
abbrev pub key_found : ℕ → ℕ → Option (Scalar × List ℕ) → Option Read
key_found width column None = None
key_found width column (Some x) =
    if begins_value x.1
    then with_symbols (Key column x.0.bytes ∷ []) (value_behind width (after_gap false (drop 1 x.1)))
    else with_symbols (Value column (One x.0) ∷ []) (line_end x.1)

abbrev pub opens : List ℕ → Bool
opens [] = false
opens (b ∷ bs) = is_some (opened_by b)

abbrev pub content_at : ℕ → List ℕ → Option Read
content_at width bytes =
    if opens bytes then value_at (width - length bytes) bytes else key_found width (width - length bytes)
    (scalar_at false bytes)

-- what a line goes on with: nothing, a blank, a dash that ends a part, or something else
abbrev pub front_of : List ℕ → Front
front_of [] = Nothing
front_of (b ∷ bs) =
    if is_blank b then Blank else
    (if b == 35 then Nothing else (if b == 45 && ends_part bs then Dashed else Content))

abbrev pub line_by : Front → ℕ → List ℕ → Option Read → Option Read
line_by Nothing width bytes rest = Some ([], 0)
line_by Blank width bytes rest = rest
line_by Dashed width bytes rest = with_symbols (Dash (width - length bytes) ∷ []) rest
line_by Content width bytes rest = content_at width bytes

-- a line that begins outside of brackets: dashes, and then a key or a value
abbrev pub line_at : ℕ → List ℕ → Option Read
line_at width [] = Some ([], 0)
line_at width (b ∷ bs) = line_by (front_of (b ∷ bs)) width (b ∷ bs) (line_at width bs)

-- what a line says where so many brackets are open before it
abbrev pub line_symbols : ℕ → List ℕ → Option Read
line_symbols unclosed bytes =
    if unclosed == 0 then line_at (length bytes) bytes else pieces_at (suc (length bytes)) unclosed true bytes

-- ---- what the functions of the code give

-- a function adds symbols to those before, and answers how many brackets are open, as the definition says
abbrev pub Adds : List Symbol → List Symbol → Result ℕ Stop → Option Read → Type 0
Adds old new (Ok unclosed) defined = with_symbols old defined ≡ Some (new, unclosed)
Adds old new (Err Bad) defined = defined ≡ None
Adds old new (Err NoMemory) defined = ⊤
