use Rattle.std.proofs.Common.{◌≡◌, ◌==◌, ◌&&◌, ◌||◌, ℕ, zero, suc, ◌+◌, ◌<◌, ◌≤◌, ◌/◌, ◌%◌, Bool, true, false, not, List, [], ◌∷◌, ◌++◌, Option, Some, None, length, slice_index, refl, arith, rules, nat_lt, length-append, ◌⊎◌, inl, inr, lit≤}
use Rattle.std.specs.Prelude.{codes, if◌then◌else◌}
use Rattle.std.proofs.lemmas.Bool.Decides.{nat_tests}
use Rattle.zr_names.specs.Hex.{hex_digit, hex_text}
use Rattle.zr_names.specs.Names.{is_name_byte, path_is_bad, slash_is_bad, begins_component, is_dots, token_is_bad, IsName}
use Rattle.zr_names.specs.declared.names.TheConstants.{PATH_LIMIT, TOKEN_LIMIT}
use Rattle.zr_names.specs.declared.unit.Guid.{Guid}
use Rattle.zr_world.specs.declared.pools.Partial.{Partial}
use Rattle.zr_world.specs.Rows.{from_text, token_text}

-- each byte is printable ASCII
abbrev pub ArePrintable : List ℕ → Type 0
ArePrintable [] = Unit {0}
ArePrintable (b ∷ bs) = (32 ≤ b) × (b ≤ 126) × ArePrintable bs

ArePrintable-append : (xs ys : List ℕ) → ArePrintable xs → ArePrintable ys → ArePrintable (xs ++ ys)
ArePrintable-append [] ys p q = q
ArePrintable-append (x ∷ xs) ys p q = (p.0, p.1, ArePrintable-append xs ys p.2 q)

digit-printable : (n : ℕ) → n < 16 → (32 ≤ hex_digit n) × (hex_digit n ≤ 126)
digit-printable n small = grind (arith, nat_tests)

ArePrintable-hex_text : (digits n : ℕ) → ArePrintable (hex_text digits n)
unfolding hex_text
ArePrintable-hex_text zero n = tt
ArePrintable-hex_text (suc digits) n =
    let digit = digit-printable (n % 16) (omega arith) in
    ArePrintable-append (hex_text digits (n / 16)) (hex_digit (n % 16) ∷ []) (ArePrintable-hex_text digits (n / 16)) (digit.0, digit.1, tt)

length-hex_text : (digits n : ℕ) → length (hex_text digits n) ≡ digits
unfolding hex_text
length-hex_text zero n = refl
length-hex_text (suc digits) n =
    omega (arith, length-append (hex_text digits (n / 16)) (hex_digit (n % 16) ∷ []), length-hex_text digits (n / 16))

or-left : (x y : Bool) → (not x || y) ≡ false → x ≡ true
or-left true y e = refl
or-left false y e = cc

name_byte-printable : (b : ℕ) → is_name_byte b ≡ true → (32 ≤ b) × (b ≤ 126)
name_byte-printable b e = grind (arith, nat_tests)

slash-or-name : (slash bad name rest : Bool) → (if slash then bad else (not name || rest)) ≡ false → (slash ≡ true) ⊎ (name ≡ true)
slash-or-name true bad name rest e = inl refl
slash-or-name false bad name rest e = inr (or-left name rest e)

path_byte-printable : (text : List ℕ) (place : ℕ) → path_is_bad text place ≡ false → (32 ≤ slice_index text place) × (slice_index text place ≤ 126)
path_byte-printable text place e =
    elim (slash-or-name (slice_index text place == 47) (slash_is_bad text place) (is_name_byte (slice_index text place)) (begins_component text place && is_dots text place) e) [
      | inl slash ↦ grind (arith, nat_tests)
      | inr name ↦ name_byte-printable (slice_index text place) name
    ]

ArePrintable-from : (xs : List ℕ) → ((k : ℕ) → k < length xs → (32 ≤ slice_index xs k) × (slice_index xs k ≤ 126)) → ArePrintable xs
ArePrintable-from [] h = tt
ArePrintable-from (x ∷ xs) h =
    let first : (32 ≤ x) × (x ≤ 126) = h 0 (omega arith) in
    (first.0, first.1, ArePrintable-from xs (λ k inside. h (suc k) (omega arith)))

ArePrintable-at : (xs : List ℕ) (k : ℕ) → ArePrintable xs → k < length xs → (32 ≤ slice_index xs k) × (slice_index xs k ≤ 126)
ArePrintable-at [] k p inside = absurd (omega arith)
ArePrintable-at (x ∷ xs) zero p inside = (p.0, p.1)
ArePrintable-at (x ∷ xs) (suc k) p inside = ArePrintable-at xs k p.2 (omega arith)

token_place-good : (b n c : ℕ) → 32 ≤ b → b ≤ 126 → 2 ≤ n → (nat_lt b 32 || nat_lt 126 b || ((n == 1) && (c == 45))) ≡ false
token_place-good b n c low high long = grind (arith, nat_tests)

from_text-printable : (from : Option Guid) → ArePrintable (from_text from) × (length (from_text from) ≤ 16)
from_text-printable None = (search rules, lit≤ tt)
from_text-printable (Some guid) =
    (ArePrintable-hex_text 16 guid.0, omega (arith, length-hex_text 16 guid.0))

source-printable : (source : List ℕ) → IsName path_is_bad PATH_LIMIT source → ArePrintable source
source-printable source name =
    ArePrintable-from source (λ k inside. path_byte-printable source k (name.no_place_bad k inside))

-- a text of printable bytes, of at least two and at most 4,096, is a token
IsName-printable : (text : List ℕ) → ArePrintable text → 2 ≤ length text → length text ≤ TOKEN_LIMIT → IsName token_is_bad TOKEN_LIMIT text
IsName-printable text p long short = record {
  not_empty = omega arith;
  not_long = short;
  no_place_bad = λ place inside.
      let at = ArePrintable-at text place p inside in
      token_place-good (slice_index text place) (length text) (slice_index text 0) at.0 at.1 long;
}

dashed-printable : (a b c : List ℕ) → ArePrintable a → ArePrintable b → ArePrintable c → ArePrintable (codes "1-" ++ a ++ 45 ∷ [] ++ b ++ 45 ∷ [] ++ c)
dashed-printable a b c pa pb pc =
    let dash : ArePrintable (45 ∷ []) = search rules in
    let head : ArePrintable (codes "1-") = search rules in
    let x = ArePrintable-append (codes "1-") a head pa in
    let y = ArePrintable-append (codes "1-" ++ a) (45 ∷ []) x dash in
    let z = ArePrintable-append (codes "1-" ++ a ++ 45 ∷ []) b y pb in
    let w = ArePrintable-append (codes "1-" ++ a ++ 45 ∷ [] ++ b) (45 ∷ []) z dash in
    ArePrintable-append (codes "1-" ++ a ++ 45 ∷ [] ++ b ++ 45 ∷ []) c w pc

length-dashed : (a b c : List ℕ) → length (codes "1-" ++ a ++ 45 ∷ [] ++ b ++ 45 ∷ [] ++ c) ≡ 4 + length a + length b + length c
length-dashed a b c = simp length-append (omega arith)

-- the token of a partial receive from a path is a token
pub token_text-IsName : (partial : Partial) → IsName path_is_bad PATH_LIMIT partial.source → IsName token_is_bad TOKEN_LIMIT (token_text partial)
token_text-IsName partial name =
    let to = hex_text 16 partial.to.0 in
    let from = from_text partial.from in
    let fromp = from_text-printable partial.from in
    let n = length-dashed to from partial.source in
    let m = length-hex_text 16 partial.to.0 in
    let short : length partial.source ≤ PATH_LIMIT = name.not_long in
    let p = dashed-printable to from partial.source (ArePrintable-hex_text 16 partial.to.0) fromp.0 (source-printable partial.source name) in
    let small = fromp.1 in
    IsName-printable (token_text partial) p (omega arith) (omega arith)
