use Rattle.std.proofs.Common.{◌≡◌, ◌&&◌, ℕ, zero, suc, ◌+◌, ◌<◌, ◌≤◌, Bool, true, false, not, List, [], Option, Some, None, Result, Ok, Err, length, nat_le, nat_lt, refl, arith, ap, sym, ◌⊎◌, inl, inr}
use Rattle.std.specs.Bool.{if◌then◌else◌}
use Rattle.std.proofs.lemmas.Bool.Decides.{nat_tests}
use Rattle.zr_names.specs.Names.{IsFirstBad, IsName, path_is_bad, Reads}
use Rattle.zr_names.specs.declared.names.TheConstants.{PATH_LIMIT}
use Rattle.zr_names.specs.declared.reading.NameFault.{NameFault}
use Rattle.zr_names.specs.declared.reading.NameFault.TheVariants.{Empty, BadByte, TooLong, NoMemory}
use Rattle.zr_world.specs.Tokens.{are_good, is_path}

all-good : (text : List ℕ) (places : ℕ) → ((place : ℕ) → place < places → path_is_bad text place ≡ false) → are_good text places ≡ true
all-good text zero good = refl
all-good text (suc places) good =
    let here : path_is_bad text places ≡ false = good places (omega arith) in
    rw here (all-good text places (λ place below. good place (omega arith)))

and-false : (b : Bool) → (b && false) ≡ false
and-false true = refl
and-false false = refl

middle-false : (a c : Bool) → (a && false && c) ≡ false
middle-false true c = refl
middle-false false c = refl

last-false : (a b : Bool) → (a && b && false) ≡ false
last-false true true = refl
last-false true false = refl
last-false false b = refl

one-bad : (text : List ℕ) (places place : ℕ) → place < places → path_is_bad text place ≡ true → are_good text places ≡ false
one-bad text zero place below bad = absurd (omega arith)
one-bad text (suc places) place below bad = elim (last-or-before place places below) [
  | inl same ↦ (let here : path_is_bad text places ≡ true = rw (sym same) bad in rw here refl)
  | inr before ↦ (let rest = one-bad text places place before bad in rw rest (and-false (not (path_is_bad text places))))
] where
  last-or-before : (k n : ℕ) → k < suc n → (k ≡ n) ⊎ (k < n)
  last-or-before zero zero below = inl refl
  last-or-before zero (suc n) below = inr (omega arith)
  last-or-before (suc k) zero below = absurd (omega arith)
  last-or-before (suc k) (suc n) below = elim (last-or-before k n (omega arith)) [ inl same ↦ inl (ap suc same) | inr less ↦ inr (omega arith) ]

-- a path passes the test
pub path_passes : (text : List ℕ) → IsName path_is_bad PATH_LIMIT text → is_path text ≡ true
path_passes text name =
    let some : nat_lt 0 (length text) ≡ true = (let has = name.not_empty in grind (arith, nat_tests)) in
    let short : nat_le (length text) PATH_LIMIT ≡ true = (let most = name.not_long in grind (arith, nat_tests)) in
    let good = all-good text (length text) name.no_place_bad in
    rw (some, short, good) refl

-- what is read as a path is found
pub path_found : (text name : List ℕ) → Reads path_is_bad PATH_LIMIT text (Ok name) → Some name ≡ (if is_path text then Some text else None)
path_found text name reads =
    let is = path_passes text reads.1 in
    rw (is, reads.0) refl

fails : (text : List ℕ) (fault : NameFault) → Reads path_is_bad PATH_LIMIT text (Err fault) → (fault ≡ NoMemory → ⊥) → is_path text ≡ false
fails text Empty reads some = rw reads refl
fails text (TooLong n) reads some =
    let long : nat_le (length text) PATH_LIMIT ≡ false = (let more = reads.1 in let same = reads.0 in grind (arith, nat_tests)) in
    rw long (middle-false (nat_lt 0 (length text)) (are_good text (length text)))
fails text (BadByte place) reads some =
    let first = reads.2 in
    let bad = one-bad text (length text) place first.inside first.bad in
    rw bad (last-false (nat_lt 0 (length text)) (nat_le (length text) PATH_LIMIT))
fails text NoMemory reads some = absurd (some refl)

-- what is refused, but for want of memory, is no path
pub path_none : (text : List ℕ) (fault : NameFault) → Reads path_is_bad PATH_LIMIT text (Err fault) → (fault ≡ NoMemory → ⊥) → None ≡ (if is_path text then Some text else None)
path_none text fault reads some = let none = fails text fault reads some in rw none refl
