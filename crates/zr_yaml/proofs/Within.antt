-- What comes after a part is shorter than what it was read from.
use Rattle.std.proofs.Common.{◌≡◌, ℕ, suc, ◌-◌, ◌<◌, ◌≤◌, Bool, true, false, cond, ◌==◌, ◌&&◌, List, [], ◌∷◌, length, take, drop, Option, Some, None, subst, arith}
use Rattle.std.proofs.lemmas.List.{length-drop}
use Rattle.zr_yaml.specs.declared.scalar.Scalar.{Scalar}
use Rattle.zr_yaml.specs.declared.symbols.Bracket.{Bracket}
use Rattle.zr_yaml.specs.declared.symbols.Piece.{Piece}
use Rattle.zr_yaml.specs.Scan.{after_gap, ends_part, is_blank}
use Rattle.zr_yaml.specs.Scalar.{after_escape, double_quoted, escape_of, is_mark, is_plain, plain_found, quoted_found, scalar_at, single_quoted, with_front}
use Rattle.zr_yaml.specs.Symbols.{closed_by, closing_piece, one_found, opened_by, opening_piece, piece_at}

-- what is left has at most so many bytes, where something was read
abbrev pub Within : {X : Type 0} → ℕ → Option (X × List ℕ) → Type 0
Within n None = Unit {0}
Within n (Some x) = length x.1 ≤ n

pub within_some : {X : Type 0} (n : ℕ) (found : Option (X × List ℕ)) (x : X × List ℕ) → Within n found →
    found ≡ Some x → length x.1 ≤ n
within_some {X} n found x h e = subst (Within {X = X} n) e h

more : {X : Type 0} (n m : ℕ) (found : Option (X × List ℕ)) → n ≤ m → Within n found → Within m found
more n m None le h = tt
more n m (Some x) le h = omega (arith, le, h)

front_within : (n : ℕ) (front : List ℕ) (found : Option (List ℕ × List ℕ)) → Within n found →
    Within n (with_front front found)
front_within n front None h = tt
front_within n front (Some x) h = h

escape_within : (n : ℕ) (b : Option ℕ) (found : Option (List ℕ × List ℕ)) → Within n found →
    Within n (after_escape b found)
escape_within n None found h = tt
escape_within n (Some b) found h = front_within n (b ∷ []) found h

chosen : {X : Type 0} (n : ℕ) (b : Bool) (x y : Option (X × List ℕ)) → Within n x → Within n y → Within n (cond b x y)
chosen n true x y h k = h
chosen n false x y h k = k

pub gap_within : (spaced : Bool) (bytes : List ℕ) → length (after_gap spaced bytes) ≤ length bytes
gap_within spaced [] = omega arith
gap_within spaced (b ∷ bs) = gap_cases (is_blank b) (spaced && b == 35) b bs (gap_within true bs)
  where
    gap_cases : (c d : Bool) (b : ℕ) (bs : List ℕ) → length (after_gap true bs) ≤ length bs →
        length (cond c (after_gap true bs) (cond d [] (b ∷ bs))) ≤ suc (length bs)
    gap_cases true d b bs h = omega arith
    gap_cases false true b bs h = omega arith
    gap_cases false false b bs h = omega arith

double_within : (escaped : Bool) (bytes : List ℕ) → Within (length bytes) (double_quoted escaped bytes)
double_within true [] = tt
double_within false [] = tt
double_within true (b ∷ bs) =
    more (length bs) (suc (length bs)) _ (omega arith)
    (escape_within (length bs) (escape_of b) (double_quoted false bs) (double_within false bs))
double_within false (b ∷ bs) =
    more (length bs) (suc (length bs)) _ (omega arith)
    (chosen (length bs) (b == 34) _ _ (omega arith)
    (chosen (length bs) (b == 92) _ _ (double_within true bs)
    (front_within (length bs) (b ∷ []) (double_quoted false bs) (double_within false bs))))

single_within : (bytes : List ℕ) → Within (length bytes) (single_quoted bytes)
single_within [] = tt
single_within (b ∷ []) = chosen 1 (b == 39) (Some ([], [])) None (omega arith) tt
single_within (b ∷ c ∷ bs) =
    chosen (suc (suc (length bs))) (b == 39) _ _
    (chosen (suc (suc (length bs))) (c == 39) _ _
    (front_within (suc (suc (length bs))) (39 ∷ []) (single_quoted bs)
    (more (length bs) (suc (suc (length bs))) _ (omega arith) (single_within bs))) (omega arith))
    (front_within (suc (suc (length bs))) (b ∷ []) (single_quoted (c ∷ bs))
    (more (suc (length bs)) (suc (suc (length bs))) _ (omega arith) (single_within (c ∷ bs))))

quoted_within : (n : ℕ) (found : Option (List ℕ × List ℕ)) → Within n found → Within n (quoted_found found)
quoted_within n None h = tt
quoted_within n (Some x) h = h

plain_within : (n b : ℕ) (bs : List ℕ) → Within (length bs) (plain_found (suc n) (b ∷ bs))
plain_within n b bs =
    chosen (length bs) (is_plain (take (suc n) (b ∷ bs))) _ None (let h : length (drop n bs) ≡ length bs - n =
    length-drop n bs in omega arith) tt

scalar_tail : (in_brackets : Bool) (b : ℕ) (bs : List ℕ) → Within (length bs) (scalar_at in_brackets (b ∷ bs))
scalar_tail in_brackets b bs =
    chosen (length bs) (b == 34) _ _ (quoted_within (length bs) _ (double_within false bs))
    (chosen (length bs) (b == 39) _ _ (quoted_within (length bs) _ (single_within bs))
    (chosen (length bs) (is_mark b) None _ tt (plain_within _ b bs)))

pub scalar_within : (in_brackets : Bool) (bytes : List ℕ) (x : Scalar × List ℕ) →
    scalar_at in_brackets bytes ≡ Some x → length x.1 < length bytes
scalar_within in_brackets [] x e = cc
scalar_within in_brackets (b ∷ bs) x e = let h =
    within_some (length bs) (scalar_at in_brackets (b ∷ bs)) x (scalar_tail in_brackets b bs) e in omega (arith, h)

one_within : (n : ℕ) (found : Option (Scalar × List ℕ)) → Within n found → Within n (one_found found)
one_within n None h = tt
one_within n (Some x) h = h

closing_within : (kind : Option Bracket) (b : ℕ) (bs : List ℕ) → Within (length bs) (closing_piece kind b bs)
closing_within (Some kind) b bs = omega arith
closing_within None b bs =
    chosen (length bs) (b == 44) _ _ (omega arith)
    (chosen (length bs) (b == 58 && ends_part bs) _ _ (omega arith)
    (one_within (length bs) _ (scalar_tail true b bs)))

opening_within : (kind : Option Bracket) (b : ℕ) (bs : List ℕ) → Within (length bs) (opening_piece kind b bs)
opening_within (Some kind) b bs = omega arith
opening_within None b bs = closing_within (closed_by b) b bs

pub piece_within : (bytes : List ℕ) (x : Piece × List ℕ) → piece_at bytes ≡ Some x → length x.1 < length bytes
piece_within [] x e = cc
piece_within (b ∷ bs) x e = let h =
    within_some (length bs) (piece_at (b ∷ bs)) x (opening_within (opened_by b) b bs) e in omega (arith, h)
