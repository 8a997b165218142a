-- Roots and the paths at or below them.
use Rattle.std.proofs.Common.{◌≡◌, ℕ, zero, suc, ◌<◌, ◌≤◌, ◌∙◌, Bool, true, false, ◌&&◌, ◌||◌, ◌==◌, List, [], ◌∷◌, ◌++◌, length, get_or, take, drop, refl, ap, sym, arith, append_assoc, length-append, nat_eq}
use Rattle.std.specs.Prelude.{slice_index}
use Rattle.std.specs.List.{starts_with}
use Rattle.std.specs.Cmp.Lexicographic.{pointwise, bytes_decides}
use Rattle.std.proofs.Math.Seq.{drop-cons, get_or-append_seam, take-append_seam}
use Rattle.std.proofs.lemmas.Bool.Decides.{Decides-eqb}
use Rattle.std.proofs.lemmas.List.{append-nil, append_cancel_right, take-append-drop, take-append-le, get_or_append_left}
use Rattle.std.proofs.lemmas.Slice.Eq.{starts_is}
use Rattle.zr_filter.specs.Rule.{is_within, lies_below}

-- a path lies at or below a root where the root with a `/` behind begins the path with a `/` behind
pub record Within (root path : List ℕ) : Type 0 where
  pub rest : List ℕ
  pub is : path ++ 47 ∷ [] ≡ (root ++ 47 ∷ []) ++ rest

-- a place with a byte other than 0 lies inside
inside : (text : List ℕ) (place : ℕ) → get_or text place 0 ≡ 47 → place < length text
inside [] place is = absurd (omega arith)
inside (b ∷ text) zero is = omega arith
inside (b ∷ text) (suc place) is = omega (arith, inside text place is)

and_parts : (a b : Bool) → (a && b) ≡ true → (a ≡ true) × (b ≡ true)
and_parts true true e = (refl, refl)
and_parts true false e = cc
and_parts false b e = cc

or_right : (a b : Bool) → b ≡ true → (a || b) ≡ true
or_right true b e = refl
or_right false b e = e

below : (root path : List ℕ) → lies_below root path ≡ true → Within root path
below root path is =
    let parts = and_parts (starts_with nat_eq path root) (slice_index path (length root) == 47) is in
    let begins : path ≡ root ++ drop (length root) path = (starts_is Decides-eqb path root (starts_with nat_eq path root) refl).0 parts.0 in
    let slash : get_or path (length root) 0 ≡ 47 = (Decides-eqb (get_or path (length root) 0) 47).0 parts.1 in
    let behind : drop (length root) path ≡ 47 ∷ drop (suc (length root)) path = drop-cons path (length root) 0 (inside path (length root) slash) ∙ ap (λ k. k ∷ drop (suc (length root)) path) slash in
    let parted : path ≡ root ++ 47 ∷ drop (suc (length root)) path = begins ∙ ap (λ t. root ++ t) behind in
    record {
      rest = drop (suc (length root)) path ++ 47 ∷ [];
      is = ap (λ t. t ++ 47 ∷ []) parted ∙ append_assoc root (47 ∷ drop (suc (length root)) path) (47 ∷ []) ∙ sym (append_assoc root (47 ∷ []) (drop (suc (length root)) path ++ 47 ∷ []));
    }

pub within : (root path : List ℕ) → is_within root path ≡ true → Within root path
within root path is = either (pointwise nat_eq path root) (lies_below root path) refl refl is where
  either : (a b : Bool) → pointwise nat_eq path root ≡ a → lies_below root path ≡ b → (a || b) ≡ true → Within root path
  either true b same under e = record { rest = []; is = ap (λ t. t ++ 47 ∷ []) ((bytes_decides path root).0 same) ∙ sym (append-nil (root ++ 47 ∷ [])) }
  either false true same under e = below root path under
  either false false same under e = cc

pub is_within_of : (root path : List ℕ) → Within root path → is_within root path ≡ true
is_within_of root path w = by_rest w.rest w.is where
  by_rest : (rest : List ℕ) → path ++ 47 ∷ [] ≡ (root ++ 47 ∷ []) ++ rest → is_within root path ≡ true
  by_rest [] is =
      let same : path ≡ root = append_cancel_right path root (47 ∷ []) (is ∙ append-nil (root ++ 47 ∷ [])) in
      ap (λ b. b || lies_below root path) ((bytes_decides path root).1 same)
  by_rest (c ∷ rest) is =
      let parted : path ++ 47 ∷ [] ≡ root ++ 47 ∷ c ∷ rest = is ∙ append_assoc root (47 ∷ []) (c ∷ rest) in
      let longer : length root < length path = omega (arith, ap length parted, length-append path (47 ∷ []), length-append root (47 ∷ c ∷ rest)) in
      let slash : get_or path (length root) 0 ≡ 47 = sym (get_or_append_left path (47 ∷ []) 0 (length root) longer) ∙ ap (λ t. get_or t (length root) 0) parted ∙ get_or-append_seam root 47 (c ∷ rest) 0 in
      let front : take (length root) path ≡ root = sym (take-append-le (length root) path (47 ∷ []) (omega arith)) ∙ ap (take (length root)) parted ∙ take-append_seam root (47 ∷ c ∷ rest) in
      let begins : path ≡ root ++ drop (length root) path = sym (take-append-drop (length root) path) ∙ ap (λ t. t ++ drop (length root) path) front in
      let starts : starts_with nat_eq path root ≡ true = (starts_is Decides-eqb path root (starts_with nat_eq path root) refl).1 (drop (length root) path) begins in
      let slashed : (slice_index path (length root) == 47) ≡ true = (Decides-eqb (get_or path (length root) 0) 47).1 slash in
      or_right (pointwise nat_eq path root) (lies_below root path) (ap (λ b. b && (slice_index path (length root) == 47)) starts ∙ slashed)

-- below what lies below
pub within_trans : (a b c : List ℕ) → Within a b → Within b c → Within a c
within_trans a b c p q = record {
  rest = p.rest ++ q.rest;
  is = q.is ∙ ap (λ t. t ++ q.rest) p.is ∙ append_assoc (a ++ 47 ∷ []) p.rest q.rest;
}

-- of two roots of one path the shorter is at or above the longer
pub within_shorter : (a b path : List ℕ) → Within a path → Within b path → length a ≤ length b → Within a b
within_shorter a b path p q shorter =
    let fits : length (a ++ 47 ∷ []) ≤ length (b ++ 47 ∷ []) = omega (arith, length-append a (47 ∷ []), length-append b (47 ∷ [])) in
    let front : take (length (a ++ 47 ∷ [])) (b ++ 47 ∷ []) ≡ a ++ 47 ∷ [] =
    sym (take-append-le (length (a ++ 47 ∷ [])) (b ++ 47 ∷ []) q.rest fits) ∙ ap (take (length (a ++ 47 ∷ []))) (sym q.is ∙ p.is) ∙ take-append_seam (a ++ 47 ∷ []) p.rest in
    record {
      rest = drop (length (a ++ 47 ∷ [])) (b ++ 47 ∷ []);
      is = sym (take-append-drop (length (a ++ 47 ∷ [])) (b ++ 47 ∷ [])) ∙ ap (λ t. t ++ drop (length (a ++ 47 ∷ [])) (b ++ 47 ∷ [])) front;
    }
