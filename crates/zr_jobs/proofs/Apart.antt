-- Texts that are parted by `/`.
use Rattle.std.proofs.Common.{◌≡◌, ◌≢◌, ℕ, ◌⊎◌, inl, inr, false, not, List, [], ◌∷◌, length, get_or, refl, sym, ap, ◌∙◌, subst, arith, length-append}
use Rattle.std.proofs.Math.Seq.{get_or-append_seam}
use Rattle.std.proofs.lemmas.List.{append_cancel_left}
use Rattle.zr_names.specs.Names.{IsName, is_name_byte, name_is_bad}
use Rattle.zr_names.specs.declared.names.TheConstants.{JOB_LIMIT}
use Rattle.zr_jobs.specs.Identities.{IsIdentity}
use Rattle.zr_jobs.specs.Targets.{IsBelow, RootsApart, joined}

-- where two texts meet, one of their roots is the other or below it
pub meet : (r s x y : List ℕ) → joined r x ≡ joined s y → (r ≡ s) ⊎ (IsBelow r s ⊎ IsBelow s r)
meet [] [] x y same = inl refl
meet [] (c ∷ s) x y same = let head : c ≡ 47 = cc in inr (inl (s, ap (λ k. k ∷ s) head))
meet (c ∷ r) [] x y same = let head : c ≡ 47 = cc in inr (inr (r, ap (λ k. k ∷ r) head))
meet (c ∷ r) (d ∷ s) x y same =
    let head : c ≡ d = cc in
    let tail : joined r x ≡ joined s y = cc in
    elim (meet r s x y tail) [
      | inl one ↦ inl (ap (λ k. k ∷ r) head ∙ ap (λ t. d ∷ t) one)
      | inr (inl below) ↦ inr (inl (below.0, ap (λ t. d ∷ t) below.1 ∙ ap (λ k. k ∷ joined r below.0) (sym head)))
      | inr (inr above) ↦ inr (inr (above.0, ap (λ k. k ∷ r) head ∙ ap (λ t. d ∷ t) above.1))
    ]

-- roots that are apart have nothing in common
pub apart_roots : (r s x y : List ℕ) → RootsApart r s → joined r x ≢ joined s y
apart_roots r s x y apart = λ same.
    elim (meet r s x y same) [
      | inl one ↦ apart.differ one
      | inr (inl below) ↦ apart.not_above below
      | inr (inr above) ↦ apart.not_below above
    ]

-- no job's name is below another text
no_slash : (root name : List ℕ) → IsName name_is_bad JOB_LIMIT name → IsBelow root name → ⊥
no_slash root name is below =
    let rest = below.0 in
    let parted = below.1 in
    let long = length-append root (47 ∷ rest) in
    let at : get_or name (length root) 0 ≡ 47 = ap (λ t. get_or t (length root) 0) parted ∙ get_or-append_seam root 47 rest 0 in
    let good = is.no_place_bad (length root) (omega (arith, long, ap length parted)) in
    let never : not (is_name_byte 47) ≡ false = subst (λ k. not (is_name_byte k) ≡ false) at good in
    cc

-- nor do two identities have anything in common
pub apart_identities : (i j x y : List ℕ) → IsIdentity i → IsIdentity j → i ≢ j → joined i x ≢ joined j y
apart_identities i j x y is_i is_j differ =
    apart_roots i j x y (record {
      differ = differ;
      not_below = no_slash j i is_i.name;
      not_above = no_slash i j is_j.name;
    })

pub same_rest : (r x y : List ℕ) → joined r x ≡ joined r y → x ≡ y
same_rest r x y same = let behind = append_cancel_left r (47 ∷ x) (47 ∷ y) same in cc
