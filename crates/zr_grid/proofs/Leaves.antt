-- Blanks, numbers and units are scanned as the grammar says.
use Rattle.std.proofs.Common.{◌≡◌, ℕ, ◌+◌, ◌-◌, ◌*◌, ◌<◌, ◌≢◌, Bool, true, false, cond, eqb, List, [], ◌∷◌, ◌++◌, length, Option, Some, None, Result, Ok, Err, refl, sym, ap, subst, ◌∙◌, arith}
use Rattle.std.proofs.lemmas.Bool.{eqb-true, eqb-false}
use Rattle.zr_grid.specs.Grammar.{is_blank, is_digit, unit_of, Blanks, Digits, Counted, UnitOf, number_after}
use Rattle.zr_grid.specs.Scan.{capped, skip, digits_from, counted_at, unit_at, unit_found}
use Rattle.zr_grid.proofs.Sequence.{Dead, Found, Scans, Scanned}
use Rattle.zr_grid.proofs.Bytes.{Each, Within, Starts, NeverEmpty, is_unit, each_append}

-- a form of texts alone
abbrev pub Gap : Unit {0} → List ℕ → Type 0
Gap u text = Blanks text

abbrev pub plain : Unit {0} → Unit {0}
plain u = u

-- what no text of a wider form begins with, no text of this form begins with
pub dead_narrower : {A B : Type 0} (LA : A → List ℕ → Type 0) (LB : B → List ℕ → Type 0) → ((v : A) (t : List ℕ) → LA v t → (w : B) × LB w t) → (front rest : List ℕ) → Dead LB front rest → Dead LA front rest
dead_narrower LA LB wider front [] dead = tt
dead_narrower {A} LA LB wider front (b ∷ rest) dead = λ (v : A) (more : List ℕ) (l : LA v (front ++ b ∷ more)). let w = wider v (front ++ b ∷ more) l in dead w.0 more w.1

-- the same with one byte more in front
pub dead_longer : {A B : Type 0} (LA : A → List ℕ → Type 0) (LB : B → List ℕ → Type 0) (c : ℕ) → ((v : A) (t : List ℕ) → LA v (c ∷ t) → (w : B) × LB w t) → (front rest : List ℕ) → Dead LB front rest → Dead LA (c ∷ front) rest
dead_longer LA LB c wider front [] dead = tt
dead_longer {A} LA LB c wider front (b ∷ rest) dead = λ (v : A) (more : List ℕ) (l : LA v (c ∷ (front ++ b ∷ more))). let w = wider v (front ++ b ∷ more) l in dead w.0 more w.1

-- ---- blanks

blank_step : (b : ℕ) (bs : List ℕ) (x : Bool) → is_blank b ≡ x → Found Gap plain bs tt (skip bs) → Found Gap plain (b ∷ bs) tt (cond x (skip bs) (b ∷ bs))
blank_step b bs true e ih = record {
  front = b ∷ ih.front;
  parts = ap (λ (t : List ℕ). b ∷ t) ih.parts;
  value = tt;
  good = (e, ih.good);
  only = λ v h. refl;
  dead = dead_longer Gap Gap b (λ v t l. (tt, l.1)) ih.front (skip bs) ih.dead;
}
blank_step b bs false e ih = record {
  front = [];
  parts = refl;
  value = tt;
  good = tt;
  only = λ v h. refl;
  dead = λ (v : Unit {0}) (more : List ℕ) (l : Blanks (b ∷ more)). let passes = l.0 in cc;
}

blanks_found : (text : List ℕ) → Found Gap plain text tt (skip text)
blanks_found [] = record { front = []; parts = refl; value = tt; good = tt; only = λ v h. refl; dead = tt }
blanks_found (b ∷ bs) = blank_step b bs (is_blank b) refl (blanks_found bs)

abbrev pub skip_at : List ℕ → Result (Unit {0} × List ℕ) ℕ
skip_at text = Ok (tt, skip text)

pub scans_blanks : Scans Gap plain skip_at
scans_blanks text = blanks_found text

pub within_blanks : Within is_blank Gap
within_blanks v t l = l

pub starts_blanks : Starts is_blank Gap
starts_blanks v c t l = l.0

-- ---- numbers

-- digits, or none, that go on from n
abbrev pub Trail : ℕ → ℕ → List ℕ → Type 0
Trail n v text = Each is_digit text × (v ≡ number_after n text)

capped_again : (n d : ℕ) → capped (capped n * 10 + d) ≡ capped (n * 10 + d)
capped_again n d = omega arith

digit_step : (n m b : ℕ) (bs : List ℕ) (x : Bool) → m ≡ capped n → is_digit b ≡ x
    → Found (Trail (n * 10 + (b - 48))) capped bs (digits_from (capped (m * 10 + (b - 48))) bs).0 (digits_from (capped (m * 10 + (b - 48))) bs).1
    → Found (Trail n) capped (b ∷ bs) (cond x (digits_from (capped (m * 10 + (b - 48))) bs) (m, b ∷ bs)).0 (cond x (digits_from (capped (m * 10 + (b - 48))) bs) (m, b ∷ bs)).1
digit_step n m b bs true me e ih = record {
  front = b ∷ ih.front;
  parts = ap (λ (t : List ℕ). b ∷ t) ih.parts;
  value = ih.value;
  good = ((e, ih.good.0), ih.good.1);
  only = λ v h. ih.only v (h.0.1, h.1);
  dead = dead_longer (Trail n) (Trail (n * 10 + (b - 48))) b (λ v t l. (v, (l.0.1, l.1))) ih.front _ ih.dead;
}
digit_step n m b bs false me e ih = record {
  front = [];
  parts = refl;
  value = n;
  good = (tt, refl);
  only = λ v h. me ∙ ap capped (sym h.1);
  dead = λ (v : ℕ) (more : List ℕ) (l : Trail n v (b ∷ more)). let passes = l.0.0 in cc;
}

pub digits_found : (n m : ℕ) (text : List ℕ) → m ≡ capped n → Found (Trail n) capped text (digits_from m text).0 (digits_from m text).1
digits_found n m [] me = record { front = []; parts = refl; value = n; good = (tt, refl); only = λ v h. me ∙ ap capped (sym h.1); dead = tt }
digits_found n m (b ∷ bs) me = digit_step n m b bs (is_digit b) me refl (digits_found (n * 10 + (b - 48)) (capped (m * 10 + (b - 48))) bs (ap (λ (k : ℕ). capped (k * 10 + (b - 48))) me ∙ capped_again n (b - 48)))

pub number_longer : (n : ℕ) (digits : List ℕ) → 0 < number_after n (digits ++ 49 ∷ [])
number_longer n [] = omega arith
number_longer n (d ∷ digits) = number_longer (n * 10 + (d - 48)) digits

length_longer : (digits : List ℕ) (b : ℕ) → 0 < length (digits ++ b ∷ [])
length_longer [] b = omega arith
length_longer (d ∷ digits) b = omega arith

not_nothing : (digits : List ℕ) (n : ℕ) → n ≡ number_after 0 digits → 0 < n → 0 < length digits
not_nothing [] n e h = omega arith
not_nothing (d ∷ digits) n e h = omega arith

counted_of : (text : List ℕ) (c : ℕ) (rest : List ℕ) (x : Bool) → eqb c 0 ≡ x → Found (Trail 0) capped text c rest → Scanned Counted capped text (cond x (Err (length rest)) (Ok (c, rest)))
counted_of text c rest true e f =
    let none : c ≡ 0 = eqb-true c 0 e in
    record {
      front = f.front;
      rest = rest;
      parts = f.parts;
      left_is = refl;
      value = number_after 0 (f.front ++ 49 ∷ []);
      more = 49 ∷ [];
      begins = ((length_longer f.front 49, each_append is_digit f.front (49 ∷ []) f.good.0 (refl, tt), refl), number_longer 0 f.front);
      bad = λ v l. let same : c ≡ capped v = f.only v (l.0.1, l.0.2) in let some : 0 < v = l.1 in omega arith;
      dead = dead_narrower Counted (Trail 0) (λ v t l. (v, (l.0.1, l.0.2))) f.front rest f.dead;
    }
counted_of text c rest false e f =
    let some : c ≢ 0 = eqb-false c 0 e in
    let same : c ≡ capped f.value = f.only f.value f.good in
    let above : 0 < f.value = omega arith in
    record {
      front = f.front;
      parts = f.parts;
      value = f.value;
      good = ((not_nothing f.front f.value f.good.1 above, f.good.0, f.good.1), above);
      only = λ v l. f.only v (l.0.1, l.0.2);
      dead = dead_narrower Counted (Trail 0) (λ v t l. (v, (l.0.1, l.0.2))) f.front rest f.dead;
    }

pub scans_counted : Scans Counted capped counted_at
scans_counted text = counted_of text (digits_from 0 text).0 (digits_from 0 text).1 (eqb (digits_from 0 text).0 0) refl (digits_found 0 0 text refl)

pub within_digits : Within is_digit Digits
within_digits v t l = l.1

pub within_counted : Within is_digit Counted
within_counted v t l = l.0.1

pub starts_counted : Starts is_digit Counted
starts_counted v c t l = l.0.1.0

pub never_counted : NeverEmpty Counted
never_counted v l = let none = l.0.0 in omega arith

-- ---- units

abbrev pub exact : ℕ → ℕ
exact n = n

unit_dead : (b seconds : ℕ) (bs : List ℕ) → Dead UnitOf (b ∷ []) bs
unit_dead b seconds [] = tt
unit_dead b seconds (d ∷ bs) = λ (v : ℕ) (more : List ℕ) (l : UnitOf v (b ∷ d ∷ more)). let h = l.1 in cc

unit_step : (b : ℕ) (bs : List ℕ) (o : Option ℕ) → unit_of b ≡ o → Scanned UnitOf exact (b ∷ bs) (unit_found o bs)
unit_step b bs None e = record {
  front = [];
  rest = b ∷ bs;
  parts = refl;
  left_is = omega arith;
  value = 1;
  more = 115 ∷ [];
  begins = (115, refl, refl);
  bad = λ v l. let h = l.1 in cc;
  dead = λ (v : ℕ) (more : List ℕ) (l : UnitOf v (b ∷ more)). let h = l.1 in let u = l.2 in cc;
}
unit_step b bs (Some seconds) e = record {
  front = b ∷ [];
  parts = refl;
  value = seconds;
  good = (b, refl, e);
  only = λ v l. let h = l.1 in let u = l.2 in cc;
  dead = unit_dead b seconds bs;
}

pub scans_unit : Scans UnitOf exact unit_at
scans_unit [] = record { front = []; rest = []; parts = refl; left_is = refl; value = 1; more = 115 ∷ []; begins = (115, refl, refl); bad = λ v l. let h = l.1 in cc; dead = tt }
scans_unit (b ∷ bs) = unit_step b bs (unit_of b) refl

unit_some : (b v : ℕ) → unit_of b ≡ Some v → is_unit b ≡ true
unit_some b v e = rw e refl

pub within_unit : Within is_unit UnitOf
within_unit v t l = subst (Each is_unit) (sym l.1) (unit_some l.0 v l.2, tt)

pub starts_unit : Starts is_unit UnitOf
starts_unit v c t l = let h = l.1 in let first : l.0 ≡ c = cc in subst (λ (b : ℕ). is_unit b ≡ true) first (unit_some l.0 v l.2)

pub never_unit : NeverEmpty UnitOf
never_unit v l = let h = l.1 in cc

unit_above : (s m h d w : Bool) (v : ℕ) → cond s (Some 1) (cond m (Some 60) (cond h (Some 3600) (cond d (Some 86400) (cond w (Some 604800) None)))) ≡ Some v → 0 < v
unit_above true m h d w v e = let one : 1 ≡ v = cc in omega arith
unit_above false true h d w v e = let one : 60 ≡ v = cc in omega arith
unit_above false false true d w v e = let one : 3600 ≡ v = cc in omega arith
unit_above false false false true w v e = let one : 86400 ≡ v = cc in omega arith
unit_above false false false false true v e = let one : 604800 ≡ v = cc in omega arith
unit_above false false false false false v e = absurd cc

pub unit_positive : (v : ℕ) (t : List ℕ) → UnitOf v t → 0 < v
unit_positive v t l = unit_above (eqb l.0 115) (eqb l.0 109) (eqb l.0 104) (eqb l.0 100) (eqb l.0 119) v l.2
