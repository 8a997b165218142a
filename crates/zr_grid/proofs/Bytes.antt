-- Which bytes a form has, and which it begins with.
use Rattle.std.proofs.Common.{◌≡◌, ℕ, Bool, true, false, ◌||◌, List, [], ◌∷◌, ◌++◌, is_some, eqb, refl, sym, subst, inl, inr}
use Rattle.std.proofs.lemmas.Bool.{or_cases, or_left, or_right, eqb-true}
use Rattle.std.specs.List.{AllByRecursion}
use Rattle.zr_grid.specs.Grammar.{is_blank, is_digit, unit_of}
use Rattle.zr_grid.proofs.Sequence.{Apart, Both}

-- each byte passes the test
abbrev pub Each : (ℕ → Bool) → List ℕ → Type 0
Each p t = AllByRecursion (λ b. p b ≡ true) t

pub each_append : (p : ℕ → Bool) (s t : List ℕ) → Each p s → Each p t → Each p (s ++ t)
each_append p [] t hs ht = ht
each_append p (b ∷ s) t hs ht = (hs.0, each_append p s t hs.1 ht)

pub each_right : (p : ℕ → Bool) (s t : List ℕ) → Each p (s ++ t) → Each p t
each_right p [] t h = h
each_right p (b ∷ s) t h = each_right p s t h.1

pub each_weaker : (p q : ℕ → Bool) → ((b : ℕ) → p b ≡ true → q b ≡ true) → (t : List ℕ) → Each p t → Each q t
each_weaker p q weaker [] h = tt
each_weaker p q weaker (b ∷ t) h = (weaker b h.0, each_weaker p q weaker t h.1)

-- the form's texts are of such bytes
abbrev pub Within : {V : Type 0} → (ℕ → Bool) → (V → List ℕ → Type 0) → Type 0
Within {V} p L = (v : V) (t : List ℕ) → L v t → Each p t

-- a text of the form that is not empty begins so
abbrev pub Starts : {V : Type 0} → (ℕ → Bool) → (V → List ℕ → Type 0) → Type 0
Starts {V} q L = (v : V) (c : ℕ) (t : List ℕ) → L v (c ∷ t) → q c ≡ true

abbrev pub NeverEmpty : {V : Type 0} → (V → List ℕ → Type 0) → Type 0
NeverEmpty {V} L = (v : V) → L v [] → ⊥

abbrev pub Disjoint : (ℕ → Bool) → (ℕ → Bool) → Type 0
Disjoint p q = (c : ℕ) → p c ≡ true → q c ≡ true → ⊥

pub apart : {A B : Type 0} (p q : ℕ → Bool) (LA : A → List ℕ → Type 0) (LB : B → List ℕ → Type 0) → Disjoint p q → Within p LA → Starts q LB → Apart LA LB
apart p q LA LB disjoint within starts v w g k t c la lb = disjoint c (each_right p g (c ∷ k) (within v (g ++ c ∷ k) la)).0 (starts w c t lb)

pub within_both : {A B : Type 0} (p : ℕ → Bool) (LA : A → List ℕ → Type 0) (LB : B → List ℕ → Type 0) → Within p LA → Within p LB → Within p (Both LA LB)
within_both p LA LB wa wb (v, w) t (g, h, e, la, lb) = subst (Each p) (sym e) (each_append p g h (wa v g la) (wb w h lb))

pub within_weaker : {V : Type 0} (p q : ℕ → Bool) (L : V → List ℕ → Type 0) → ((b : ℕ) → p b ≡ true → q b ≡ true) → Within p L → Within q L
within_weaker p q L weaker within v t l = each_weaker p q weaker t (within v t l)

begins_one : {A B : Type 0} (p q : ℕ → Bool) (LA : A → List ℕ → Type 0) (LB : B → List ℕ → Type 0) → Starts p LA → Starts q LB
    → (v : A) (w : B) (c : ℕ) (t g h : List ℕ) → c ∷ t ≡ g ++ h → LA v g → LB w h → (p c || q c) ≡ true
begins_one p q LA LB sa sb v w c t [] h e la lb = or_right (p c) (q c) (sb w c t (subst (LB w) (sym e) lb))
begins_one p q LA LB sa sb v w c t (d ∷ g) h e la lb = let same : d ≡ c = cc in or_left (p c) (q c) (subst (λ (x : ℕ). p x ≡ true) same (sa v d g la))

pub starts_either : {A B : Type 0} (p q : ℕ → Bool) (LA : A → List ℕ → Type 0) (LB : B → List ℕ → Type 0) → Starts p LA → Starts q LB → Starts (λ c. p c || q c) (Both LA LB)
starts_either p q LA LB sa sb (v, w) c t (g, h, e, la, lb) = begins_one p q LA LB sa sb v w c t g h e la lb

begins_first : {A : Type 0} (p : ℕ → Bool) (LA : A → List ℕ → Type 0) → NeverEmpty LA → Starts p LA → (v : A) (c : ℕ) (t g h : List ℕ) → c ∷ t ≡ g ++ h → LA v g → p c ≡ true
begins_first p LA never sa v c t [] h e la = absurd (never v la)
begins_first p LA never sa v c t (d ∷ g) h e la = let same : d ≡ c = cc in subst (λ (x : ℕ). p x ≡ true) same (sa v d g la)

pub starts_first : {A B : Type 0} (p : ℕ → Bool) (LA : A → List ℕ → Type 0) (LB : B → List ℕ → Type 0) → NeverEmpty LA → Starts p LA → Starts p (Both LA LB)
starts_first p LA LB never sa (v, w) c t (g, h, e, la, lb) = begins_first p LA never sa v c t g h e la

pub never_first : {A : Type 0} (L : A → List ℕ → Type 0) → NeverEmpty L → (v : A) (g h : List ℕ) → [] ≡ g ++ h → L v g → ⊥
never_first L never v [] h e l = never v l
never_first L never v (b ∷ g) h e l = cc

pub never_both : {A B : Type 0} (LA : A → List ℕ → Type 0) (LB : B → List ℕ → Type 0) → NeverEmpty LA → NeverEmpty (Both LA LB)
never_both LA LB never (v, w) (g, h, e, la, lb) = never_first LA never v g h e la

never_last : {B : Type 0} (L : B → List ℕ → Type 0) → NeverEmpty L → (w : B) (g h : List ℕ) → [] ≡ g ++ h → L w h → ⊥
never_last L never w [] h e l = never w (subst (L w) (sym e) l)
never_last L never w (b ∷ g) h e l = cc

pub never_after : {A B : Type 0} (LA : A → List ℕ → Type 0) (LB : B → List ℕ → Type 0) → NeverEmpty LB → NeverEmpty (Both LA LB)
never_after LA LB never (v, w) (g, h, e, la, lb) = never_last LB never w g h e lb

-- ---- tests of bytes

-- the letter of a unit
abbrev pub is_unit : ℕ → Bool
is_unit b = is_some (unit_of b)

-- a byte that spans are made of
abbrev pub is_of_span : ℕ → Bool
is_of_span b = (is_blank b || is_digit b) || is_unit b

-- one byte
abbrev pub is_byte : ℕ → ℕ → Bool
is_byte c b = eqb b c

pub byte_disjoint : (p : ℕ → Bool) (c : ℕ) → p c ≡ false → Disjoint p (is_byte c)
byte_disjoint p c fails b passes same = let e : b ≡ c = eqb-true b c same in let passes' : p c ≡ true = subst (λ (x : ℕ). p x ≡ true) e passes in cc

pub disjoint_swap : (p q : ℕ → Bool) → Disjoint p q → Disjoint q p
disjoint_swap p q d c x y = d c y x

pub disjoint_or : (p q r : ℕ → Bool) → Disjoint p q → Disjoint p r → Disjoint p (λ c. q c || r c)
disjoint_or p q r d e c x y = elim (or_cases (q c) (r c) y) [ inl h ↦ d c x h | inr h ↦ e c x h ]

pub blank_disjoint : (p : ℕ → Bool) → p 32 ≡ false → p 9 ≡ false → Disjoint is_blank p
blank_disjoint p space tab c blank other =
    elim (or_cases (eqb c 32) (eqb c 9) blank) [
      | inl h ↦ byte_disjoint p 32 space c other h
      | inr h ↦ byte_disjoint p 9 tab c other h
    ]

-- a unit is one of five letters
one_unit : (p : ℕ → Bool) → p 115 ≡ false → p 109 ≡ false → p 104 ≡ false → p 100 ≡ false → p 119 ≡ false
    → (c : ℕ) (s m h d w : Bool) → eqb c 115 ≡ s → eqb c 109 ≡ m → eqb c 104 ≡ h → eqb c 100 ≡ d → eqb c 119 ≡ w → p c ≡ true → is_unit c ≡ true → ⊥
one_unit p ps pm ph pd pw c true m h d w es em eh ed ew passes unit = byte_disjoint p 115 ps c passes es
one_unit p ps pm ph pd pw c false true h d w es em eh ed ew passes unit = byte_disjoint p 109 pm c passes em
one_unit p ps pm ph pd pw c false false true d w es em eh ed ew passes unit = byte_disjoint p 104 ph c passes eh
one_unit p ps pm ph pd pw c false false false true w es em eh ed ew passes unit = byte_disjoint p 100 pd c passes ed
one_unit p ps pm ph pd pw c false false false false true es em eh ed ew passes unit = byte_disjoint p 119 pw c passes ew
one_unit p ps pm ph pd pw c false false false false false es em eh ed ew passes unit = let none : is_unit c ≡ false = rw (es, em, eh, ed, ew) refl in cc

pub unit_disjoint : (p : ℕ → Bool) → p 115 ≡ false → p 109 ≡ false → p 104 ≡ false → p 100 ≡ false → p 119 ≡ false → Disjoint p is_unit
unit_disjoint p ps pm ph pd pw c passes unit = one_unit p ps pm ph pd pw c (eqb c 115) (eqb c 109) (eqb c 104) (eqb c 100) (eqb c 119) refl refl refl refl refl passes unit
