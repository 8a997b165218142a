-- Scans that read a form, one after another.
use Rattle.std.proofs.Common.{◌≡◌, ℕ, ◌⊎◌, List, [], ◌∷◌, ◌++◌, length, Result, Ok, Err, refl, sym, ap, subst, ◌∙◌, append_assoc, inl, inr}
use Rattle.std.proofs.lemmas.List.{append-nil}
use Rattle.zr_grid.specs.Grammar.{◌⨾◌}
use Rattle.zr_grid.specs.Scan.{◌>>=◌}

-- ---- two ways to cut a text

abbrev pub Cut : List ℕ → List ℕ → List ℕ → List ℕ → Type 0
Cut f z g h = ((f ≡ g) × (z ≡ h)) ⊎ (((c : ℕ) × (k : List ℕ) × (f ≡ g ++ c ∷ k) × (h ≡ c ∷ (k ++ z))) ⊎ ((c : ℕ) × (k : List ℕ) × (g ≡ f ++ c ∷ k) × (z ≡ c ∷ (k ++ h))))

cut_more : (c d : ℕ) (f z g h : List ℕ) → c ≡ d → Cut f z g h → Cut (c ∷ f) z (d ∷ g) h
cut_more c d f z g h e (inl p) = inl (let q = p.0 in cc, p.1)
cut_more c d f z g h e (inr (inl (b, k, p, q))) = inr (inl (b, k, cc, q))
cut_more c d f z g h e (inr (inr (b, k, p, q))) = inr (inr (b, k, cc, q))

pub cut : (f z g h : List ℕ) → f ++ z ≡ g ++ h → Cut f z g h
cut [] z [] h e = inl (refl, e)
cut [] z (c ∷ g) h e = inr (inr (c, g, refl, e))
cut (c ∷ f) z [] h e = inr (inl (c, f, refl, sym e))
cut (c ∷ f) z (d ∷ g) h e = cut_more c d f z g h (cc) (cut f z g h (cc))

-- ---- what a scan of a form says

-- no text of the form begins with front and the next byte of the rest
abbrev pub Dead : {V : Type 0} → (V → List ℕ → Type 0) → List ℕ → List ℕ → Type 0
Dead L front [] = Unit {0}
Dead {V} L front (b ∷ rest) = (v : V) (more : List ℕ) → L v (front ++ b ∷ more) → ⊥

-- the longest front that begins a text of the form, which is one
pub record Found {V C : Type 0} (L : V → List ℕ → Type 0) (cap : V → C) (text : List ℕ) (c : C) (rest : List ℕ) : Type 0 where
  pub front : List ℕ
  pub parts : text ≡ front ++ rest
  pub value : V
  pub good : L value front
  pub only : (v : V) → L v front → c ≡ cap v
  pub dead : Dead L front rest

-- the longest front that begins a text of the form, which is none
pub record Stuck {V : Type 0} (L : V → List ℕ → Type 0) (text : List ℕ) (left : ℕ) : Type 0 where
  pub front : List ℕ
  pub rest : List ℕ
  pub parts : text ≡ front ++ rest
  pub left_is : left ≡ length rest
  pub value : V
  pub more : List ℕ
  pub begins : L value (front ++ more)
  pub bad : (v : V) → L v front → ⊥
  pub dead : Dead L front rest

abbrev pub Scanned : {V C : Type 0} → (V → List ℕ → Type 0) → (V → C) → List ℕ → Result (C × List ℕ) ℕ → Type 0
Scanned L cap text (Ok x) = Found L cap text x.0 x.1
Scanned L cap text (Err left) = Stuck L text left

abbrev pub Scans : {V C : Type 0} → (V → List ℕ → Type 0) → (V → C) → (List ℕ → Result (C × List ℕ) ℕ) → Type 0
Scans L cap f = (text : List ℕ) → Scanned L cap text (f text)

-- ---- one form and then another

abbrev pub Both : {A B : Type 0} → (A → List ℕ → Type 0) → (B → List ℕ → Type 0) → A × B → List ℕ → Type 0
Both LA LB p = LA p.0 ⨾ LB p.1

abbrev pub pair : {A B : Type 0} → (List ℕ → Result (A × List ℕ) ℕ) → (List ℕ → Result (B × List ℕ) ℕ) → List ℕ → Result ((A × B) × List ℕ) ℕ
pair f g text = f text >>= λ a. g a.1 >>= λ b. Ok ((a.0, b.0), b.1)

-- no byte of a text of the first form begins a text of the second
abbrev pub Apart : {A B : Type 0} → (A → List ℕ → Type 0) → (B → List ℕ → Type 0) → Type 0
Apart {A} {B} LA LB = (v : A) (w : B) (g k t : List ℕ) (c : ℕ) → LA v (g ++ c ∷ k) → LB w (c ∷ t) → ⊥

-- a cut of a text whose front begins a text of the first form
cuts : {A B : Type 0} (LA : A → List ℕ → Type 0) (LB : B → List ℕ → Type 0) → Apart LA LB → (v1 : A) (f1 m1 z : List ℕ) → LA v1 (f1 ++ m1) → (v : A) (w : B) (g h : List ℕ) → LA v g → LB w h → f1 ++ z ≡ g ++ h
    → ((f1 ≡ g) × (z ≡ h)) ⊎ ((c : ℕ) × (k : List ℕ) × (g ≡ f1 ++ c ∷ k) × (z ≡ c ∷ (k ++ h)))
cuts {A} {B} LA LB apart v1 f1 m1 z viable v w g h la lb e =
    elim (cut f1 z g h e) [
      | inl p ↦ inl p
      | inr q ↦ elim q [
        | inl (c, k, fe, he) ↦ absurd (apart v1 w g (k ++ m1) (k ++ z) c
            (subst (LA v1) (ap (λ (t : List ℕ). t ++ m1) fe ∙ append_assoc g (c ∷ k) m1) viable)
            (subst (LB w) he lb))
        | inr r ↦ inr r
      ]
    ]

after_front : {A B : Type 0} (LA : A → List ℕ → Type 0) (LB : B → List ℕ → Type 0) → Apart LA LB → (f1 : List ℕ) → (w2 : B) (f2 m2 y : List ℕ) → LB w2 (f2 ++ m2)
    → (v : A) (g h : List ℕ) → LA v g → (c : ℕ) (k : List ℕ) → g ≡ f1 ++ c ∷ k → f2 ++ y ≡ c ∷ (k ++ h)
    → ((f1 ≡ g) × (f2 ++ y ≡ h)) ⊎ ((f2 ≡ []) × ((c : ℕ) × (k : List ℕ) × (g ≡ f1 ++ c ∷ k) × (y ≡ c ∷ (k ++ h))))
after_front LA LB apart f1 w2 [] m2 y viable v g h la c k ge ze = inr (refl, (c, k, ge, ze))
after_front LA LB apart f1 w2 (d ∷ f2) m2 y viable v g h la c k ge ze =
    let same : d ≡ c = cc in
    absurd (apart v w2 f1 k (f2 ++ m2) c (subst (LA v) ge la) (subst (λ (b : ℕ). LB w2 (b ∷ (f2 ++ m2))) same viable))

-- a cut of a text that is one of the first form, and then begins one of the second
cuts_twice : {A B : Type 0} (LA : A → List ℕ → Type 0) (LB : B → List ℕ → Type 0) → Apart LA LB → (v1 : A) (f1 : List ℕ) → LA v1 f1 → (w2 : B) (f2 m2 y : List ℕ) → LB w2 (f2 ++ m2)
    → (v : A) (w : B) (g h : List ℕ) → LA v g → LB w h → f1 ++ (f2 ++ y) ≡ g ++ h
    → ((f1 ≡ g) × (f2 ++ y ≡ h)) ⊎ ((f2 ≡ []) × ((c : ℕ) × (k : List ℕ) × (g ≡ f1 ++ c ∷ k) × (y ≡ c ∷ (k ++ h))))
cuts_twice {A} {B} LA LB apart v1 f1 good w2 f2 m2 y viable v w g h la lb e =
    elim (cuts LA LB apart v1 f1 [] (f2 ++ y) (subst (LA v1) (sym (append-nil f1)) good) v w g h la lb e) [
      | inl p ↦ inl p
      | inr (c, k, ge, ze) ↦ after_front LA LB apart f1 w2 f2 m2 y viable v g h la c k ge ze
    ]

-- nothing but the two values stands for both fronts
pair_only : {A B C D : Type 0} (LA : A → List ℕ → Type 0) (LB : B → List ℕ → Type 0) (capA : A → C) (capB : B → D) → Apart LA LB
    → (v1 : A) (f1 : List ℕ) → LA v1 f1 → (w2 : B) (f2 : List ℕ) → LB w2 f2 → (a : C) (b : D) → ((v : A) → LA v f1 → a ≡ capA v) → ((w : B) → LB w f2 → b ≡ capB w)
    → (p : A × B) → Both LA LB p (f1 ++ f2) → (a ≡ capA p.0) × (b ≡ capB p.1)
pair_only {A} {B} LA LB capA capB apart v1 f1 good w2 f2 good2 a b only only2 (v, w) (g, h, e, la, lb) =
    elim (cuts_twice LA LB apart v1 f1 good w2 f2 [] [] (subst (LB w2) (sym (append-nil f2)) good2) v w g h la lb (ap (λ (u : List ℕ). f1 ++ u) (append-nil f2) ∙ e)) [
      | inl q ↦ (only v (subst (LA v) (sym q.0) la), only2 w (subst (LB w) (sym q.1 ∙ append-nil f2) lb))
      | inr (_, (c, k, _, none)) ↦ absurd cc
    ]

pair_bad : {A B : Type 0} (LA : A → List ℕ → Type 0) (LB : B → List ℕ → Type 0) → Apart LA LB
    → (v1 : A) (f1 : List ℕ) → LA v1 f1 → (w2 : B) (f2 m2 : List ℕ) → LB w2 (f2 ++ m2) → ((w : B) → LB w f2 → ⊥) → (p : A × B) → Both LA LB p (f1 ++ f2) → ⊥
pair_bad {A} {B} LA LB apart v1 f1 good w2 f2 m2 viable bad (v, w) (g, h, e, la, lb) =
    elim (cuts_twice LA LB apart v1 f1 good w2 f2 m2 [] viable v w g h la lb (ap (λ (u : List ℕ). f1 ++ u) (append-nil f2) ∙ e)) [
      | inl q ↦ bad w (subst (LB w) (sym q.1 ∙ append-nil f2) lb)
      | inr (_, (c, k, _, none)) ↦ cc
    ]

dead_here : {A B : Type 0} (LA : A → List ℕ → Type 0) (LB : B → List ℕ → Type 0) → Apart LA LB
    → (v1 : A) (f1 r : List ℕ) → LA v1 f1 → Dead LA f1 r → (w2 : B) (f2 m2 : List ℕ) (b : ℕ) (bs : List ℕ) → LB w2 (f2 ++ m2) → r ≡ f2 ++ b ∷ bs → Dead LB f2 (b ∷ bs)
    → (p : A × B) (more : List ℕ) → Both LA LB p ((f1 ++ f2) ++ b ∷ more) → ⊥
dead_here {A} {B} LA LB apart v1 f1 r good dead w2 f2 m2 b bs viable parts dead2 (v, w) more (g, h, e, la, lb) =
    elim (cuts_twice LA LB apart v1 f1 good w2 f2 m2 (b ∷ more) viable v w g h la lb (sym (append_assoc f1 f2 (b ∷ more)) ∙ e)) [
      | inl q ↦ dead2 w more (subst (LB w) (sym q.1) lb)
      | inr (none, (c, k, ge, ze)) ↦
          let first : r ≡ b ∷ bs = parts ∙ ap (λ (u : List ℕ). u ++ b ∷ bs) none in
          let same : c ≡ b = cc in
          subst (Dead LA f1) first dead v k (subst (λ (d : ℕ). LA v (f1 ++ d ∷ k)) same (subst (LA v) ge la))
    ]

pair_dead : {A B : Type 0} (LA : A → List ℕ → Type 0) (LB : B → List ℕ → Type 0) → Apart LA LB
    → (v1 : A) (f1 r : List ℕ) → LA v1 f1 → Dead LA f1 r → (w2 : B) (f2 m2 s : List ℕ) → LB w2 (f2 ++ m2) → r ≡ f2 ++ s → Dead LB f2 s → Dead (Both LA LB) (f1 ++ f2) s
pair_dead {A} {B} LA LB apart v1 f1 r good dead w2 f2 m2 [] viable parts dead2 = tt
pair_dead {A} {B} LA LB apart v1 f1 r good dead w2 f2 m2 (b ∷ bs) viable parts dead2 =
    λ (p : A × B) (more : List ℕ) (q : Both LA LB p ((f1 ++ f2) ++ b ∷ more)).
    dead_here LA LB apart v1 f1 r good dead w2 f2 m2 b bs viable parts dead2 p more q

stuck_bad : {A B : Type 0} (LA : A → List ℕ → Type 0) (LB : B → List ℕ → Type 0) → Apart LA LB → (v1 : A) (f1 m1 : List ℕ) → LA v1 (f1 ++ m1) → ((v : A) → LA v f1 → ⊥) → (p : A × B) → Both LA LB p f1 → ⊥
stuck_bad {A} {B} LA LB apart v1 f1 m1 viable bad (v, w) (g, h, e, la, lb) =
    elim (cuts LA LB apart v1 f1 m1 [] viable v w g h la lb (append-nil f1 ∙ e)) [
      | inl q ↦ bad v (subst (LA v) (sym q.0) la)
      | inr (c, k, _, none) ↦ cc
    ]

stuck_here : {A B : Type 0} (LA : A → List ℕ → Type 0) (LB : B → List ℕ → Type 0) → Apart LA LB → (v1 : A) (f1 m1 : List ℕ) (b : ℕ) (bs : List ℕ) → LA v1 (f1 ++ m1) → ((v : A) → LA v f1 → ⊥) → Dead LA f1 (b ∷ bs)
    → (p : A × B) (more : List ℕ) → Both LA LB p (f1 ++ b ∷ more) → ⊥
stuck_here {A} {B} LA LB apart v1 f1 m1 b bs viable bad dead (v, w) more (g, h, e, la, lb) =
    elim (cuts LA LB apart v1 f1 m1 (b ∷ more) viable v w g h la lb e) [
      | inl q ↦ bad v (subst (LA v) (sym q.0) la)
      | inr (c, k, ge, ze) ↦
          let same : c ≡ b = cc in
          dead v k (subst (λ (d : ℕ). LA v (f1 ++ d ∷ k)) same (subst (LA v) ge la))
    ]

stuck_dead : {A B : Type 0} (LA : A → List ℕ → Type 0) (LB : B → List ℕ → Type 0) → Apart LA LB → (v1 : A) (f1 m1 r : List ℕ) → LA v1 (f1 ++ m1) → ((v : A) → LA v f1 → ⊥) → Dead LA f1 r → Dead (Both LA LB) f1 r
stuck_dead {A} {B} LA LB apart v1 f1 m1 [] viable bad dead = tt
stuck_dead {A} {B} LA LB apart v1 f1 m1 (b ∷ bs) viable bad dead =
    λ (p : A × B) (more : List ℕ) (q : Both LA LB p (f1 ++ b ∷ more)). stuck_here LA LB apart v1 f1 m1 b bs viable bad dead p more q

abbrev pub both_caps : {A B C D : Type 0} → (A → C) → (B → D) → A × B → C × D
both_caps f g p = (f p.0, g p.1)

same_pair : {C D : Type 0} (a c : C) (b d : D) (p q : C × D) → p ≡ (a, b) → q ≡ (c, d) → a ≡ c → b ≡ d → p ≡ q
same_pair a c b d p q pe qe x y = cc

second : {A B C D : Type 0} (LA : A → List ℕ → Type 0) (LB : B → List ℕ → Type 0) (capA : A → C) (capB : B → D) → Apart LA LB
    → (text : List ℕ) (a : C) (r : List ℕ) → Found LA capA text a r → (scan : Result (D × List ℕ) ℕ) → Scanned LB capB r scan
    → Scanned (Both LA LB) (both_caps capA capB) text (scan >>= λ b. Ok ((a, b.0), b.1))
second LA LB capA capB apart text a r x (Ok (b, s)) y = record {
  front = x.front ++ y.front;
  parts = x.parts ∙ ap (λ (u : List ℕ). x.front ++ u) y.parts ∙ sym (append_assoc x.front y.front s);
  value = (x.value, y.value);
  good = (x.front, y.front, refl, x.good, y.good);
  only = λ p q. let h = pair_only LA LB capA capB apart x.value x.front x.good y.value y.front y.good a b x.only y.only p q in same_pair a (capA p.0) b (capB p.1) _ _ refl refl h.0 h.1;
  dead = pair_dead LA LB apart x.value x.front r x.good x.dead y.value y.front [] s (subst (LB y.value) (sym (append-nil y.front)) y.good) y.parts y.dead;
}
second LA LB capA capB apart text a r x (Err left) y = record {
  front = x.front ++ y.front;
  rest = y.rest;
  parts = x.parts ∙ ap (λ (u : List ℕ). x.front ++ u) y.parts ∙ sym (append_assoc x.front y.front y.rest);
  left_is = y.left_is;
  value = (x.value, y.value);
  more = y.more;
  begins = (x.front, y.front ++ y.more, append_assoc x.front y.front y.more, x.good, y.begins);
  bad = pair_bad LA LB apart x.value x.front x.good y.value y.front y.more y.begins y.bad;
  dead = pair_dead LA LB apart x.value x.front r x.good x.dead y.value y.front y.more y.rest y.begins y.parts y.dead;
}

stuck_first : {A B C D : Type 0} (LA : A → List ℕ → Type 0) (LB : B → List ℕ → Type 0) (capA : A → C) (capB : B → D) → Apart LA LB → (w : B) (some : List ℕ) → LB w some
    → (text : List ℕ) (left : ℕ) → Stuck LA text left → Stuck (Both LA LB) text left
stuck_first LA LB capA capB apart w some ls text left x = record {
  front = x.front;
  rest = x.rest;
  parts = x.parts;
  left_is = x.left_is;
  value = (x.value, w);
  more = x.more ++ some;
  begins = (x.front ++ x.more, some, sym (append_assoc x.front x.more some), x.begins, ls);
  bad = stuck_bad LA LB apart x.value x.front x.more x.begins x.bad;
  dead = stuck_dead LA LB apart x.value x.front x.more x.rest x.begins x.bad x.dead;
}

first : {A B C D : Type 0} (LA : A → List ℕ → Type 0) (LB : B → List ℕ → Type 0) (capA : A → C) (capB : B → D) (g : List ℕ → Result (D × List ℕ) ℕ) → Apart LA LB → (w : B) (some : List ℕ) → LB w some → Scans LB capB g
    → (text : List ℕ) (scan : Result (C × List ℕ) ℕ) → Scanned LA capA text scan → Scanned (Both LA LB) (both_caps capA capB) text (scan >>= λ a. g a.1 >>= λ b. Ok ((a.0, b.0), b.1))
first LA LB capA capB g apart w some ls sg text (Ok (a, r)) x = second LA LB capA capB apart text a r x (g r) (sg r)
first LA LB capA capB g apart w some ls sg text (Err left) x = stuck_first LA LB capA capB apart w some ls text left x

-- two scans, one after the other, read one form and then the other
pub scans_both : {A B C D : Type 0} (LA : A → List ℕ → Type 0) (LB : B → List ℕ → Type 0) (capA : A → C) (capB : B → D) (f : List ℕ → Result (C × List ℕ) ℕ) (g : List ℕ → Result (D × List ℕ) ℕ)
    → Apart LA LB → (w : B) (some : List ℕ) → LB w some → Scans LA capA f → Scans LB capB g → Scans (Both LA LB) (both_caps capA capB) (pair f g)
scans_both LA LB capA capB f g apart w some ls sf sg text = first LA LB capA capB g apart w some ls sg text (f text) (sf text)

pub bind_assoc : {A B C : Type 0} (scan : Result A ℕ) (f : A → Result B ℕ) (g : B → Result C ℕ) → ((scan >>= f) >>= g) ≡ (scan >>= λ x. f x >>= g)
bind_assoc (Ok x) f g = refl
bind_assoc (Err left) f g = refl

-- ---- the same form under other values

dead_as : {V W : Type 0} (L : V → List ℕ → Type 0) (M : W → List ℕ → Type 0) → ((w : W) (t : List ℕ) → M w t → (v : V) × L v t) → (front rest : List ℕ) → Dead L front rest → Dead M front rest
dead_as L M from front [] dead = tt
dead_as {V} {W} L M from front (b ∷ rest) dead = λ (w : W) (more : List ℕ) (m : M w (front ++ b ∷ more)). let v = from w (front ++ b ∷ more) m in dead v.0 more v.1

pub scanned_as : {V W C D : Type 0} (L : V → List ℕ → Type 0) (M : W → List ℕ → Type 0) (cap : V → C) (cap' : W → D) (k : V → W) (k' : C → D)
    → ((v : V) (t : List ℕ) → L v t → M (k v) t) → ((w : W) (t : List ℕ) → M w t → (v : V) × L v t × (w ≡ k v)) → ((v : V) (t : List ℕ) → L v t → k' (cap v) ≡ cap' (k v))
    → (text : List ℕ) (scan : Result (C × List ℕ) ℕ) → Scanned L cap text scan → Scanned M cap' text (scan >>= λ x. Ok (k' x.0, x.1))
scanned_as L M cap cap' k k' to from agree text (Ok (c, rest)) x = record {
  front = x.front;
  parts = x.parts;
  value = k x.value;
  good = to x.value x.front x.good;
  only = λ w m. let v = from w x.front m in ap k' (x.only v.0 v.1) ∙ agree v.0 x.front v.1 ∙ ap cap' (sym v.2);
  dead = dead_as L M (λ w t m. let v = from w t m in (v.0, v.1)) x.front rest x.dead;
}
scanned_as L M cap cap' k k' to from agree text (Err left) x = record {
  front = x.front;
  rest = x.rest;
  parts = x.parts;
  left_is = x.left_is;
  value = k x.value;
  more = x.more;
  begins = to x.value (x.front ++ x.more) x.begins;
  bad = λ w m. let v = from w x.front m in x.bad v.0 v.1;
  dead = dead_as L M (λ w t m. let v = from w t m in (v.0, v.1)) x.front x.rest x.dead;
}

pub scans_as : {V W C D : Type 0} (L : V → List ℕ → Type 0) (M : W → List ℕ → Type 0) (cap : V → C) (cap' : W → D) (f : List ℕ → Result (C × List ℕ) ℕ) (k : V → W) (k' : C → D)
    → ((v : V) (t : List ℕ) → L v t → M (k v) t) → ((w : W) (t : List ℕ) → M w t → (v : V) × L v t × (w ≡ k v)) → ((v : V) (t : List ℕ) → L v t → k' (cap v) ≡ cap' (k v))
    → Scans L cap f → Scans M cap' (λ t. f t >>= λ x. Ok (k' x.0, x.1))
scans_as L M cap cap' f k k' to from agree sf text = scanned_as L M cap cap' k k' to from agree text (f text) (sf text)

-- the same for one text
pub both_here : {A B C D : Type 0} (LA : A → List ℕ → Type 0) (LB : B → List ℕ → Type 0) (capA : A → C) (capB : B → D) (g : List ℕ → Result (D × List ℕ) ℕ) → Apart LA LB → (w : B) (some : List ℕ) → LB w some
    → (text : List ℕ) (scan : Result (C × List ℕ) ℕ) → Scanned LA capA text scan → ((a : C) (r : List ℕ) → scan ≡ Ok (a, r) → Scanned LB capB r (g r)) → Scanned (Both LA LB) (both_caps capA capB) text (scan >>= λ a. g a.1 >>= λ b. Ok ((a.0, b.0), b.1))
both_here LA LB capA capB g apart w some ls text (Ok (a, r)) x sg = second LA LB capA capB apart text a r x (g r) (sg a r refl)
both_here LA LB capA capB g apart w some ls text (Err left) x sg = stuck_first LA LB capA capB apart w some ls text left x
