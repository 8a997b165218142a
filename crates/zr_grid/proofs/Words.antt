-- Words, and what is kept, are scanned as the grammar says.
use Rattle.std.proofs.Common.{◌≡◌, ℕ, ◌+◌, ◌-◌, ◌*◌, ◌<◌, ◌⊎◌, Bool, true, false, cond, eqb, List, [], ◌∷◌, ◌++◌, length, drop, Result, Ok, Err, refl, sym, ap, subst, ◌∙◌, inl, inr, arith, drop-cons}
use Rattle.std.proofs.lemmas.Bool.{eqb-true, eqb-false, eq-eqb}
use Rattle.zr_grid.specs.Grammar.{◌⨾◌, Word, is_digit, Digits, Spaced}
use Rattle.zr_grid.specs.Scan.{◌>>=◌, word_at, skip, number_at, capped, digits_from}
use Rattle.zr_grid.proofs.Sequence.{Dead, Found, Scans, Scanned, Both, both_caps, pair, scans_both, scans_as, Apart}
use Rattle.zr_grid.proofs.Bytes.{Each, Within, Starts, NeverEmpty, within_both, starts_first, is_byte, never_first}
use Rattle.zr_grid.proofs.Leaves.{Gap, plain, dead_longer, dead_narrower, Trail, digits_found, skip_at, scans_blanks}

pub word_short : (word : List ℕ) (i : ℕ) (rest : List ℕ) → i < length word → length rest < 1 → word_at (drop i word) rest ≡ Err 0
word_short word i [] h short = rw (drop-cons word i 0) refl
word_short word i (b ∷ rest) h short = absurd (omega arith)

-- ---- words

abbrev pub WordOf : List ℕ → Unit {0} → List ℕ → Type 0
WordOf word u text = Word word text

abbrev pub word_scan : List ℕ → List ℕ → Result (Unit {0} × List ℕ) ℕ
word_scan word text = word_at word text >>= λ rest. Ok (tt, rest)

word_ended : (text : List ℕ) → Dead (WordOf []) [] text
word_ended [] = tt
word_ended (b ∷ bs) = λ (v : Unit {0}) (more : List ℕ) (l : Word [] (b ∷ more)). cc

word_more : (w : ℕ) (ws : List ℕ) (v : Unit {0}) (t : List ℕ) → Word (w ∷ ws) (w ∷ t) → (u : Unit {0}) × Word ws t
word_more w ws v t l = (tt, cc)

word_step : (w : ℕ) (ws : List ℕ) (b : ℕ) (bs : List ℕ) (x : Bool) → eqb b w ≡ x → (scan : Result (List ℕ) ℕ) → Scanned (WordOf ws) plain bs (scan >>= λ rest. Ok (tt, rest))
    → Scanned (WordOf (w ∷ ws)) plain (b ∷ bs) (cond x scan (Err (length bs + 1)) >>= λ rest. Ok (tt, rest))
word_step w ws b bs true e (Ok rest) f = let same : b ≡ w = eqb-true b w e in record {
  front = w ∷ f.front;
  parts = (let p = f.parts in cc);
  value = tt;
  good = (let g = f.good in cc);
  only = λ v l. refl;
  dead = dead_longer (WordOf (w ∷ ws)) (WordOf ws) w (word_more w ws) f.front rest f.dead;
}
word_step w ws b bs true e (Err left) f = let same : b ≡ w = eqb-true b w e in record {
  front = w ∷ f.front;
  rest = f.rest;
  parts = (let p = f.parts in cc);
  left_is = f.left_is;
  value = tt;
  more = f.more;
  begins = (let g = f.begins in cc);
  bad = λ v l. f.bad tt (let h = l in cc);
  dead = dead_longer (WordOf (w ∷ ws)) (WordOf ws) w (word_more w ws) f.front f.rest f.dead;
}
word_step w ws b bs false e scan f = record {
  front = [];
  rest = b ∷ bs;
  parts = refl;
  left_is = omega arith;
  value = tt;
  more = w ∷ ws;
  begins = refl;
  bad = λ v l. let h = l in cc;
  dead = λ (v : Unit {0}) (more : List ℕ) (l : Word (w ∷ ws) (b ∷ more)). eqb-false b w e (let h = l in cc);
}

pub scans_word : (word : List ℕ) → Scans (WordOf word) plain (word_scan word)
scans_word [] text = record { front = []; parts = refl; value = tt; good = refl; only = λ v l. refl; dead = word_ended text }
scans_word (w ∷ ws) [] = record { front = []; rest = []; parts = refl; left_is = refl; value = tt; more = w ∷ ws; begins = refl; bad = λ v l. let h = l in cc; dead = tt }
scans_word (w ∷ ws) (b ∷ bs) = word_step w ws b bs (eqb b w) refl (word_at ws bs) (scans_word ws bs)

pub within_word : (p : ℕ → Bool) (word : List ℕ) → Each p word → Within p (WordOf word)
within_word p word each v t l = subst (Each p) (sym l) each

pub starts_word : (q : ℕ → Bool) (w : ℕ) (ws : List ℕ) → q w ≡ true → Starts q (WordOf (w ∷ ws))
starts_word q w ws passes v c t l = let same : w ≡ c = (let h = l in cc) in subst (λ (b : ℕ). q b ≡ true) same passes

pub never_word : (w : ℕ) (ws : List ℕ) → NeverEmpty (WordOf (w ∷ ws))
never_word w ws v l = let h = l in cc

-- ---- a form, and then blanks

abbrev pub SpacedOf : {V : Type 0} → (V → List ℕ → Type 0) → V → List ℕ → Type 0
SpacedOf L v text = Spaced (L v) text

abbrev pub done : {C : Type 0} → C × List ℕ → Result (C × List ℕ) ℕ
done x = Ok x

abbrev pub spaced_after : {C : Type 0} → Result (C × List ℕ) ℕ → Result (C × List ℕ) ℕ
spaced_after scan = scan >>= λ x. done (x.0, skip x.1)

abbrev pub spaced : {C : Type 0} → (List ℕ → Result (C × List ℕ) ℕ) → List ℕ → Result (C × List ℕ) ℕ
spaced f text = spaced_after (f text)

abbrev spaced_pair : {C : Type 0} → Result (C × List ℕ) ℕ → Result (C × List ℕ) ℕ
spaced_pair {C} scan = (scan >>= λ a. done {C = C × Unit {0}} ((a.0, tt), skip a.1)) >>= λ x. done (x.0.0, x.1)

spaced_shape : {C : Type 0} (scan : Result (C × List ℕ) ℕ) → spaced_after scan ≡ spaced_pair scan
spaced_shape (Ok x) = refl
spaced_shape (Err left) = refl

pub scans_spaced : {V C : Type 0} (L : V → List ℕ → Type 0) (cap : V → C) (f : List ℕ → Result (C × List ℕ) ℕ) → Apart L Gap → Scans L cap f → Scans (SpacedOf L) cap (spaced f)
scans_spaced L cap f apart sf text = subst (Scanned (SpacedOf L) cap text) (sym (spaced_shape (f text)))
    (scans_as (Both L Gap) (SpacedOf L) (both_caps cap plain) cap (pair f skip_at) (λ v. v.0) (λ c. c.0) (λ v t l. l) (λ v t l. ((v, tt), l, refl)) (λ v t l. refl)
    (scans_both L Gap cap plain f skip_at apart tt [] tt sf scans_blanks) text)

pub within_spaced : {V : Type 0} (p : ℕ → Bool) (L : V → List ℕ → Type 0) → Within p L → Within p Gap → Within p (SpacedOf L)
within_spaced p L within blanks v t l = within_both p L Gap within blanks (v, tt) t l

pub starts_spaced : {V : Type 0} (p : ℕ → Bool) (L : V → List ℕ → Type 0) → NeverEmpty L → Starts p L → Starts p (SpacedOf L)
starts_spaced p L never starts v c t l = starts_first p L Gap never starts (v, tt) c t l

pub never_spaced : {V : Type 0} (L : V → List ℕ → Type 0) → NeverEmpty L → NeverEmpty (SpacedOf L)
never_spaced L never v (g, h, e, la, lb) = never_first L never v g h e la

-- ---- any number

digits_some : (front rest : List ℕ) (b : ℕ) (bs : List ℕ) → is_digit b ≡ true → b ∷ bs ≡ front ++ rest → Dead (Trail 0) front rest → 0 < length front
digits_some [] rest b bs e parts dead = absurd (subst (Dead (Trail 0) []) (sym parts) dead (0 * 10 + (b - 48)) [] ((e, tt), refl))
digits_some (d ∷ front) rest b bs e parts dead = omega arith

number_step : (b : ℕ) (bs : List ℕ) (x : Bool) → is_digit b ≡ x → Scanned Digits capped (b ∷ bs) (cond x (Ok (digits_from 0 (b ∷ bs))) (Err (length bs + 1)))
number_step b bs true e = let f = digits_found 0 0 (b ∷ bs) refl in record {
  front = f.front;
  parts = f.parts;
  value = f.value;
  good = (digits_some f.front _ b bs e f.parts f.dead, f.good.0, f.good.1);
  only = λ v l. f.only v (l.1, l.2);
  dead = dead_narrower Digits (Trail 0) (λ v t l. (v, (l.1, l.2))) f.front _ f.dead;
}
number_step b bs false e = record {
  front = [];
  rest = b ∷ bs;
  parts = refl;
  left_is = omega arith;
  value = 0;
  more = 48 ∷ [];
  begins = (omega arith, (refl, tt), refl);
  bad = λ v l. let none = l.0 in omega arith;
  dead = λ (v : ℕ) (more : List ℕ) (l : Digits v (b ∷ more)). let passes = l.1.0 in cc;
}

pub scans_number : Scans Digits capped number_at
scans_number [] = record { front = []; rest = []; parts = refl; left_is = refl; value = 0; more = 48 ∷ []; begins = (omega arith, (refl, tt), refl); bad = λ v l. (let none = l.0 in omega arith); dead = tt }
scans_number (b ∷ bs) = number_step b bs (is_digit b) refl

-- ---- one of two forms that begin otherwise

abbrev pub Misses : (ℕ → Bool) → List ℕ → Type 0
Misses q [] = Unit {0}
Misses q (b ∷ bs) = q b ≡ false

misses_front : {B : Type 0} (q : ℕ → Bool) (LB : B → List ℕ → Type 0) → Starts q LB → NeverEmpty LB → (text : List ℕ) → Misses q text → (v : B) (front rest : List ℕ) → text ≡ front ++ rest → LB v front → ⊥
misses_front q LB starts never text misses v [] rest e l = never v l
misses_front q LB starts never text misses v (d ∷ front) rest e l = let fails : q d ≡ false = subst (Misses q) e misses in let passes = starts v d front l in cc

misses_more : {B : Type 0} (q : ℕ → Bool) (LB : B → List ℕ → Type 0) → Starts q LB → (text : List ℕ) → Misses q text → (v : B) (front : List ℕ) (c : ℕ) (rest more : List ℕ) → text ≡ front ++ c ∷ rest → LB v (front ++ c ∷ more) → ⊥
misses_more q LB starts text misses v [] c rest more e l = let fails : q c ≡ false = subst (Misses q) e misses in let passes = starts v c more l in cc
misses_more q LB starts text misses v (d ∷ front) c rest more e l = let fails : q d ≡ false = subst (Misses q) e misses in let passes = starts v d (front ++ c ∷ more) l in cc

choice_dead : {V A B : Type 0} (L : V → List ℕ → Type 0) (LA : A → List ℕ → Type 0) (LB : B → List ℕ → Type 0) (k : A → V) (q : ℕ → Bool)
    → ((v : V) (t : List ℕ) → L v t → ((a : A) × LA a t × (v ≡ k a)) ⊎ ((b : B) × LB b t)) → Starts q LB → (text : List ℕ) → Misses q text
    → (front rest : List ℕ) → text ≡ front ++ rest → Dead LA front rest → Dead L front rest
choice_dead L LA LB k q side starts text misses front [] parts dead = tt
choice_dead {V} L LA LB k q side starts text misses front (c ∷ rest) parts dead = λ (v : V) (more : List ℕ) (l : L v (front ++ c ∷ more)).
    elim (side v (front ++ c ∷ more) l) [
      | inl (a, la, e) ↦ dead a more la
      | inr (b, lb) ↦ misses_more q LB starts text misses b front c rest more parts lb
    ]

pub choice : {V A B C D : Type 0} (L : V → List ℕ → Type 0) (LA : A → List ℕ → Type 0) (LB : B → List ℕ → Type 0) (cap : V → D) (capA : A → C) (k : A → V) (k' : C → D) (q : ℕ → Bool)
    → ((v : V) (t : List ℕ) → L v t → ((a : A) × LA a t × (v ≡ k a)) ⊎ ((b : B) × LB b t)) → ((a : A) (t : List ℕ) → LA a t → L (k a) t) → ((a : A) → k' (capA a) ≡ cap (k a))
    → Starts q LB → NeverEmpty LB → (text : List ℕ) → Misses q text → (scan : Result (C × List ℕ) ℕ) → Scanned LA capA text scan → Scanned L cap text (scan >>= λ x. Ok (k' x.0, x.1))
choice L LA LB cap capA k k' q side to agree starts never text misses (Ok (c, rest)) f = record {
  front = f.front;
  parts = f.parts;
  value = k f.value;
  good = to f.value f.front f.good;
  only = λ v l. elim (side v f.front l) [
    | inl (a, la, e) ↦ ap k' (f.only a la) ∙ agree a ∙ ap cap (sym e)
    | inr (b, lb) ↦ absurd (misses_front q LB starts never text misses b f.front rest f.parts lb)
  ];
  dead = choice_dead L LA LB k q side starts text misses f.front rest f.parts f.dead;
}
choice L LA LB cap capA k k' q side to agree starts never text misses (Err left) f = record {
  front = f.front;
  rest = f.rest;
  parts = f.parts;
  left_is = f.left_is;
  value = k f.value;
  more = f.more;
  begins = to f.value (f.front ++ f.more) f.begins;
  bad = λ v l. elim (side v f.front l) [
    | inl (a, la, e) ↦ f.bad a la
    | inr (b, lb) ↦ misses_front q LB starts never text misses b f.front f.rest f.parts lb
  ];
  dead = choice_dead L LA LB k q side starts text misses f.front f.rest f.parts f.dead;
}

-- ---- a byte that opens a form, or nothing

abbrev pub Opt : {V : Type 0} → ℕ → V → (V → List ℕ → Type 0) → V → List ℕ → Type 0
Opt c v0 Inner v t = ((t ≡ []) × (v ≡ v0)) ⊎ (Word (c ∷ []) ⨾ Inner v) t

opened : {V : Type 0} (c : ℕ) (v0 : V) (Inner : V → List ℕ → Type 0) (v : V) (t : List ℕ) → Opt c v0 Inner v (c ∷ t) → Inner v t
opened c v0 Inner v t (inl p) = let e = p.0 in absurd cc
opened c v0 Inner v t (inr (g, h, e, ge, l)) = let whole : c ∷ t ≡ c ∷ h = e ∙ ap (λ (u : List ℕ). u ++ h) ge in let same : h ≡ t = cc in subst (Inner v) same l

pub opt_inside : {V C : Type 0} (c : ℕ) (v0 : V) (Inner : V → List ℕ → Type 0) (cap : V → C) (bs : List ℕ) (scan : Result (C × List ℕ) ℕ) → Scanned Inner cap bs scan → Scanned (Opt c v0 Inner) cap (c ∷ bs) scan
opt_inside c v0 Inner cap bs (Ok (x, rest)) f = record {
  front = c ∷ f.front;
  parts = ap (λ (t : List ℕ). c ∷ t) f.parts;
  value = f.value;
  good = inr (c ∷ [], f.front, refl, refl, f.good);
  only = λ v l. f.only v (opened c v0 Inner v f.front l);
  dead = dead_longer (Opt c v0 Inner) Inner c (λ v t l. (v, opened c v0 Inner v t l)) f.front rest f.dead;
}
opt_inside c v0 Inner cap bs (Err left) f = record {
  front = c ∷ f.front;
  rest = f.rest;
  parts = ap (λ (t : List ℕ). c ∷ t) f.parts;
  left_is = f.left_is;
  value = f.value;
  more = f.more;
  begins = inr (c ∷ [], f.front ++ f.more, refl, refl, f.begins);
  bad = λ v l. f.bad v (opened c v0 Inner v f.front l);
  dead = dead_longer (Opt c v0 Inner) Inner c (λ v t l. (v, opened c v0 Inner v t l)) f.front f.rest f.dead;
}

opt_empty : {V : Type 0} (c : ℕ) (v0 : V) (Inner : V → List ℕ → Type 0) (v : V) → Opt c v0 Inner v [] → v ≡ v0
opt_empty c v0 Inner v (inl p) = p.1
opt_empty c v0 Inner v (inr (g, h, e, ge, l)) = let whole : [] ≡ c ∷ h = e ∙ ap (λ (u : List ℕ). u ++ h) ge in absurd cc

opt_first : {V : Type 0} (c : ℕ) (v0 : V) (Inner : V → List ℕ → Type 0) (v : V) (b : ℕ) (t : List ℕ) → Opt c v0 Inner v (b ∷ t) → b ≡ c
opt_first c v0 Inner v b t (inl p) = let e = p.0 in absurd cc
opt_first c v0 Inner v b t (inr (g, h, e, ge, l)) = let whole : b ∷ t ≡ c ∷ h = e ∙ ap (λ (u : List ℕ). u ++ h) ge in cc

opt_dead : {V : Type 0} (c : ℕ) (v0 : V) (Inner : V → List ℕ → Type 0) (text : List ℕ) → Misses (is_byte c) text → Dead (Opt c v0 Inner) [] text
opt_dead c v0 Inner [] misses = tt
opt_dead {V} c v0 Inner (b ∷ bs) misses = λ (v : V) (more : List ℕ) (l : Opt c v0 Inner v (b ∷ more)). eqb-false b c misses (opt_first c v0 Inner v b more l)

pub opt_outside : {V C : Type 0} (c : ℕ) (v0 : V) (Inner : V → List ℕ → Type 0) (cap : V → C) (text : List ℕ) → Misses (is_byte c) text → Found (Opt c v0 Inner) cap text (cap v0) text
opt_outside c v0 Inner cap text misses = record {
  front = [];
  parts = refl;
  value = v0;
  good = inl (refl, refl);
  only = λ v l. ap cap (sym (opt_empty c v0 Inner v l));
  dead = opt_dead c v0 Inner text misses;
}

pub starts_opt : {V : Type 0} (c : ℕ) (v0 : V) (Inner : V → List ℕ → Type 0) → Starts (is_byte c) (Opt c v0 Inner)
starts_opt c v0 Inner v b t l = eq-eqb b c (opt_first c v0 Inner v b t l)
