-- From scans to the faults and answers of readers.
use Rattle.std.proofs.Common.{◌≡◌, ℕ, zero, suc, ◌-◌, ◌<◌, ◌≤◌, List, [], ◌∷◌, ◌++◌, length, take, refl, sym, ap, subst, ◌∙◌, append_assoc, arith}
use Rattle.std.proofs.lemmas.List.{append-nil, length-append, take_at}
use Rattle.zr_grid.specs.Fault.{IsFault, Begins}
use Rattle.zr_grid.proofs.Sequence.{Dead, Found, Stuck}

-- some text of the form
abbrev pub Any : {V : Type 0} → (V → List ℕ → Type 0) → List ℕ → Type 0
Any {V} L text = (v : V) × L v text

past_front : (front : List ℕ) (b : ℕ) (bs : List ℕ) (longer : ℕ) → length front < longer → (more : List ℕ) × (take longer (front ++ b ∷ bs) ≡ front ++ b ∷ more)
past_front [] b bs zero h = absurd (omega arith)
past_front [] b bs (suc k) h = (take k bs, refl)
past_front (c ∷ front) b bs zero h = absurd (omega arith)
past_front (c ∷ front) b bs (suc k) h = let w = past_front front b bs k (omega arith) in (w.0, ap (λ (t : List ℕ). c ∷ t) w.1)

not_longer : {V : Type 0} (L : V → List ℕ → Type 0) (front rest : List ℕ) → Dead L front rest → (longer : ℕ) → length front < longer → longer ≤ length (front ++ rest) → ¬ Begins (Any L) (take longer (front ++ rest))
not_longer L front [] dead longer above within begins = let same = append-nil front in let short : longer ≤ length front = subst (λ (t : List ℕ). longer ≤ length t) same within in omega arith
not_longer {V} L front (b ∷ rest) dead longer above within (more, (v, l)) =
    let w = past_front front b rest longer above in
    dead v (w.0 ++ more) (subst (L v) (ap (λ (t : List ℕ). t ++ more) w.1 ∙ append_assoc front (b ∷ w.0) more) l)

not_whole : {V : Type 0} (L : V → List ℕ → Type 0) (front rest : List ℕ) → Dead L front rest → (rest ≡ [] → ¬ Any L front) → ¬ Any L (front ++ rest)
not_whole L front [] dead bad (v, l) = bad refl (v, subst (L v) (append-nil front) l)
not_whole L front (b ∷ rest) dead bad (v, l) = dead v rest l

fault_at : {V : Type 0} (L : V → List ℕ → Type 0) (front rest : List ℕ) → Begins (Any L) front → Dead L front rest → (rest ≡ [] → ¬ Any L front) → IsFault (Any L) (front ++ rest) (length front)
fault_at L front rest begins dead bad = record {
  bad = not_whole L front rest dead bad;
  within = omega (arith, length-append front rest);
  begins = subst (Begins (Any L)) (sym (take_at front rest (length front) refl)) begins;
  longest = not_longer L front rest dead;
}

front_length : (text front rest : List ℕ) → text ≡ front ++ rest → length front ≡ length text - length rest
front_length text front rest e = let h = ap length e in omega (arith, h, length-append front rest)

pub stuck_within : {V : Type 0} (L : V → List ℕ → Type 0) (text : List ℕ) (left : ℕ) → Stuck L text left → left ≤ length text
stuck_within L text left x = let h = ap length x.parts in let l = x.left_is in omega (arith, h, length-append x.front x.rest)

pub found_within : {V C : Type 0} (L : V → List ℕ → Type 0) (cap : V → C) (text : List ℕ) (c : C) (rest : List ℕ) → Found L cap text c rest → length rest ≤ length text
found_within L cap text c rest x = let h = ap length x.parts in omega (arith, h, length-append x.front rest)

pub stuck_fault : {V : Type 0} (L : V → List ℕ → Type 0) (text : List ℕ) (left : ℕ) → Stuck L text left → IsFault (Any L) text (length text - left)
stuck_fault L text left x =
    let whole = fault_at L x.front x.rest (x.more, (x.value, x.begins)) x.dead (λ e a. x.bad a.0 a.1) in
    let place : length x.front ≡ length text - left = front_length text x.front x.rest x.parts ∙ ap (λ (n : ℕ). length text - n) (sym x.left_is) in
    subst (IsFault (Any L) text) place (subst (λ (t : List ℕ). IsFault (Any L) t (length x.front)) (sym x.parts) whole)

pub found_fault : {V C : Type 0} (L : V → List ℕ → Type 0) (cap : V → C) (text : List ℕ) (c : C) (rest : List ℕ) → Found L cap text c rest → ¬ (rest ≡ []) → IsFault (Any L) text (length text - length rest)
found_fault L cap text c rest x some =
    let whole = fault_at L x.front rest ([], (x.value, subst (L x.value) (sym (append-nil x.front)) x.good)) x.dead (λ e a. some e) in
    subst (IsFault (Any L) text) (front_length text x.front rest x.parts) (subst (λ (t : List ℕ). IsFault (Any L) t (length x.front)) (sym x.parts) whole)

-- a scan with nothing left has read the text
pub found_whole : {V C : Type 0} (L : V → List ℕ → Type 0) (cap : V → C) (text : List ℕ) (c : C) → (x : Found L cap text c []) → text ≡ x.front
found_whole L cap text c x = x.parts ∙ append-nil x.front

pub nothing_left : (rest : List ℕ) → length rest < 1 → rest ≡ []
nothing_left [] h = refl
nothing_left (b ∷ rest) h = absurd (omega arith)

pub something_left : (rest : List ℕ) → 1 ≤ length rest → ¬ (rest ≡ [])
something_left [] h e = omega arith
something_left (b ∷ rest) h e = cc
