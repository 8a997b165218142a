-- Grids are scanned as the grammar says.
use Rattle.std.proofs.Common.{◌≡◌, ℕ, zero, suc, ◌-◌, ◌<◌, ◌≤◌, Bool, true, false, cond, eqb, List, [], ◌∷◌, ◌++◌, length, Result, Ok, Err, refl, sym, ap, subst, ◌∙◌, inl, inr, append_assoc, arith, take, drop, get_or}
use Rattle.std.proofs.lemmas.Bool.{eqb-true, eq-eqb}
use Rattle.std.proofs.lemmas.List.{append-nil, take_all}
use Rattle.zr_grid.specs.declared.grid.Interval.{Interval}
use Rattle.zr_grid.specs.declared.form.Form.{Form}
use Rattle.zr_grid.specs.Grammar.{◌⨾◌, Word, IntervalText, Grid}
use Rattle.zr_grid.specs.Scan.{◌>>=◌, form_at, opt_at, grid_at}
use Rattle.zr_grid.proofs.Sequence.{Scanned, Both, both_caps, both_here, scanned_as, bind_assoc}
use Rattle.zr_grid.proofs.Bytes.{apart, is_byte}
use Rattle.zr_grid.proofs.Words.{Opt, opt_inside, opt_outside, starts_opt}
use Rattle.zr_grid.proofs.Faults.{found_within}
use Rattle.zr_grid.proofs.Forms.{cap_interval, scans_form, within_form, is_no_bar, bar_disjoint}

-- ---- the grammar with its tail apart

abbrev Tail : List Interval → List ℕ → Type 0
Tail = Opt 124 [] Grid

from_grid : (is : List Interval) (t : List ℕ) → Grid is t → (v : Interval × List Interval) × Both IntervalText Tail v t × (is ≡ v.0 ∷ v.1)
from_grid [] t l = absurd l
from_grid (i ∷ []) t l = ((i, []), (t, [], sym (append-nil t), l, inl (refl, refl)), refl)
from_grid (i ∷ j ∷ is) t (g, h, e, li, bar) = ((i, j ∷ is), (g, h, e, li, inr bar), refl)

to_grid_more : (i : Interval) (is : List Interval) (t g h : List ℕ) → t ≡ g ++ h → IntervalText i g → (Word (124 ∷ []) ⨾ Grid is) h → Grid (i ∷ is) t
to_grid_more i [] t g h e li (g2, h2, e2, bar, none) = absurd none
to_grid_more i (j ∷ is) t g h e li bar = (g, h, e, li, bar)

to_grid : (v : Interval × List Interval) (t : List ℕ) → Both IntervalText Tail v t → Grid (v.0 ∷ v.1) t
to_grid (i, is) t (g, h, e, li, inl p) = subst (λ (others : List Interval). Grid (i ∷ others) t) (sym p.1) (subst (IntervalText i) (sym (e ∙ ap (λ (u : List ℕ). g ++ u) p.0 ∙ append-nil g)) li)
to_grid (i, is) t (g, h, e, li, inr bar) = to_grid_more i is t g h e li bar

-- ---- the scan

abbrev pub cap_grid : List Interval → List Form
cap_grid [] = []
cap_grid (i ∷ is) = cap_interval i ∷ cap_grid is

tail_step : (n b : ℕ) (bs : List ℕ) (x : Bool) → eqb b 124 ≡ x → Scanned Grid cap_grid bs (grid_at n bs) → Scanned Tail cap_grid (b ∷ bs) (cond x (grid_at n bs) (Ok ([], b ∷ bs)))
tail_step n b bs true e f = let bar : 124 ≡ b = sym (eqb-true b 124 e) in subst (λ (c : ℕ). Scanned Tail cap_grid (c ∷ bs) (grid_at n bs)) bar (opt_inside 124 [] Grid cap_grid bs (grid_at n bs) f)
tail_step n b bs false e f = opt_outside 124 [] Grid cap_grid (b ∷ bs) e

tail_scan : (n : ℕ) → ((text : List ℕ) → length text < n → Scanned Grid cap_grid text (grid_at n text)) → (text : List ℕ) → length text < suc n → Scanned Tail cap_grid text (opt_at 124 [] (grid_at n) text)
tail_scan n scans [] h = opt_outside 124 [] Grid cap_grid [] tt
tail_scan n scans (b ∷ bs) h = tail_step n b bs (eqb b 124) refl (scans bs (omega arith))

abbrev list_done : List Form × List ℕ → Result (List Form × List ℕ) ℕ
list_done x = Ok x

abbrev pair_done : (Form × List Form) × List ℕ → Result ((Form × List Form) × List ℕ) ℕ
pair_done x = Ok x

abbrev grid_pair : ℕ → List ℕ → Result ((Form × List Form) × List ℕ) ℕ
grid_pair n text = form_at text >>= λ a. opt_at 124 [] (grid_at n) a.1 >>= λ b. pair_done ((a.0, b.0), b.1)

grid_shape : (n : ℕ) (text : List ℕ) → grid_at (suc n) text ≡ (grid_pair n text >>= λ x. list_done (x.0.0 ∷ x.0.1, x.1))
grid_shape n text = simp bind_assoc

shorter : (text : List ℕ) (a : Form) (r : List ℕ) → form_at text ≡ Ok (a, r) → length r ≤ length text
shorter text a r e = found_within IntervalText cap_interval text a r (subst (Scanned IntervalText cap_interval text) e (scans_form text))

pub scans_grid : (n : ℕ) (text : List ℕ) → length text < n → Scanned Grid cap_grid text (grid_at n text)
scans_grid zero text h = absurd (omega arith)
scans_grid (suc n) text h = subst (Scanned Grid cap_grid text) (sym (grid_shape n text))
    (scanned_as (Both IntervalText Tail) Grid (both_caps cap_interval cap_grid) cap_grid (λ v. v.0 ∷ v.1) (λ c. c.0 ∷ c.1) to_grid from_grid (λ v t l. refl) text (grid_pair n text)
    (both_here IntervalText Tail cap_interval cap_grid (opt_at 124 [] (grid_at n)) (apart is_no_bar (is_byte 124) IntervalText Tail bar_disjoint within_form (starts_opt 124 [] Grid)) [] [] (inl (refl, refl)) text (form_at text) (scans_form text)
    (λ a r e. tail_scan n (scans_grid n) r (let short : length r ≤ length text = shorter text a r e in omega arith))))

-- ---- the loop

abbrev pub with_front : List Form → Result (List Form × List ℕ) ℕ → Result (List Form × List ℕ) ℕ
with_front front scan = scan >>= λ x. list_done (front ++ x.0, x.1)

tail_is : (after : List ℕ) → 1 ≤ length after → after ≡ get_or after 0 0 ∷ take (length after - 1) (drop 1 after)
tail_is [] h = absurd (omega arith)
tail_is (b ∷ bs) h = ap (λ (t : List ℕ). b ∷ t) (sym (take_all (length (b ∷ bs) - 1) bs (omega arith)))

pub tail_shorter : (rest : List ℕ) (form : Form) (after : List ℕ) → form_at rest ≡ Ok (form, after) → 1 ≤ length after → length (take (length after - 1) (drop 1 after)) < length rest
tail_shorter rest form after e some = let short = shorter rest form after e in let whole = ap length (tail_is after some) in omega arith

open_bar : (c n : ℕ) (tail : List ℕ) → c ≡ 124 → opt_at 124 [] (grid_at n) (c ∷ tail) ≡ grid_at n tail
open_bar c n tail bar = rw (eq-eqb c 124 bar) refl

front_more : (front : List Form) (form : Form) (scan : Result (List Form × List ℕ) ℕ) → with_front front (scan >>= λ others. list_done (form ∷ others.0, others.1)) ≡ with_front (front ++ form ∷ []) scan
front_more front form (Ok x) = ap (λ (fs : List Form). list_done (fs, x.1)) (sym (append_assoc front (form ∷ []) x.0))
front_more front form (Err left) = refl

grid_opened : (n : ℕ) (rest : List ℕ) (form : Form) (c : ℕ) (tail : List ℕ) → form_at rest ≡ Ok (form, c ∷ tail) → c ≡ 124 → grid_at (suc n) rest ≡ (grid_at n tail >>= λ others. list_done (form ∷ others.0, others.1))
grid_opened n rest form c tail e bar = ap (λ (scan : Result (Form × List ℕ) ℕ). scan >>= λ form. opt_at 124 [] (grid_at n) form.1 >>= λ others. list_done (form.0 ∷ others.0, others.1)) e ∙ ap (λ (scan : Result (List Form × List ℕ) ℕ). scan >>= λ others. list_done (form ∷ others.0, others.1)) (open_bar c n tail bar)

abbrev pub Reading : List Form → List ℕ → Result (List Form × List ℕ) ℕ → Type 0
Reading front rest target = (n : ℕ) × (length rest < n) × (with_front front (grid_at n rest) ≡ target)

reading_step : (n : ℕ) (front : List Form) (rest : List ℕ) (form : Form) (c : ℕ) (tail : List ℕ) (target : Result (List Form × List ℕ) ℕ) → form_at rest ≡ Ok (form, c ∷ tail) → c ≡ 124 → length tail < length rest
    → length rest < n → with_front front (grid_at n rest) ≡ target → Reading (front ++ form ∷ []) tail target
reading_step zero front rest form c tail target e bar short long before = absurd (omega arith)
reading_step (suc n) front rest form c tail target e bar short long before =
    (n, omega arith, sym (front_more front form (grid_at n tail)) ∙ ap (with_front front) (sym (grid_opened n rest form c tail e bar)) ∙ before)

abbrev scanned_form : Form → List ℕ → Result (Form × List ℕ) ℕ
scanned_form form rest = Ok (form, rest)

pub reading_more : (front : List Form) (rest : List ℕ) (form : Form) (after : List ℕ) (target : Result (List Form × List ℕ) ℕ) → form_at rest ≡ Ok (form, after) → 1 ≤ length after → get_or after 0 0 ≡ 124
    → Reading front rest target → Reading (front ++ form ∷ []) (take (length after - 1) (drop 1 after)) target
reading_more front rest form after target e some bar (n, long, before) =
    let opened : form_at rest ≡ Ok (form, get_or after 0 0 ∷ take (length after - 1) (drop 1 after)) = e ∙ ap (λ (t : List ℕ). scanned_form form t) (tail_is after some) in
    reading_step n front rest form (get_or after 0 0) (take (length after - 1) (drop 1 after)) target opened bar (tail_shorter rest form after e some) long before

-- the same for a list that is known to be so
pub reading_pushed : (front pushed : List Form) (rest : List ℕ) (form : Form) (after : List ℕ) (target : Result (List Form × List ℕ) ℕ) → pushed ≡ front ++ form ∷ [] → form_at rest ≡ Ok (form, after) → 1 ≤ length after → get_or after 0 0 ≡ 124
    → Reading front rest target → (n : ℕ) × (length (take (length after - 1) (drop 1 after)) < n) × (with_front pushed (grid_at n (take (length after - 1) (drop 1 after))) ≡ target)
reading_pushed front pushed rest form after target same e some bar before = subst (λ (fs : List Form). Reading fs (take (length after - 1) (drop 1 after)) target) (sym same) (reading_more front rest form after target e some bar before)
