-- Spans are scanned as the grammar says.
use Rattle.std.proofs.Common.{◌≡◌, ℕ, zero, suc, ◌-◌, ◌*◌, ◌^◌, ◌<◌, ◌≤◌, ◌||◌, List, [], ◌∷◌, length, Result, Ok, Err, refl, sym, subst, ◌∙◌, inl, inr, arith}
use Rattle.std.proofs.lemmas.Bool.{cases_lt, or_left, or_right}
use Rattle.zr_grid.specs.Grammar.{is_blank, is_digit, Counted, UnitOf, Span}
use Rattle.zr_grid.specs.Scan.{◌>>=◌, capped, counted_at, unit_at, span_at}
use Rattle.zr_grid.specs.declared.span.SpanFault.TheVariants.{BadSpan, SpanTooBig}
use Rattle.zr_grid.specs.declared.span.TheConstants.{MAX_SPAN}
use Rattle.zr_grid.specs.Span.{ReadsSpan}
use Rattle.zr_grid.proofs.Faults.{found_fault, stuck_fault, found_whole, nothing_left, something_left}
use Rattle.zr_grid.proofs.Sequence.{Found, Stuck, Scans, Scanned, Both, both_caps, pair, scans_both, scans_as, bind_assoc}
use Rattle.zr_grid.proofs.Bytes.{apart, within_both, starts_either, starts_first, NeverEmpty, Starts, blank_disjoint, unit_disjoint, disjoint_swap, disjoint_or, is_unit, is_of_span, Within, within_weaker, never_both, never_after}
use Rattle.zr_grid.proofs.Leaves.{Gap, plain, exact, skip_at, scans_blanks, within_blanks, starts_blanks, scans_counted, within_counted, starts_counted, never_counted, scans_unit, within_unit, starts_unit, never_unit, unit_positive}

-- the five parts of a span, from the last one on
abbrev UnitPart : ℕ × Unit {0} → List ℕ → Type 0
UnitPart = Both UnitOf Gap

abbrev Second : Unit {0} × (ℕ × Unit {0}) → List ℕ → Type 0
Second = Both Gap UnitPart

abbrev First : ℕ × (Unit {0} × (ℕ × Unit {0})) → List ℕ → Type 0
First = Both Counted Second

abbrev Whole : Unit {0} × (ℕ × (Unit {0} × (ℕ × Unit {0}))) → List ℕ → Type 0
Whole = Both Gap First

scans_unit_part : Scans UnitPart (both_caps exact plain) (pair unit_at skip_at)
scans_unit_part = scans_both UnitOf Gap exact plain unit_at skip_at
    (apart is_unit is_blank UnitOf Gap (disjoint_swap is_blank is_unit (blank_disjoint is_unit refl refl)) within_unit starts_blanks)
    tt [] tt scans_unit scans_blanks

some_unit_part : UnitPart (1, tt) (115 ∷ [])
some_unit_part = (115 ∷ [], [], refl, (115, refl, refl), tt)

starts_unit_part : Starts is_unit UnitPart
starts_unit_part = starts_first is_unit UnitOf Gap never_unit starts_unit

scans_second : Scans Second (both_caps plain (both_caps exact plain)) (pair skip_at (pair unit_at skip_at))
scans_second = scans_both Gap UnitPart plain (both_caps exact plain) skip_at (pair unit_at skip_at)
    (apart is_blank is_unit Gap UnitPart (blank_disjoint is_unit refl refl) within_blanks starts_unit_part)
    (1, tt) (115 ∷ []) some_unit_part scans_blanks scans_unit_part

some_second : Second (tt, (1, tt)) (115 ∷ [])
some_second = ([], 115 ∷ [], refl, tt, some_unit_part)

scans_first : Scans First (both_caps capped (both_caps plain (both_caps exact plain))) (pair counted_at (pair skip_at (pair unit_at skip_at)))
scans_first = scans_both Counted Second capped (both_caps plain (both_caps exact plain)) counted_at (pair skip_at (pair unit_at skip_at))
    (apart is_digit (λ c. is_blank c || is_unit c) Counted Second (disjoint_or is_digit is_blank is_unit (disjoint_swap is_blank is_digit (blank_disjoint is_digit refl refl)) (unit_disjoint is_digit refl refl refl refl refl)) within_counted (starts_either is_blank is_unit Gap UnitPart starts_blanks starts_unit_part))
    (tt, (1, tt)) (115 ∷ []) some_second scans_counted scans_second

some_first : First (1, (tt, (1, tt))) (49 ∷ 115 ∷ [])
some_first = (49 ∷ [], 115 ∷ [], refl, ((omega arith, (refl, tt), refl), omega arith), some_second)

starts_first_part : Starts is_digit First
starts_first_part = starts_first is_digit Counted Second never_counted starts_counted

scans_whole : Scans Whole (both_caps plain (both_caps capped (both_caps plain (both_caps exact plain)))) (pair skip_at (pair counted_at (pair skip_at (pair unit_at skip_at))))
scans_whole = scans_both Gap First plain (both_caps capped (both_caps plain (both_caps exact plain))) skip_at (pair counted_at (pair skip_at (pair unit_at skip_at)))
    (apart is_blank is_digit Gap First (blank_disjoint is_digit refl refl) within_blanks starts_first_part)
    (1, (tt, (1, tt))) (49 ∷ 115 ∷ []) some_first scans_blanks scans_first

some_whole : Whole (tt, (1, (tt, (1, tt)))) (49 ∷ 115 ∷ [])
some_whole = ([], 49 ∷ 115 ∷ [], refl, tt, some_first)

never_whole : NeverEmpty Whole
never_whole = never_after Gap First (never_both Counted Second never_counted)

within_whole : Within is_of_span Whole
within_whole = within_both is_of_span Gap First blanks
    (within_both is_of_span Counted Second (within_weaker is_digit is_of_span Counted (λ b h. or_left (is_blank b || is_digit b) (is_unit b) (or_right (is_blank b) (is_digit b) h)) within_counted)
    (within_both is_of_span Gap UnitPart blanks
    (within_both is_of_span UnitOf Gap (within_weaker is_unit is_of_span UnitOf (λ b h. or_right (is_blank b || is_digit b) (is_unit b) h) within_unit) blanks)))
  where
    blanks : Within is_of_span Gap
    blanks = within_weaker is_blank is_of_span Gap (λ b h. or_left (is_blank b || is_digit b) (is_unit b) (or_left (is_blank b) (is_digit b) h)) within_blanks

-- ---- the value

capped_product : (n k : ℕ) → capped (capped n * suc k) ≡ capped (n * suc k)
capped_product n k =
    elim (cases_lt (2 ^ 64 - 1) n) [
      | inl above ↦ let e : capped n ≡ 2 ^ 64 - 1 = omega arith in rw e (omega arith)
      | inr within ↦ let e : capped n ≡ n = omega arith in rw e refl
    ]

capped_span : (n u : ℕ) → 0 < u → capped (capped n * u) ≡ capped (n * u)
capped_span n zero h = absurd (omega arith)
capped_span n (suc k) h = capped_product n k

abbrev seconds_of : Unit {0} × (ℕ × (Unit {0} × (ℕ × Unit {0}))) → ℕ
seconds_of v = v.1.0 * v.1.1.1.0

abbrev capped_seconds : Unit {0} × (ℕ × (Unit {0} × (ℕ × Unit {0}))) → ℕ
capped_seconds v = capped (v.1.0 * v.1.1.1.0)

to_span : (v : Unit {0} × (ℕ × (Unit {0} × (ℕ × Unit {0})))) (t : List ℕ) → Whole v t → Span (seconds_of v) t
unfolding Span
to_span v t l = (v.1.0, v.1.1.1.0, refl, l)

from_span : (s : ℕ) (t : List ℕ) → Span s t → (v : Unit {0} × (ℕ × (Unit {0} × (ℕ × Unit {0})))) × Whole v t × (s ≡ seconds_of v)
unfolding Span
from_span s t (n, u, e, l) = ((tt, (n, (tt, (u, tt)))), l, e)

agrees : (v : Unit {0} × (ℕ × (Unit {0} × (ℕ × Unit {0})))) (t : List ℕ) → Whole v t → capped_seconds (both_caps plain (both_caps capped (both_caps plain (both_caps exact plain))) v) ≡ capped (seconds_of v)
agrees v t (f1, b1, e1, l1, (f2, b2, e2, l2, (f3, b3, e3, l3, (f4, b4, e4, l4, l5)))) = capped_span v.1.0 v.1.1.1.0 (unit_positive v.1.1.1.0 f4 l4)

pub some_span : Span 1 (49 ∷ 115 ∷ [])
some_span = to_span (tt, (1, (tt, (1, tt)))) (49 ∷ 115 ∷ []) some_whole

pub never_span : NeverEmpty Span
never_span s l = let v = from_span s [] l in never_whole v.0 v.1

pub within_span : Within is_of_span Span
within_span s t l = let v = from_span s t l in within_whole v.0 t v.1

-- ---- the scan

abbrev valued : Result ((Unit {0} × (ℕ × (Unit {0} × (ℕ × Unit {0})))) × List ℕ) ℕ → Result (ℕ × List ℕ) ℕ
valued scan = scan >>= λ x. Ok (capped_seconds x.0, x.1)

span_at_is : (text : List ℕ) → span_at text ≡ valued (pair skip_at (pair counted_at (pair skip_at (pair unit_at skip_at))) text)
unfolding span_at
span_at_is text = simp bind_assoc

pub scans_span : Scans Span capped span_at
scans_span text = subst (Scanned Span capped text) (sym (span_at_is text))
    (scans_as Whole Span (both_caps plain (both_caps capped (both_caps plain (both_caps exact plain)))) capped (pair skip_at (pair counted_at (pair skip_at (pair unit_at skip_at)))) seconds_of capped_seconds to_span from_span agrees scans_whole text)

-- ---- what the reader answers

pub span_found : (text : List ℕ) (c : ℕ) (rest : List ℕ) → span_at text ≡ Ok (c, rest) → Found Span capped text c rest
span_found text c rest e = subst (Scanned Span capped text) e (scans_span text)

pub span_stuck : (text : List ℕ) (left : ℕ) → span_at text ≡ Err left → Stuck Span text left
span_stuck text left e = subst (Scanned Span capped text) e (scans_span text)

whole_span : (text : List ℕ) (c : ℕ) → span_at text ≡ Ok (c, []) → (value : ℕ) × Span value text × (c ≡ capped value)
whole_span text c e =
    let x = span_found text c [] e in
    (x.value, subst (Span x.value) (sym (found_whole Span capped text c x)) x.good, x.only x.value x.good)

only_span : (text : List ℕ) (c : ℕ) → span_at text ≡ Ok (c, []) → (s : ℕ) → Span s text → c ≡ capped s
only_span text c e s l = let x = span_found text c [] e in x.only s (subst (Span s) (found_whole Span capped text c x) l)

pub reads_ok : (text : List ℕ) (c : ℕ) (rest : List ℕ) → span_at text ≡ Ok (c, rest) → length rest < 1 → c ≤ MAX_SPAN → ReadsSpan text (Ok c)
reads_ok text c rest e short within =
    let none : rest ≡ [] = nothing_left rest short in
    let all : span_at text ≡ Ok (c, []) = cc in
    let w = whole_span text c all in
    let value_is : w.0 ≡ c = (let capped_is : c ≡ capped w.0 = w.2 in omega arith) in
    (within, λ s. (λ l. (let capped_is : c ≡ capped s = only_span text c all s l in omega arith), λ same. subst (λ (n : ℕ). Span n text) (value_is ∙ sym same) w.1))

pub reads_big : (text : List ℕ) (c : ℕ) (rest : List ℕ) → span_at text ≡ Ok (c, rest) → length rest < 1 → MAX_SPAN < c → ReadsSpan text (Err SpanTooBig)
reads_big text c rest e short above =
    let none : rest ≡ [] = nothing_left rest short in
    let all : span_at text ≡ Ok (c, []) = cc in
    let w = whole_span text c all in
    ((w.0, w.1), λ s l. (let capped_is : c ≡ capped s = only_span text c all s l in omega arith))

pub reads_more : (text : List ℕ) (c : ℕ) (rest : List ℕ) → span_at text ≡ Ok (c, rest) → 1 ≤ length rest → ReadsSpan text (Err (BadSpan (length text - length rest)))
reads_more text c rest e some = found_fault Span capped text c rest (span_found text c rest e) (something_left rest some)

pub reads_stuck : (text : List ℕ) (left : ℕ) → span_at text ≡ Err left → ReadsSpan text (Err (BadSpan (length text - left)))
reads_stuck text left e = stuck_fault Span text left (span_stuck text left e)
