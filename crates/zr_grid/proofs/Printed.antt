-- What is printed of a grid spells it.
use Rattle.std.proofs.Common.{Result, Ok, Err, ◌≡◌, ℕ, ◌+◌, ◌-◌, ◌*◌, ◌/◌, ◌%◌, ◌^◌, ◌<◌, ◌≤◌, ◌⊎◌, Bool, true, false, cond, eqb, List, [], ◌∷◌, ◌++◌, length, refl, sym, ap, subst, ◌∙◌, inl, inr, append_assoc, arith}
use Rattle.std.specs.Prelude.{codes}
use Rattle.std.specs.List.{AllByRecursion, flat_map}
use Rattle.std.specs.Fmt.{decimal}
use Rattle.std.proofs.lemmas.Bool.{eqb-true, le-leb, and_from}
use Rattle.std.proofs.lemmas.List.{append-nil}
use Rattle.std.proofs.lemmas.List.Sums.{sum_by-cons, fold-append}
use Rattle.std.proofs.lemmas.List.Elements.{recursion_from_All}
use Rattle.std.proofs.lemmas.Fmt.{decimal_by_steps}
use Rattle.zr_grid.specs.declared.grid.Interval.{Interval}
use Rattle.zr_grid.specs.declared.grid.Keep.{Keep}
use Rattle.zr_grid.specs.declared.grid.Keep.TheVariants as keeps
use Rattle.zr_grid.specs.declared.grid.TheConstants.{MAX_INTERVALS, MAX_KEEP}
use Rattle.zr_grid.specs.Grammar.{is_digit, Blanks, Digits, Span, KeepPart, IntervalText, Grid, number_after}
use Rattle.std.specs.Prelude.{MatchResult}
use Rattle.zr_grid.specs.declared.grid.GridSpec.{GridSpec}
use Rattle.zr_grid.specs.declared.grid.GridFault.{GridFault}
use Rattle.zr_grid.specs.declared.grid.GridFault.TheVariants.{BadGrid, GridTooBig, NoMemory}
use Rattle.zr_grid.specs.declared.span.TheConstants.{MAX_SPAN}
use Rattle.zr_grid.specs.Grid.{IsGrid, IsInterval, IsTooBig, KeepsAbove, KeepsAtMost, ReadsGrid, total}
use Rattle.zr_grid.specs.Canonical.{keep_text, interval_text, next_text, grid_text}
use Rattle.zr_grid.proofs.Bytes.{each_append}

-- ---- numbers

digit_passes : (d : ℕ) → d < 10 → is_digit (48 + d) ≡ true
digit_passes d h = and_from _ _ (le-leb 48 (48 + d) (omega arith)) (le-leb (48 + d) 57 (omega arith))

one_digit : (n : ℕ) → n < 10 → Digits n ((48 + n) ∷ [])
one_digit n h = (omega arith, (digit_passes n h, tt), omega arith)

last_digit : (n : ℕ) (ds : List ℕ) → 10 ≤ n → Digits (n / 10) ds → Digits n (ds ++ (48 + n % 10) ∷ [])
last_digit n ds h digits =
    (longer ds, each_append is_digit ds ((48 + n % 10) ∷ []) digits.1 (digit_passes (n % 10) (omega arith), tt), number)
  where
    longer : (ds : List ℕ) → 0 < length (ds ++ (48 + n % 10) ∷ [])
    longer [] = omega arith
    longer (d ∷ ds) = omega arith

    number : n ≡ number_after 0 (ds ++ (48 + n % 10) ∷ [])
    number = let front = digits.2 in rw (fold-append (λ before d. before * 10 + (d - 48)) 0 ds ((48 + n % 10) ∷ [])) (omega arith)

spells_decimal : (n : ℕ) → n < 2 ^ 64 → Digits n (decimal n)
spells_decimal = decimal_by_steps Digits one_digit last_digit

-- ---- what is kept

abbrev KeepTail : Keep → List ℕ → Type 0
KeepTail keep after = (blank : List ℕ) × (part : List ℕ) × (keep_text keep ++ after ≡ blank ++ part) × Blanks blank × KeepPart keep part

most_brackets : (n : ℕ) (after : List ℕ) → n < 2 ^ 64 → Blanks after → KeepPart (keeps.Most n) (40 ∷ 107 ∷ 101 ∷ 101 ∷ 112 ∷ 61 ∷ (decimal n ++ 41 ∷ after))
most_brackets n after h blanks = inr (
  40 ∷ [],
  _,
  refl,
  refl,
  (
    [],
    _,
    refl,
    tt,
    (
      107 ∷ 101 ∷ 101 ∷ 112 ∷ [],
      _,
      refl,
      (107 ∷ 101 ∷ 101 ∷ 112 ∷ [], [], refl, refl, tt),
      (
        61 ∷ [],
        _,
        refl,
        (61 ∷ [], [], refl, refl, tt),
        (decimal n, 41 ∷ after, refl, (decimal n, [], sym (append-nil (decimal n)), spells_decimal n h, tt), (41 ∷ [], after, refl, refl, blanks)),
      ),
    ),
  ),
)

all_brackets : (after : List ℕ) → Blanks after → KeepPart keeps.All (40 ∷ 107 ∷ 101 ∷ 101 ∷ 112 ∷ 61 ∷ 97 ∷ 108 ∷ 108 ∷ 41 ∷ after)
all_brackets after blanks = inr (
  40 ∷ [],
  _,
  refl,
  refl,
  (
    [],
    _,
    refl,
    tt,
    (
      107 ∷ 101 ∷ 101 ∷ 112 ∷ [],
      _,
      refl,
      (107 ∷ 101 ∷ 101 ∷ 112 ∷ [], [], refl, refl, tt),
      (
        61 ∷ [],
        _,
        refl,
        (61 ∷ [], [], refl, refl, tt),
        (97 ∷ 108 ∷ 108 ∷ [], 41 ∷ after, refl, (97 ∷ 108 ∷ 108 ∷ [], [], refl, refl, tt), (41 ∷ [], after, refl, refl, blanks)),
      ),
    ),
  ),
)

most_tail : (n : ℕ) (after : List ℕ) (x : Bool) → eqb n 1 ≡ x → n < 2 ^ 64 → Blanks after
    → (blank : List ℕ) × (part : List ℕ) × (cond x [] (codes "(keep=" ++ decimal n ++ codes ")") ++ after ≡ blank ++ part) × Blanks blank × KeepPart (keeps.Most n) part
most_tail n after true e h blanks = (after, [], sym (append-nil after), blanks, inl (refl, ap (λ (k : ℕ). keeps.Most k) (eqb-true n 1 e)))
most_tail n after false e h blanks = ([], 40 ∷ 107 ∷ 101 ∷ 101 ∷ 112 ∷ 61 ∷ (decimal n ++ 41 ∷ after), simp append_assoc, tt, most_brackets n after h blanks)

keep_tail : (keep : Keep) (after : List ℕ) → KeepsAtMost MAX_KEEP keep → Blanks after → KeepTail keep after
keep_tail keeps.All after h blanks = ([], 40 ∷ 107 ∷ 101 ∷ 101 ∷ 112 ∷ 61 ∷ 97 ∷ 108 ∷ 108 ∷ 41 ∷ after, refl, tt, all_brackets after blanks)
keep_tail (keeps.Most n) after h blanks = most_tail n after (eqb n 1) refl (omega arith) blanks

-- ---- an interval

span_spelled : (w : ℕ) (blank : List ℕ) → 0 < w → w < 2 ^ 64 → Blanks blank → Span w (decimal w ++ 115 ∷ blank)
unfolding Span
span_spelled w blank pos h blanks = (w, 1, omega arith, ([], _, refl, tt, (decimal w, 115 ∷ blank, refl, (spells_decimal w h, pos), ([], _, refl, tt, (115 ∷ [], blank, refl, (115, refl, refl), blanks)))))

interval_spelled : (i : Interval) (before blank part : List ℕ) → Blanks before → Blanks blank → KeepPart i.keep part → 0 < i.count → i.count < 2 ^ 64 → 0 < i.width → i.width < 2 ^ 64
    → IntervalText i (before ++ (decimal i.count ++ 120 ∷ ((decimal i.width ++ 115 ∷ blank) ++ part)))
unfolding IntervalText
interval_spelled i before blank part hb ha keep count count_fits width width_fits =
    (before, _, refl, hb, (decimal i.count, _, refl, (decimal i.count, [], sym (append-nil (decimal i.count)), (spells_decimal i.count count_fits, count), tt), (120 ∷ [], _, refl, refl, (decimal i.width ++ 115 ∷ blank, part, refl, span_spelled i.width blank width width_fits ha, keep))))

interval_printed : (i : Interval) (before after : List ℕ) → Blanks before → Blanks after → IsInterval i → i.count ≤ MAX_INTERVALS → IntervalText i (before ++ (interval_text i ++ after))
interval_printed i before after hb ha is few =
    let tail = keep_tail i.keep after is.keep ha in
    let short : i.width ≤ 3153600000 = is.short in
    let regrouped : before ++ (interval_text i ++ after) ≡ before ++ (decimal i.count ++ 120 ∷ (decimal i.width ++ 115 ∷ (keep_text i.keep ++ after))) = simp append_assoc in
    let placed : before ++ (decimal i.count ++ 120 ∷ (decimal i.width ++ 115 ∷ (tail.0 ++ tail.1))) ≡ before ++ (decimal i.count ++ 120 ∷ ((decimal i.width ++ 115 ∷ tail.0) ++ tail.1)) = simp append_assoc in
    subst (IntervalText i) (sym (regrouped ∙ ap (λ (u : List ℕ). before ++ (decimal i.count ++ 120 ∷ (decimal i.width ++ 115 ∷ u))) tail.2 ∙ placed))
    (interval_spelled i before tail.0 tail.1 hb tail.3 tail.4 is.count (omega arith) is.width (omega arith))

-- ---- a grid

total_next : (i : Interval) (is : List Interval) → total (i ∷ is) ≡ i.count + total is
total_next i is = sum_by-cons (λ (interval : Interval). interval.count) i is

printed_from : (before : List ℕ) (i : Interval) (is : List Interval) → Blanks before → AllByRecursion IsInterval (i ∷ is) → total (i ∷ is) ≤ MAX_INTERVALS → Grid (i ∷ is) (before ++ (interval_text i ++ flat_map next_text is))
printed_from before i [] hb each few = let next = total_next i [] in interval_printed i before [] hb tt each.0 (omega arith)
printed_from before i (j ∷ is) hb each few =
    let next = total_next i (j ∷ is) in
    let parts : before ++ (interval_text i ++ flat_map next_text (j ∷ is)) ≡ (before ++ (interval_text i ++ 32 ∷ [])) ++ (124 ∷ (32 ∷ [] ++ (interval_text j ++ flat_map next_text is))) = simp append_assoc in (
      before ++ (interval_text i ++ 32 ∷ []),
      124 ∷ (32 ∷ [] ++ (interval_text j ++ flat_map next_text is)),
      parts,
      interval_printed i before (32 ∷ []) hb (refl, tt) each.0 (omega arith),
      (124 ∷ [], 32 ∷ [] ++ (interval_text j ++ flat_map next_text is), refl, refl, printed_from (32 ∷ []) j is (refl, tt) each.1 (omega arith)),
    )

printed : (is : List Interval) → 0 < length is → AllByRecursion IsInterval is → total is ≤ MAX_INTERVALS → Grid is (grid_text is)
printed [] some each few = absurd (omega arith)
printed (i ∷ is) some each few = printed_from [] i is tt each few

-- the canonical text of a grid spells the grid
pub grid_printed : (is : List Interval) (text : List ℕ) → text ≡ grid_text is → IsGrid is → Grid is text
grid_printed is text e grid = subst (Grid is) (sym e) (printed is grid.some (recursion_from_All IsInterval is grid.each) grid.few)

-- ---- read again

not_over : (is : List Interval) → IsGrid is → IsTooBig is → ⊥
not_over is grid (inl above) = let few = grid.few in omega arith
not_over is grid (inr (k, x, h, e, over)) = over_one x (subst IsInterval e (grid.each k x h)) over
  where
    over_keep : (keep : Keep) → KeepsAtMost MAX_KEEP keep → KeepsAbove MAX_KEEP keep → ⊥
    over_keep keeps.All within above = above
    over_keep (keeps.Most n) within above = omega arith

    over_one : (x : Interval) → IsInterval x → (MAX_SPAN < x.width) ⊎ KeepsAbove MAX_KEEP x.keep → ⊥
    over_one x within (inl width) = let short = within.short in omega arith
    over_one x within (inr keep) = over_keep x.keep within.keep keep

pub read_again : (is : List Interval) (answer : Result GridSpec GridFault) → IsGrid is → ReadsGrid (grid_text is) answer → MatchResult answer (λ spec. spec.intervals ≡ is) (λ fault. fault ≡ NoMemory)
read_again is (Ok spec) grid reads = sym ((reads.1 is).0 (grid_printed is (grid_text is) refl grid))
read_again is (Err GridTooBig) grid reads = absurd (not_over is grid (reads.1 is (grid_printed is (grid_text is) refl grid)))
read_again is (Err (BadGrid place)) grid reads = absurd (reads.bad (is, grid_printed is (grid_text is) refl grid))
read_again is (Err NoMemory) grid reads = refl
