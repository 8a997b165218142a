-- The numbers of a grid against their limits, and what `read_grid` answers.
use Rattle.std.proofs.Common.{◌≡◌, ℕ, zero, suc, ◌+◌, ◌-◌, ◌*◌, ◌<◌, ◌≤◌, ◌⊎◌, Bool, true, false, ◌||◌, cond, ltb, List, [], ◌∷◌, length, Option, Some, None, Result, Ok, Err, refl, sym, ap, subst, ◌∙◌, inl, inr, arith}
use Rattle.std.specs.Prelude.{Any}
use Rattle.std.specs.List.{AllByRecursion}
use Rattle.std.specs.Option.{option_map}
use Rattle.std.proofs.lemmas.Bool.{ltb-true, ltb-false, or_cases, or_parts}
use Rattle.std.proofs.lemmas.List.Sums.{sum_by-cons}
use Rattle.std.proofs.lemmas.List.Elements.{All-from_recursion}
use Rattle.zr_grid.specs.declared.grid.Interval.{Interval}
use Rattle.zr_grid.specs.declared.grid.Keep.{Keep}
use Rattle.zr_grid.specs.declared.grid.Keep.TheVariants as keeps
use Rattle.zr_grid.specs.declared.grid.GridFault.{GridFault}
use Rattle.zr_grid.specs.declared.grid.GridFault.TheVariants.{BadGrid, GridTooBig, NoMemory}
use Rattle.zr_grid.specs.declared.grid.Unread.{Unread}
use Rattle.zr_grid.specs.declared.grid.Unread.TheVariants as unread
use Rattle.zr_grid.specs.declared.form.Form.{Form}
use Rattle.zr_grid.specs.declared.span.TheConstants.{MAX_SPAN}
use Rattle.zr_grid.specs.declared.grid.TheConstants.{MAX_INTERVALS, MAX_KEEP}
use Rattle.zr_grid.specs.Grammar.{Grid, IntervalText, Span}
use Rattle.zr_grid.specs.Fault.{IsFault}
use Rattle.zr_grid.specs.Grid.{IsGrid, IsInterval, IsTooBig, IsGridText, KeepsAbove, KeepsAtMost, ReadsGrid, total}
use Rattle.zr_grid.specs.Scan.{capped, grid_at, ended, forms_at, GivesForms}
use Rattle.zr_grid.specs.Build.{is_big_keep, is_big_form, interval_from, keep_from, build_at, Builds, IsLeft, fault_of}
use Rattle.zr_grid.proofs.Sequence.{Found, Scanned}
use Rattle.zr_grid.proofs.Faults.{found_fault, found_within, found_whole, stuck_fault, stuck_within, something_left}
use Rattle.zr_grid.proofs.Forms.{cap_interval, cap_keep}
use Rattle.zr_grid.proofs.Grids.{cap_grid, scans_grid}
use Rattle.zr_grid.proofs.Leaves.{unit_positive}

-- ---- each interval has a count and a width

abbrev HasSize : Interval → Type 0
HasSize interval = (0 < interval.count) × (0 < interval.width)

product_positive : (s n u : ℕ) → s ≡ n * u → 0 < n → 0 < u → 0 < s
product_positive s zero u e hn hu = absurd (omega arith)
product_positive s (suc n) zero e hn hu = absurd (omega arith)
product_positive s (suc n) (suc u) e hn hu = omega arith

span_positive : (s : ℕ) (t : List ℕ) → Span s t → 0 < s
unfolding Span
span_positive s t (n, u, e, (f1, b1, e1, l1, (f2, b2, e2, l2, (f3, b3, e3, l3, (f4, b4, e4, l4, l5))))) = product_positive s n u e l2.1 (unit_positive u f4 l4)

has_size : (i : Interval) (t : List ℕ) → IntervalText i t → HasSize i
unfolding IntervalText
has_size i t (f1, b1, e1, l1, (f2, b2, e2, (f3, b3, e3, l3, l4), (f5, b5, e5, l5, (f6, b6, e6, l6, l7)))) = (l3.1, span_positive i.width f6 l6)

have_sizes : (is : List Interval) (t : List ℕ) → Grid is t → AllByRecursion HasSize is
have_sizes [] t l = absurd l
have_sizes (i ∷ []) t l = (has_size i t l, tt)
have_sizes (i ∷ j ∷ is) t (g, h, e, li, (g2, h2, e2, bar, others)) = (has_size i g li, have_sizes (j ∷ is) h2 others)

some_intervals : (is : List Interval) (t : List ℕ) → Grid is t → 0 < length is
some_intervals [] t l = absurd l
some_intervals (i ∷ is) t l = omega arith

-- ---- what was built

total_next : (i : Interval) (is : List Interval) → total (i ∷ is) ≡ i.count + total is
total_next i is = sum_by-cons (λ (interval : Interval). interval.count) i is

abbrev Over : Interval → Type 0
Over interval = (MAX_SPAN < interval.width) ⊎ KeepsAbove MAX_KEEP interval.keep

any_here : (i : Interval) (is : List Interval) → Over i → Any Over (i ∷ is)
any_here i is over = (0, i, omega arith, refl, over)

any_later : (i : Interval) (is : List Interval) → Any Over is → Any Over (i ∷ is)
any_later i is (k, x, lt, e, over) = (suc k, x, omega arith, e, over)

big_keep : (keep : Keep) → is_big_keep (cap_keep keep) ≡ true → KeepsAbove MAX_KEEP keep
big_keep keeps.All e = cc
big_keep (keeps.Most n) e = let above = ltb-true MAX_KEEP (capped n) e in omega arith

big_form : (i : Interval) → is_big_form (cap_interval i) ≡ true → (MAX_INTERVALS < i.count) ⊎ Over i
big_form i e =
    elim (or_cases (ltb MAX_INTERVALS (capped i.count) || ltb MAX_SPAN (capped i.width)) (is_big_keep (cap_keep i.keep)) e) [
      | inl h ↦ elim (or_cases (ltb MAX_INTERVALS (capped i.count)) (ltb MAX_SPAN (capped i.width)) h) [
        | inl count ↦ inl (let above = ltb-true MAX_INTERVALS (capped i.count) count in omega arith)
        | inr width ↦ inr (inl (let above = ltb-true MAX_SPAN (capped i.width) width in omega arith))
      ]
      | inr h ↦ inr (inr (big_keep i.keep h))
    ]

abbrev NotBuilt : ℕ → List Interval → Type 0
NotBuilt before is = (MAX_INTERVALS < before + total is) ⊎ Any Over is

none_rest : {A B : Type 0} (f : A → B) (o : Option A) → option_map f o ≡ None → o ≡ None
none_rest f None e = refl
none_rest f (Some x) e = absurd cc

not_built_step : (before : ℕ) (i : Interval) (is : List Interval) (x y : Bool) → is_big_form (cap_interval i) ≡ x → ltb MAX_INTERVALS (before + capped i.count) ≡ y
    → cond x None (cond y None (option_map (λ intervals. interval_from (cap_interval i) ∷ intervals) (build_at (before + capped i.count) (cap_grid is)))) ≡ None
    → (build_at (before + capped i.count) (cap_grid is) ≡ None → NotBuilt (before + capped i.count) is) → NotBuilt before (i ∷ is)
not_built_step before i is true y big over e ih =
    elim (big_form i big) [
      | inl count ↦ inl (let next = total_next i is in omega arith)
      | inr over ↦ inr (any_here i is over)
    ]
not_built_step before i is false true big over e ih = inl (let above = ltb-true MAX_INTERVALS (before + capped i.count) over in let next = total_next i is in omega arith)
not_built_step before i is false false big over e ih =
    elim (ih (none_rest (λ intervals. interval_from (cap_interval i) ∷ intervals) (build_at (before + capped i.count) (cap_grid is)) e)) [
      | inl above ↦ inl (let next = total_next i is in omega arith)
      | inr later ↦ inr (any_later i is later)
    ]

not_built : (before : ℕ) (is : List Interval) → build_at before (cap_grid is) ≡ None → NotBuilt before is
not_built before [] e = absurd cc
not_built before (i ∷ is) e = not_built_step before i is (is_big_form (cap_interval i)) (ltb MAX_INTERVALS (before + capped i.count)) refl refl e (not_built (before + capped i.count) is)

abbrev IsSmall : Interval → Type 0
IsSmall i = (i.count ≤ MAX_INTERVALS) × (i.width ≤ MAX_SPAN) × KeepsAtMost MAX_KEEP i.keep

small_keep : (keep : Keep) → is_big_keep (cap_keep keep) ≡ false → KeepsAtMost MAX_KEEP keep × (keep_from (cap_keep keep) ≡ keep)
small_keep keeps.All e = (tt, refl)
small_keep (keeps.Most n) e = let within = ltb-false MAX_KEEP (capped n) e in (omega arith, let same : capped n ≡ n = omega arith in ap (λ (k : ℕ). keeps.Most k) same)

abbrev interval_made : ℕ → ℕ → Keep → Interval
interval_made count width keep = record { count = count; width = width; keep = keep }

same_interval : (i : Interval) (count width : ℕ) (keep : Keep) → count ≡ i.count → width ≡ i.width → keep ≡ i.keep → interval_made count width keep ≡ i
same_interval i count width keep a b c = rw (a, b, c) refl

small_form : (i : Interval) → is_big_form (cap_interval i) ≡ false → IsSmall i × (interval_from (cap_interval i) ≡ i) × (capped i.count ≡ i.count)
small_form i e =
    let parts = or_parts (ltb MAX_INTERVALS (capped i.count) || ltb MAX_SPAN (capped i.width)) (is_big_keep (cap_keep i.keep)) e in
    let sizes = or_parts (ltb MAX_INTERVALS (capped i.count)) (ltb MAX_SPAN (capped i.width)) parts.0 in
    let count = ltb-false MAX_INTERVALS (capped i.count) sizes.0 in
    let width = ltb-false MAX_SPAN (capped i.width) sizes.1 in
    let keep = small_keep i.keep parts.1 in
    let same_count : capped i.count ≡ i.count = omega arith in
    let same_width : capped i.width ≡ i.width = omega arith in
    ((omega arith, omega arith, keep.0), same_interval i (capped i.count) (capped i.width) (keep_from (cap_keep i.keep)) same_count same_width keep.1, same_count)

record Built (before : ℕ) (is items : List Interval) : Type 0 where
  same : items ≡ is
  small : AllByRecursion IsSmall is
  few : before ≤ MAX_INTERVALS → before + total is ≤ MAX_INTERVALS

some_rest : {A : Type 0} (x : A) (o : Option (List A)) (items : List A) → option_map (λ others. x ∷ others) o ≡ Some items → (others : List A) × (o ≡ Some others) × (items ≡ x ∷ others)
some_rest x None items e = absurd cc
some_rest x (Some others) items e = (others, refl, cc)

built_step : (before : ℕ) (i : Interval) (is items : List Interval) (x y : Bool) → is_big_form (cap_interval i) ≡ x → ltb MAX_INTERVALS (before + capped i.count) ≡ y
    → cond x None (cond y None (option_map (λ intervals. interval_from (cap_interval i) ∷ intervals) (build_at (before + capped i.count) (cap_grid is)))) ≡ Some items
    → ((others : List Interval) → build_at (before + capped i.count) (cap_grid is) ≡ Some others → Built (before + capped i.count) is others) → Built before (i ∷ is) items
built_step before i is items true y big over e ih = absurd cc
built_step before i is items false true big over e ih = absurd cc
built_step before i is items false false big over e ih =
    let rest = some_rest (interval_from (cap_interval i)) (build_at (before + capped i.count) (cap_grid is)) items e in
    let built = ih rest.0 rest.1 in
    let here = small_form i big in
    let within = ltb-false MAX_INTERVALS (before + capped i.count) over in
    let next = total_next i is in
    record {
      same = rest.2 ∙ ap (λ (j : Interval). j ∷ rest.0) here.1 ∙ ap (λ (js : List Interval). i ∷ js) built.same;
      small = (here.0, built.small);
      few = λ h. let later = built.few within in let same = here.2 in omega arith;
    }

built : (before : ℕ) (is items : List Interval) → build_at before (cap_grid is) ≡ Some items → Built before is items
built before [] items e = record { same = cc; small = tt; few = λ h. omega arith }
built before (i ∷ is) items e = built_step before i is items (is_big_form (cap_interval i)) (ltb MAX_INTERVALS (before + capped i.count)) refl refl e (λ others h. built (before + capped i.count) is others h)

are_intervals : (is : List Interval) → AllByRecursion HasSize is → AllByRecursion IsSmall is → AllByRecursion IsInterval is
are_intervals [] sizes small = tt
are_intervals (i ∷ is) sizes small = (record { count = sizes.0.0; width = sizes.0.1; short = small.0.1; keep = small.0.2 }, are_intervals is sizes.1 small.1)

-- ---- what the scan of a whole text says

ended_ok : (scan : Result (List Form × List ℕ) ℕ) (forms : List Form) → ended scan ≡ Ok forms → scan ≡ Ok (forms, [])
ended_ok (Err left) forms e = absurd cc
ended_ok (Ok (fs, [])) forms e = cc
ended_ok (Ok (fs, b ∷ bs)) forms e = absurd cc

ended_err : (text : List ℕ) (scan : Result (List Form × List ℕ) ℕ) → Scanned Grid cap_grid text scan → (left : ℕ) → ended scan ≡ Err left → IsFault IsGridText text (length text - left) × (left ≤ length text)
ended_err text (Err l) x left e = let same : l ≡ left = cc in subst (λ (n : ℕ). IsFault IsGridText text (length text - n) × (n ≤ length text)) same (stuck_fault Grid text l x, stuck_within Grid text l x)
ended_err text (Ok (fs, [])) x left e = absurd cc
ended_err text (Ok (fs, b ∷ bs)) x left e =
    let same : length bs + 1 ≡ left = cc in
    let same_length : length (b ∷ bs) ≡ left = omega arith in
    subst (λ (n : ℕ). IsFault IsGridText text (length text - n) × (n ≤ length text)) same_length (found_fault Grid cap_grid text fs (b ∷ bs) x (something_left (b ∷ bs) (omega arith)), found_within Grid cap_grid text fs (b ∷ bs) x)

whole_scan : (text : List ℕ) → Scanned Grid cap_grid text (grid_at (suc (length text)) text)
whole_scan text = scans_grid (suc (length text)) text (omega arith)

whole_found : (text : List ℕ) (forms : List Form) → forms_at text ≡ Ok forms → Found Grid cap_grid text forms []
whole_found text forms e = subst (Scanned Grid cap_grid text) (ended_ok (grid_at (suc (length text)) text) forms e) (whole_scan text)

some_grid : (text : List ℕ) (forms : List Form) → forms_at text ≡ Ok forms → (is : List Interval) × Grid is text × (forms ≡ cap_grid is)
some_grid text forms e = let x = whole_found text forms e in (x.value, subst (Grid x.value) (sym (found_whole Grid cap_grid text forms x)) x.good, x.only x.value x.good)

only_grid : (text : List ℕ) (forms : List Form) → forms_at text ≡ Ok forms → (is : List Interval) → Grid is text → forms ≡ cap_grid is
only_grid text forms e is l = let x = whole_found text forms e in x.only is (subst (Grid is) (found_whole Grid cap_grid text forms x) l)

-- ---- what the reader answers

pub left_within : (text : List ℕ) (u : Unread) → GivesForms {X = List Form} (λ forms. forms) text (Err u) → IsLeft text u
left_within text (unread.Stopped stop) e = (ended_err text (grid_at (suc (length text)) text) (whole_scan text) stop.left e).1
left_within text unread.NoMemory e = tt

pub reads_fault : (text : List ℕ) (u : Unread) → GivesForms {X = List Form} (λ forms. forms) text (Err u) → ReadsGrid text (Err (fault_of text u))
reads_fault text (unread.Stopped stop) e = (ended_err text (grid_at (suc (length text)) text) (whole_scan text) stop.left e).0
reads_fault text unread.NoMemory e = tt

from_none : (is : List Interval) → NotBuilt 0 is → IsTooBig is
from_none is (inl above) = inl (omega arith)
from_none is (inr over) = inr over

pub reads_big : (text : List ℕ) (forms : List Form) → forms_at text ≡ Ok forms → build_at 0 forms ≡ None → ReadsGrid text (Err GridTooBig)
reads_big text forms e none =
    let some = some_grid text forms e in
    ((some.0, some.1), λ is l. from_none is (not_built 0 is (ap (build_at 0) (sym (only_grid text forms e is l)) ∙ none)))

pub reads_grid : (text : List ℕ) (forms : List Form) (items : List Interval) → forms_at text ≡ Ok forms → build_at 0 forms ≡ Some items → IsGrid items × ((is : List Interval) → (Grid is text → is ≡ items) × (is ≡ items → Grid is text))
reads_grid text forms items e made =
    let some = some_grid text forms e in
    let first = built 0 some.0 items (ap (build_at 0) (sym some.2) ∙ made) in
    let spelled : Grid items text = subst (λ (is : List Interval). Grid is text) (sym first.same) some.1 in
    let sizes = have_sizes some.0 text some.1 in
    let grid : IsGrid some.0 = record { some = some_intervals some.0 text some.1; each = All-from_recursion IsInterval some.0 (are_intervals some.0 sizes first.small); few = (let few = first.few (omega arith) in omega arith) } in
    (subst IsGrid (sym first.same) grid, λ is. (λ l. sym (built 0 is items (ap (build_at 0) (sym (only_grid text forms e is l)) ∙ made)).same, λ same. subst (λ (js : List Interval). Grid js text) (sym same) spelled))

pub reads_unbuilt : (text : List ℕ) (forms slice : List Form) (fault : GridFault) → forms_at text ≡ Ok forms → slice ≡ forms → Builds {X = List Interval} (λ items. items) slice (Err fault) → ReadsGrid text (Err fault)
reads_unbuilt text forms slice GridTooBig e same none = reads_big text forms e (ap (build_at 0) (sym same) ∙ none)
reads_unbuilt text forms slice (BadGrid place) e same none = absurd none
reads_unbuilt text forms slice NoMemory e same none = tt

pub reads_built : (text : List ℕ) (forms slice : List Form) (items given : List Interval) → forms_at text ≡ Ok forms → slice ≡ forms → build_at 0 slice ≡ Some items → given ≡ items → IsGrid given × ((is : List Interval) → (Grid is text → is ≡ given) × (is ≡ given → Grid is text))
reads_built text forms slice items given e same made as_given = rw as_given (reads_grid text forms items e (ap (build_at 0) (sym same) ∙ made))
