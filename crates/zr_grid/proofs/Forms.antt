-- The text of an interval is scanned as the grammar says.
use Rattle.std.proofs.Common.{◌≡◌, ℕ, ◌⊎◌, Bool, true, false, ◌||◌, not, cond, eqb, List, [], ◌∷◌, Result, Ok, Err, refl, sym, subst, inl, inr, arith}
use Rattle.std.specs.Prelude.{codes}
use Rattle.std.proofs.lemmas.Bool.{eqb-true, eq-eqb, or_left, or_right, not_from_false, false_from_ne_true}
use Rattle.zr_grid.specs.declared.grid.Interval.{Interval}
use Rattle.zr_grid.specs.declared.grid.Keep.{Keep}
use Rattle.zr_grid.specs.declared.grid.Keep.TheVariants.{All, Most}
use Rattle.zr_grid.specs.declared.form.Form.{Form}
use Rattle.zr_grid.specs.declared.form.KeepForm.{KeepForm}
use Rattle.zr_grid.specs.declared.form.KeepForm.TheVariants as forms
use Rattle.zr_grid.specs.Grammar.{◌⨾◌, is_blank, is_digit, Blanks, Counted, Digits, Span, Spaced, Word, Kept, KeepPart, IntervalText}
use Rattle.zr_grid.specs.Scan.{◌>>=◌, capped, word_at, number_at, counted_at, span_at, starts_with_byte, all_at, most_at, kept_at, brackets_at, keep_at, form_at}
use Rattle.zr_grid.proofs.Sequence.{Scans, Scanned, Both, both_caps, pair, scans_both, scans_as, bind_assoc, Apart}
use Rattle.zr_grid.proofs.Bytes.{Each, Within, Starts, NeverEmpty, each_append, apart, within_both, within_weaker, starts_first, byte_disjoint, blank_disjoint, disjoint_swap, disjoint_or, is_byte, is_of_span}
use Rattle.zr_grid.proofs.Leaves.{Gap, plain, skip_at, scans_blanks, within_blanks, starts_blanks, scans_counted, within_counted, starts_counted, never_counted, within_digits}
use Rattle.zr_grid.proofs.Words.{WordOf, word_scan, scans_word, within_word, starts_word, never_word, SpacedOf, spaced, scans_spaced, within_spaced, starts_spaced, never_spaced, scans_number, Misses, choice, opt_inside, opt_outside, starts_opt}
use Rattle.zr_grid.proofs.Spans.{scans_span, some_span, never_span, within_span}

-- ---- what is kept

abbrev pub cap_keep : Keep → KeepForm
cap_keep All = forms.All
cap_keep (Most n) = forms.Most (capped n)

starts_digits : Starts is_digit Digits
starts_digits v c t l = l.1.0

never_digits : NeverEmpty Digits
never_digits v l = let none = l.0 in omega arith

side_all : (v : Keep) (t : List ℕ) → Kept v t → ((a : Unit {0}) × WordOf (codes "all") a t × (v ≡ All)) ⊎ ((n : ℕ) × Digits n t)
side_all All t l = inl (tt, l, refl)
side_all (Most n) t l = inr (n, l)

side_most : (v : Keep) (t : List ℕ) → Kept v t → ((n : ℕ) × Digits n t × (v ≡ Most n)) ⊎ ((a : Unit {0}) × WordOf (codes "all") a t)
side_most All t l = inr (tt, l)
side_most (Most n) t l = inl (n, l, refl)

misses_digit : (text : List ℕ) → starts_with_byte 97 text ≡ true → Misses is_digit text
misses_digit [] e = tt
misses_digit (b ∷ bs) e = let same : b ≡ 97 = eqb-true b 97 e in rw same refl

misses_letter : (c : ℕ) (text : List ℕ) → starts_with_byte c text ≡ false → Misses (is_byte c) text
misses_letter c [] e = tt
misses_letter c (b ∷ bs) e = e

abbrev keep_done : KeepForm × List ℕ → Result (KeepForm × List ℕ) ℕ
keep_done x = Ok x

abbrev word_done : Unit {0} × List ℕ → Result (Unit {0} × List ℕ) ℕ
word_done x = Ok x

all_shape : (scan : Result (List ℕ) ℕ) → (scan >>= λ rest. keep_done (forms.All, rest)) ≡ ((scan >>= λ rest. word_done (tt, rest)) >>= λ x. keep_done (forms.All, x.1))
all_shape (Ok rest) = refl
all_shape (Err left) = refl

kept_step : (text : List ℕ) (x : Bool) → starts_with_byte 97 text ≡ x → Scanned Kept cap_keep text (cond x (all_at text) (most_at text))
kept_step text true e = subst (Scanned Kept cap_keep text) (sym (all_shape (word_at (codes "all") text)))
    (choice Kept (WordOf (codes "all")) Digits cap_keep plain (λ u. All) (λ u. forms.All) is_digit side_all (λ a t l. l) (λ a. refl) starts_digits never_digits text (misses_digit text e) (word_scan (codes "all") text) (scans_word (codes "all") text))
kept_step text false e =
    choice Kept Digits (WordOf (codes "all")) cap_keep capped Most forms.Most (is_byte 97) side_most (λ a t l. l) (λ a. refl) (starts_word (is_byte 97) 97 (108 ∷ 108 ∷ []) refl) (never_word 97 (108 ∷ 108 ∷ [])) text (misses_letter 97 text e) (number_at text) (scans_number text)

scans_kept : Scans Kept cap_keep kept_at
scans_kept text = kept_step text (starts_with_byte 97 text) refl

-- digits and the letters of `all`
abbrev is_of_kept : ℕ → Bool
is_of_kept b = is_digit b || (eqb b 97 || eqb b 108)

within_kept : Within is_of_kept Kept
within_kept All t l = within_word is_of_kept (codes "all") (refl, (refl, (refl, tt))) tt t l
within_kept (Most n) t l = within_weaker is_digit is_of_kept Digits (λ b h. or_left (is_digit b) _ h) within_digits n t l

starts_within : {V : Type 0} (p : ℕ → Bool) (L : V → List ℕ → Type 0) → Within p L → Starts p L
starts_within p L within v c t l = (within v (c ∷ t) l).0

never_kept : NeverEmpty Kept
never_kept All l = let e = l in cc
never_kept (Most n) l = never_digits n l

-- ---- tests of bytes with blanks among them

abbrev or_blank : (ℕ → Bool) → ℕ → Bool
or_blank p c = p c || is_blank c

within_spaced_or : {V : Type 0} (p : ℕ → Bool) (L : V → List ℕ → Type 0) → Within p L → Within (or_blank p) (SpacedOf L)
within_spaced_or p L within = within_spaced (or_blank p) L (within_weaker p (or_blank p) L (λ b h. or_left (p b) (is_blank b) h) within) (within_weaker is_blank (or_blank p) Gap (λ b h. or_right (p b) (is_blank b) h) within_blanks)

-- a form of bytes that are no blanks is apart from blanks
apart_gap : {V : Type 0} (p : ℕ → Bool) (L : V → List ℕ → Type 0) → p 32 ≡ false → p 9 ≡ false → Within p L → Apart L Gap
apart_gap p L space tab within = apart p is_blank L Gap (disjoint_swap is_blank p (blank_disjoint p space tab)) within starts_blanks

-- ---- brackets, after the one that opens

abbrev is_of_name : ℕ → Bool
is_of_name b = eqb b 107 || (eqb b 101 || eqb b 112)

abbrev Name : Unit {0} → List ℕ → Type 0
Name = SpacedOf (WordOf (codes "keep"))

abbrev Equal : Unit {0} → List ℕ → Type 0
Equal = SpacedOf (WordOf (codes "="))

abbrev Value : Keep → List ℕ → Type 0
Value = SpacedOf Kept

abbrev Close : Unit {0} → List ℕ → Type 0
Close = SpacedOf (WordOf (codes ")"))

within_name_word : Within is_of_name (WordOf (codes "keep"))
within_name_word = within_word is_of_name (codes "keep") (refl, (refl, (refl, (refl, tt))))

within_one : (c : ℕ) → Within (is_byte c) (WordOf (c ∷ []))
within_one c = within_word (is_byte c) (c ∷ []) (eq-eqb c c refl, tt)

scans_name : Scans Name plain (spaced (word_scan (codes "keep")))
scans_name = scans_spaced (WordOf (codes "keep")) plain (word_scan (codes "keep")) (apart_gap is_of_name (WordOf (codes "keep")) refl refl within_name_word) (scans_word (codes "keep"))

scans_one : (c : ℕ) → is_byte c 32 ≡ false → is_byte c 9 ≡ false → Scans (SpacedOf (WordOf (c ∷ []))) plain (spaced (word_scan (c ∷ [])))
scans_one c space tab = scans_spaced (WordOf (c ∷ [])) plain (word_scan (c ∷ [])) (apart_gap (is_byte c) (WordOf (c ∷ [])) space tab (within_one c)) (scans_word (c ∷ []))

starts_one : (c : ℕ) → Starts (is_byte c) (SpacedOf (WordOf (c ∷ [])))
starts_one c = starts_spaced (is_byte c) (WordOf (c ∷ [])) (never_word c []) (starts_word (is_byte c) c [] (eq-eqb c c refl))

scans_value : Scans Value cap_keep (spaced kept_at)
scans_value = scans_spaced Kept cap_keep kept_at (apart_gap is_of_kept Kept refl refl within_kept) scans_kept

starts_value : Starts is_of_kept Value
starts_value = starts_spaced is_of_kept Kept never_kept (starts_within is_of_kept Kept within_kept)

some_close : Close tt (41 ∷ [])
some_close = (41 ∷ [], [], refl, refl, tt)

some_value : Value All (97 ∷ 108 ∷ 108 ∷ [])
some_value = (97 ∷ 108 ∷ 108 ∷ [], [], refl, refl, tt)

abbrev FromValue : Keep × Unit {0} → List ℕ → Type 0
FromValue = Both Value Close

scans_from_value : Scans FromValue (both_caps cap_keep plain) (pair (spaced kept_at) (spaced (word_scan (codes ")"))))
scans_from_value = scans_both Value Close cap_keep plain (spaced kept_at) (spaced (word_scan (codes ")")))
    (apart (or_blank is_of_kept) (is_byte 41) Value Close (byte_disjoint (or_blank is_of_kept) 41 refl) (within_spaced_or is_of_kept Kept within_kept) (starts_one 41))
    tt (41 ∷ []) some_close scans_value (scans_one 41 refl refl)

some_from_value : FromValue (All, tt) (97 ∷ 108 ∷ 108 ∷ 41 ∷ [])
some_from_value = (97 ∷ 108 ∷ 108 ∷ [], 41 ∷ [], refl, some_value, some_close)

starts_from_value : Starts is_of_kept FromValue
starts_from_value = starts_first is_of_kept Value Close (never_spaced Kept never_kept) starts_value

abbrev FromEqual : Unit {0} × (Keep × Unit {0}) → List ℕ → Type 0
FromEqual = Both Equal FromValue

scans_from_equal : Scans FromEqual (both_caps plain (both_caps cap_keep plain)) (pair (spaced (word_scan (codes "="))) (pair (spaced kept_at) (spaced (word_scan (codes ")")))))
scans_from_equal = scans_both Equal FromValue plain (both_caps cap_keep plain) (spaced (word_scan (codes "="))) (pair (spaced kept_at) (spaced (word_scan (codes ")"))))
    (apart (or_blank (is_byte 61)) is_of_kept Equal FromValue
    (disjoint_swap is_of_kept (or_blank (is_byte 61)) (disjoint_or is_of_kept (is_byte 61) is_blank (byte_disjoint is_of_kept 61 refl) (disjoint_swap is_blank is_of_kept (blank_disjoint is_of_kept refl refl))))
    (within_spaced_or (is_byte 61) (WordOf (codes "=")) (within_one 61)) starts_from_value)
    (All, tt) (97 ∷ 108 ∷ 108 ∷ 41 ∷ []) some_from_value (scans_one 61 refl refl) scans_from_value

some_from_equal : FromEqual (tt, (All, tt)) (61 ∷ 97 ∷ 108 ∷ 108 ∷ 41 ∷ [])
some_from_equal = (61 ∷ [], 97 ∷ 108 ∷ 108 ∷ 41 ∷ [], refl, (61 ∷ [], [], refl, refl, tt), some_from_value)

starts_from_equal : Starts (is_byte 61) FromEqual
starts_from_equal = starts_first (is_byte 61) Equal FromValue (never_spaced (WordOf (codes "=")) (never_word 61 [])) (starts_one 61)

abbrev FromName : Unit {0} × (Unit {0} × (Keep × Unit {0})) → List ℕ → Type 0
FromName = Both Name FromEqual

scans_from_name : Scans FromName (both_caps plain (both_caps plain (both_caps cap_keep plain))) (pair (spaced (word_scan (codes "keep"))) (pair (spaced (word_scan (codes "="))) (pair (spaced kept_at) (spaced (word_scan (codes ")"))))))
scans_from_name = scans_both Name FromEqual plain (both_caps plain (both_caps cap_keep plain)) (spaced (word_scan (codes "keep"))) (pair (spaced (word_scan (codes "="))) (pair (spaced kept_at) (spaced (word_scan (codes ")")))))
    (apart (or_blank is_of_name) (is_byte 61) Name FromEqual (byte_disjoint (or_blank is_of_name) 61 refl) (within_spaced_or is_of_name (WordOf (codes "keep")) within_name_word) starts_from_equal)
    (tt, (All, tt)) (61 ∷ 97 ∷ 108 ∷ 108 ∷ 41 ∷ []) some_from_equal scans_name scans_from_equal

some_from_name : FromName (tt, (tt, (All, tt))) (107 ∷ 101 ∷ 101 ∷ 112 ∷ 61 ∷ 97 ∷ 108 ∷ 108 ∷ 41 ∷ [])
some_from_name = (107 ∷ 101 ∷ 101 ∷ 112 ∷ [], 61 ∷ 97 ∷ 108 ∷ 108 ∷ 41 ∷ [], refl, (107 ∷ 101 ∷ 101 ∷ 112 ∷ [], [], refl, refl, tt), some_from_equal)

never_name : NeverEmpty Name
never_name = never_spaced (WordOf (codes "keep")) (never_word 107 (101 ∷ 101 ∷ 112 ∷ []))

starts_from_name : Starts (is_byte 107) FromName
starts_from_name = starts_first (is_byte 107) Name FromEqual never_name (starts_spaced (is_byte 107) (WordOf (codes "keep")) (never_word 107 (101 ∷ 101 ∷ 112 ∷ [])) (starts_word (is_byte 107) 107 (101 ∷ 101 ∷ 112 ∷ []) refl))

abbrev InnerParts : Unit {0} × (Unit {0} × (Unit {0} × (Keep × Unit {0}))) → List ℕ → Type 0
InnerParts = Both Gap FromName

abbrev inner_parts_at : List ℕ → Result ((Unit {0} × (Unit {0} × (Unit {0} × (KeepForm × Unit {0})))) × List ℕ) ℕ
inner_parts_at = pair skip_at (pair (spaced (word_scan (codes "keep"))) (pair (spaced (word_scan (codes "="))) (pair (spaced kept_at) (spaced (word_scan (codes ")"))))))

scans_inner_parts : Scans InnerParts (both_caps plain (both_caps plain (both_caps plain (both_caps cap_keep plain)))) inner_parts_at
scans_inner_parts = scans_both Gap FromName plain (both_caps plain (both_caps plain (both_caps cap_keep plain))) skip_at (pair (spaced (word_scan (codes "keep"))) (pair (spaced (word_scan (codes "="))) (pair (spaced kept_at) (spaced (word_scan (codes ")"))))))
    (apart is_blank (is_byte 107) Gap FromName (blank_disjoint (is_byte 107) refl refl) within_blanks starts_from_name)
    (tt, (tt, (All, tt))) (107 ∷ 101 ∷ 101 ∷ 112 ∷ 61 ∷ 97 ∷ 108 ∷ 108 ∷ 41 ∷ []) some_from_name scans_blanks scans_from_name

abbrev Inner : Keep → List ℕ → Type 0
Inner keep = Blanks ⨾ Spaced (Word (codes "keep")) ⨾ Spaced (Word (codes "=")) ⨾ Spaced (Kept keep) ⨾ Spaced (Word (codes ")"))

abbrev inner_done : Result ((Unit {0} × (Unit {0} × (Unit {0} × (KeepForm × Unit {0})))) × List ℕ) ℕ → Result (KeepForm × List ℕ) ℕ
inner_done scan = scan >>= λ x. keep_done (x.0.1.1.1.0, x.1)

brackets_shape : (text : List ℕ) → brackets_at text ≡ inner_done (inner_parts_at text)
unfolding brackets_at
brackets_shape text = simp bind_assoc

scans_inner : Scans Inner cap_keep brackets_at
scans_inner text = subst (Scanned Inner cap_keep text) (sym (brackets_shape text))
    (scans_as InnerParts Inner (both_caps plain (both_caps plain (both_caps plain (both_caps cap_keep plain)))) cap_keep inner_parts_at (λ v. v.1.1.1.0) (λ c. c.1.1.1.0) (λ v t l. l) (λ k t l. ((tt, (tt, (tt, (k, tt)))), l, refl)) (λ v t l. refl) scans_inner_parts text)

-- ---- brackets, or nothing

keep_step : (b : ℕ) (bs : List ℕ) (x : Bool) → eqb b 40 ≡ x → Scanned KeepPart cap_keep (b ∷ bs) (cond x (brackets_at bs) (Ok (forms.Most 1, b ∷ bs)))
keep_step b bs true e = let open_bracket : 40 ≡ b = sym (eqb-true b 40 e) in
    subst (λ (c : ℕ). Scanned KeepPart cap_keep (c ∷ bs) (brackets_at bs)) open_bracket (opt_inside 40 (Most 1) Inner cap_keep bs (brackets_at bs) (scans_inner bs))
keep_step b bs false e = opt_outside 40 (Most 1) Inner cap_keep (b ∷ bs) e

scans_keep : Scans KeepPart cap_keep keep_at
scans_keep [] = opt_outside 40 (Most 1) Inner cap_keep [] tt
scans_keep (b ∷ bs) = keep_step b bs (eqb b 40) refl

starts_keep : Starts (is_byte 40) KeepPart
starts_keep = starts_opt 40 (Most 1) Inner

-- ---- an interval

abbrev Count : ℕ → List ℕ → Type 0
Count = SpacedOf Counted

abbrev Times : Unit {0} → List ℕ → Type 0
Times = WordOf (codes "x")

abbrev FromSpan : ℕ × Keep → List ℕ → Type 0
FromSpan = Both Span KeepPart

scans_from_span : Scans FromSpan (both_caps capped cap_keep) (pair span_at keep_at)
scans_from_span = scans_both Span KeepPart capped cap_keep span_at keep_at
    (apart is_of_span (is_byte 40) Span KeepPart (byte_disjoint is_of_span 40 refl) within_span starts_keep)
    (Most 1) [] (inl (refl, refl)) scans_span scans_keep

some_from_span : FromSpan (1, Most 1) (49 ∷ 115 ∷ [])
some_from_span = (49 ∷ 115 ∷ [], [], refl, some_span, inl (refl, refl))

starts_from_span : Starts is_of_span FromSpan
starts_from_span = starts_first is_of_span Span KeepPart never_span (starts_within is_of_span Span within_span)

abbrev FromTimes : Unit {0} × (ℕ × Keep) → List ℕ → Type 0
FromTimes = Both Times FromSpan

scans_from_times : Scans FromTimes (both_caps plain (both_caps capped cap_keep)) (pair (word_scan (codes "x")) (pair span_at keep_at))
scans_from_times = scans_both Times FromSpan plain (both_caps capped cap_keep) (word_scan (codes "x")) (pair span_at keep_at)
    (apart (is_byte 120) is_of_span Times FromSpan (disjoint_swap is_of_span (is_byte 120) (byte_disjoint is_of_span 120 refl)) (within_one 120) starts_from_span)
    (1, Most 1) (49 ∷ 115 ∷ []) some_from_span (scans_word (codes "x")) scans_from_span

some_from_times : FromTimes (tt, (1, Most 1)) (120 ∷ 49 ∷ 115 ∷ [])
some_from_times = (120 ∷ [], 49 ∷ 115 ∷ [], refl, refl, some_from_span)

starts_from_times : Starts (is_byte 120) FromTimes
starts_from_times = starts_first (is_byte 120) Times FromSpan (never_word 120 []) (starts_word (is_byte 120) 120 [] refl)

scans_count : Scans Count capped (spaced counted_at)
scans_count = scans_spaced Counted capped counted_at (apart_gap is_digit Counted refl refl within_counted) scans_counted

abbrev FromCount : ℕ × (Unit {0} × (ℕ × Keep)) → List ℕ → Type 0
FromCount = Both Count FromTimes

scans_from_count : Scans FromCount (both_caps capped (both_caps plain (both_caps capped cap_keep))) (pair (spaced counted_at) (pair (word_scan (codes "x")) (pair span_at keep_at)))
scans_from_count = scans_both Count FromTimes capped (both_caps plain (both_caps capped cap_keep)) (spaced counted_at) (pair (word_scan (codes "x")) (pair span_at keep_at))
    (apart (or_blank is_digit) (is_byte 120) Count FromTimes (byte_disjoint (or_blank is_digit) 120 refl) (within_spaced_or is_digit Counted within_counted) starts_from_times)
    (tt, (1, Most 1)) (120 ∷ 49 ∷ 115 ∷ []) some_from_times scans_count scans_from_times

some_from_count : FromCount (1, (tt, (1, Most 1))) (49 ∷ 120 ∷ 49 ∷ 115 ∷ [])
some_from_count = (49 ∷ [], 120 ∷ 49 ∷ 115 ∷ [], refl, (49 ∷ [], [], refl, ((omega arith, (refl, tt), refl), omega arith), tt), some_from_times)

starts_from_count : Starts is_digit FromCount
starts_from_count = starts_first is_digit Count FromTimes (never_spaced Counted never_counted) (starts_spaced is_digit Counted never_counted starts_counted)

abbrev IntervalParts : Unit {0} × (ℕ × (Unit {0} × (ℕ × Keep))) → List ℕ → Type 0
IntervalParts = Both Gap FromCount

abbrev interval_parts_at : List ℕ → Result ((Unit {0} × (ℕ × (Unit {0} × (ℕ × KeepForm)))) × List ℕ) ℕ
interval_parts_at = pair skip_at (pair (spaced counted_at) (pair (word_scan (codes "x")) (pair span_at keep_at)))

scans_interval_parts : Scans IntervalParts (both_caps plain (both_caps capped (both_caps plain (both_caps capped cap_keep)))) interval_parts_at
scans_interval_parts = scans_both Gap FromCount plain (both_caps capped (both_caps plain (both_caps capped cap_keep))) skip_at (pair (spaced counted_at) (pair (word_scan (codes "x")) (pair span_at keep_at)))
    (apart is_blank is_digit Gap FromCount (blank_disjoint is_digit refl refl) within_blanks starts_from_count)
    (1, (tt, (1, Most 1))) (49 ∷ 120 ∷ 49 ∷ 115 ∷ []) some_from_count scans_blanks scans_from_count

abbrev interval_of : Unit {0} × (ℕ × (Unit {0} × (ℕ × Keep))) → Interval
interval_of v = record { count = v.1.0; width = v.1.1.1.0; keep = v.1.1.1.1 }

abbrev form_of : Unit {0} × (ℕ × (Unit {0} × (ℕ × KeepForm))) → Form
form_of v = record { count = v.1.0; width = v.1.1.1.0; keep = v.1.1.1.1 }

abbrev pub cap_interval : Interval → Form
cap_interval interval = record { count = capped interval.count; width = capped interval.width; keep = cap_keep interval.keep }

to_interval : (v : Unit {0} × (ℕ × (Unit {0} × (ℕ × Keep)))) (t : List ℕ) → IntervalParts v t → IntervalText (interval_of v) t
unfolding IntervalText
to_interval v t l = l

from_interval : (i : Interval) (t : List ℕ) → IntervalText i t → (v : Unit {0} × (ℕ × (Unit {0} × (ℕ × Keep)))) × IntervalParts v t × (i ≡ interval_of v)
unfolding IntervalText
from_interval i t l = ((tt, (i.count, (tt, (i.width, i.keep)))), l, refl)

abbrev form_done : Result ((Unit {0} × (ℕ × (Unit {0} × (ℕ × KeepForm)))) × List ℕ) ℕ → Result (Form × List ℕ) ℕ
form_done scan = scan >>= λ x. Ok (form_of x.0, x.1)

form_shape : (text : List ℕ) → form_at text ≡ form_done (interval_parts_at text)
unfolding form_at
form_shape text = simp bind_assoc

pub scans_form : Scans IntervalText cap_interval form_at
scans_form text = subst (Scanned IntervalText cap_interval text) (sym (form_shape text))
    (scans_as IntervalParts IntervalText (both_caps plain (both_caps capped (both_caps plain (both_caps capped cap_keep)))) cap_interval interval_parts_at interval_of form_of to_interval from_interval (λ v t l. refl) scans_interval_parts text)

-- ---- no interval has a bar

abbrev pub is_no_bar : ℕ → Bool
is_no_bar b = not (eqb b 124)

no_bar : (p : ℕ → Bool) → p 124 ≡ false → (b : ℕ) → p b ≡ true → is_no_bar b ≡ true
no_bar p fails b passes = not_from_false (eqb b 124) (false_from_ne_true (eqb b 124) (λ same. byte_disjoint p 124 fails b passes same))

within_inner : Within is_no_bar InnerParts
within_inner = within_both is_no_bar Gap FromName (within_weaker is_blank is_no_bar Gap (no_bar is_blank refl) within_blanks)
    (within_both is_no_bar Name FromEqual (within_weaker (or_blank is_of_name) is_no_bar Name (no_bar (or_blank is_of_name) refl) (within_spaced_or is_of_name (WordOf (codes "keep")) within_name_word))
    (within_both is_no_bar Equal FromValue (within_weaker (or_blank (is_byte 61)) is_no_bar Equal (no_bar (or_blank (is_byte 61)) refl) (within_spaced_or (is_byte 61) (WordOf (codes "=")) (within_one 61)))
    (within_both is_no_bar Value Close (within_weaker (or_blank is_of_kept) is_no_bar Value (no_bar (or_blank is_of_kept) refl) (within_spaced_or is_of_kept Kept within_kept))
    (within_weaker (or_blank (is_byte 41)) is_no_bar Close (no_bar (or_blank (is_byte 41)) refl) (within_spaced_or (is_byte 41) (WordOf (codes ")")) (within_one 41))))))

within_keep : Within is_no_bar KeepPart
within_keep k t (inl p) = subst (Each is_no_bar) (sym p.0) tt
within_keep k t (inr (g, h, e, ge, l)) = subst (Each is_no_bar) (sym e) (each_append is_no_bar g h (subst (Each is_no_bar) (sym ge) (refl, tt)) (within_inner (tt, (tt, (tt, (k, tt)))) h l))

within_interval_parts : Within is_no_bar IntervalParts
within_interval_parts = within_both is_no_bar Gap FromCount (within_weaker is_blank is_no_bar Gap (no_bar is_blank refl) within_blanks)
    (within_both is_no_bar Count FromTimes (within_weaker (or_blank is_digit) is_no_bar Count (no_bar (or_blank is_digit) refl) (within_spaced_or is_digit Counted within_counted))
    (within_both is_no_bar Times FromSpan (within_weaker (is_byte 120) is_no_bar Times (no_bar (is_byte 120) refl) (within_one 120))
    (within_both is_no_bar Span KeepPart (within_weaker is_of_span is_no_bar Span (no_bar is_of_span refl) within_span) within_keep)))

pub within_form : Within is_no_bar IntervalText
within_form i t l = let v = from_interval i t l in within_interval_parts v.0 t v.1

pub bar_disjoint : (c : ℕ) → is_no_bar c ≡ true → is_byte 124 c ≡ true → ⊥
bar_disjoint c passes bar = byte_disjoint is_no_bar 124 refl c passes bar
