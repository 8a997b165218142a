-- The slots of a grid: their edges, and what the slot of an age decides.
use Rattle.std.proofs.Common.{◌≡◌, ℕ, zero, suc, ◌+◌, ◌-◌, ◌*◌, ◌<◌, ◌≤◌, Bool, true, false, ◌&&◌, ltb, leb, List, [], ◌∷◌, ◌++◌, take, length, get_or, sum_by, refl, sym, ap, subst, ◌∙◌, inl, inr, arith, zero-add, add_assoc}
use Rattle.std.specs.Prelude.{replicate}
use Rattle.std.proofs.lemmas.Bool.{lt-ltb, le-ltb, le-leb, lt-leb, ltb-true, leb-true, and_parts, and_from, and_right, cases_lt}
use Rattle.std.proofs.lemmas.Bool.Decides.{nat_tests}
use Rattle.std.proofs.Math.Bool.{or-false}
use Rattle.std.proofs.lemmas.List.{take-take, get_or_past, get_or-append-add, get_or_append_left, get_or-replicate, length-append, length-replicate}
use Rattle.std.proofs.lemmas.List.Sums.{sum_by-cons, sum_by-take-le}
use Rattle.zr_grid.specs.declared.grid.Keep.{Keep}
use Rattle.zr_grid.specs.declared.grid.Keep.TheVariants.{Most}
use Rattle.zr_grid.specs.declared.grid.Interval.{Interval}
use Rattle.zr_grid.specs.Grid.{total}
use Rattle.zr_grid.specs.Kept.{has_room, Slot, slots, edge, lies_in, some_slot}
use Rattle.zr_grid.specs.Sweep.{span_of, no_slot, keep_at}

two_edges : (w left right age : ℕ) → (leb (w + left) age && ltb age (w + right)) ≡ (leb w age && (leb left (age - w) && ltb (age - w) right))
two_edges w left right age = grind (arith, nat_tests)

edge_next : (slot : Slot) (others : List Slot) (place : ℕ) → edge (slot ∷ others) (suc place) ≡ slot.width + edge others place
edge_next slot others place = sum_by-cons (λ (s : Slot). s.width) slot (take place others)

lies_next : (slot : Slot) (others : List Slot) (age place : ℕ) → lies_in (slot ∷ others) age (suc place) ≡ (leb slot.width age && lies_in others (age - slot.width) place)
lies_next slot others age place = rw (edge_next slot others place, edge_next slot others (suc place)) (two_edges slot.width (edge others place) (edge others (suc place)) age)

lies_first : (slot : Slot) (others : List Slot) (age : ℕ) → lies_in (slot ∷ others) age 0 ≡ ltb age slot.width
lies_first slot others age = rw (zero-add slot.width, le-leb 0 age (omega arith)) refl

-- ---- an age between the edges of a slot

pub lies_between : (all : List Slot) (age slot : ℕ) → edge all slot ≤ age → age < edge all (suc slot) → lies_in all age slot ≡ true
lies_between all age slot from below = and_from _ _ (le-leb (edge all slot) age from) (lt-ltb age (edge all (suc slot)) below)

pub edges_of : (all : List Slot) (age slot : ℕ) → lies_in all age slot ≡ true → (edge all slot ≤ age) × (age < edge all (suc slot))
edges_of all age slot inside =
    let both = and_parts _ _ inside in
    (leb-true (edge all slot) age both.0, ltb-true age (edge all (suc slot)) both.1)

edges_rise : (all : List Slot) (a b : ℕ) → a ≤ b → edge all a ≤ edge all b
edges_rise all a b le = subst (λ (xs : List Slot). sum_by (λ (slot : Slot). slot.width) xs ≤ edge all b) (take-take a b all le) (sum_by-take-le (λ (slot : Slot). slot.width) (take b all) a)

-- an age below an edge and one from there on lie in no slot together
pub parted : (all : List Slot) (slot border low high : ℕ) → lies_in all low slot ≡ true → low < edge all border → edge all border ≤ high → lies_in all high slot ≡ false
parted all slot border low high inside below above =
    let edges = edges_of all low slot inside in
    elim (cases_lt slot border) [
      | inl before ↦ let rise = edges_rise all (suc slot) border (omega arith) in and_right _ _ (le-ltb high (edge all (suc slot)) (omega (arith, rise, above)))
      | inr behind ↦ let rise = edges_rise all border slot behind in absurd (omega (arith, rise, edges.0, below))
    ]

-- ---- the slot of an age decides

some_same : (p q : ℕ → Slot → Bool) (all : List Slot) → ((k : ℕ) (s : Slot) → p k s ≡ q k s) → some_slot p all ≡ some_slot q all
some_same p q [] h = refl
some_same p q (slot ∷ others) h = let x = h 0 slot in let y = some_same (λ (k : ℕ). p (suc k)) (λ (k : ℕ). q (suc k)) others (λ k s. h (suc k) s) in cc

some_none : (p : ℕ → Slot → Bool) (all : List Slot) → ((k : ℕ) (s : Slot) → p k s ≡ false) → some_slot p all ≡ false
some_none p [] h = refl
some_none p (slot ∷ others) h = rw (h 0 slot, some_none (λ (k : ℕ). p (suc k)) others (λ k s. h (suc k) s)) refl

room_none : (older : ℕ) → has_room (Most 0) older ≡ false
room_none older = le-ltb older 0 (omega arith)

-- past the last slot there is no room
pub no_room : (all : List Slot) (slot m n : ℕ) → length all ≤ slot → has_room (keep_at all slot) m ≡ has_room (keep_at all slot) n
no_room all slot m n past =
    let none : keep_at all slot ≡ Most 0 = ap (λ (s : Slot). s.keep) (get_or_past all slot no_slot past) in
    rw none (room_none m ∙ sym (room_none n))

-- the slot of an age, or past the last one, says whether some slot has the age and room
pub decided : (all : List Slot) (older : ℕ → ℕ) (age slot : ℕ) → edge all slot ≤ age → (slot < length all → age < edge all (suc slot))
    → some_slot (λ k s. lies_in all age k && has_room s.keep (older k)) all ≡ has_room (keep_at all slot) (older slot)
decided [] older age slot from below = sym (room_none (older slot))
decided (first ∷ others) older age zero from below =
    let lt : age < first.width = (let next = edge_next first others 0 in let b = below (omega arith) in omega (arith, next, b)) in
    let none : some_slot (λ k s. lies_in (first ∷ others) age (suc k) && has_room s.keep (older (suc k))) others ≡ false =
    some_none (λ k s. lies_in (first ∷ others) age (suc k) && has_room s.keep (older (suc k))) others (λ k s. rw (lies_next first others age k, lt-leb first.width age lt) refl) in
    rw (lies_first first others age, lt-ltb age first.width lt, none) (or-false (has_room first.keep (older 0)))
decided (first ∷ others) older age (suc slot) from below =
    let here = edge_next first others slot in
    let next = edge_next first others (suc slot) in
    let le : first.width ≤ age = omega (arith, here, from) in
    let same : some_slot (λ k s. lies_in (first ∷ others) age (suc k) && has_room s.keep (older (suc k))) others ≡ some_slot (λ k s. lies_in others (age - first.width) k && has_room s.keep (older (suc k))) others =
    some_same (λ k s. lies_in (first ∷ others) age (suc k) && has_room s.keep (older (suc k))) (λ k s. lies_in others (age - first.width) k && has_room s.keep (older (suc k))) others (λ k s. rw (lies_next first others age k, le-leb first.width age le) refl) in
    let rest = decided others (λ (k : ℕ). older (suc k)) (age - first.width) slot (omega (arith, here, from)) (λ inside. let b = below (omega arith) in omega (arith, next, b)) in
    rw (lies_first first others age, le-ltb age first.width le) (same ∙ rest)

-- ---- the slots of intervals

abbrev slot_of : ℕ → Keep → Slot
slot_of w keep = record { width = w; keep = keep }

edge_past : (c w : ℕ) (keep : Keep) (others : List Slot) (n : ℕ) → edge (replicate c (slot_of w keep) ++ others) (c + n) ≡ c * w + edge others n
edge_past zero w keep others n = let none : zero + n ≡ n = zero-add n in rw none (omega arith)
edge_past (suc c) w keep others n =
    let one : suc c + n ≡ suc (c + n) = omega arith in
    let ih = edge_past c w keep others n in
    rw (one, edge_next (slot_of w keep) (replicate c (slot_of w keep) ++ others) (c + n), ih) (omega arith)

edge_within : (c w : ℕ) (keep : Keep) (others : List Slot) (n : ℕ) → n ≤ c → edge (replicate c (slot_of w keep) ++ others) n ≡ n * w
edge_within c w keep others zero le = omega arith
edge_within zero w keep others (suc n) le = absurd (omega arith)
edge_within (suc c) w keep others (suc n) le =
    let ih = edge_within c w keep others n (omega arith) in
    rw (edge_next (slot_of w keep) (replicate c (slot_of w keep) ++ others) n, ih) (omega arith)

keep_past : (c : ℕ) (s : Slot) (others : List Slot) (n : ℕ) → keep_at (replicate c s ++ others) (c + n) ≡ keep_at others n
keep_past c s others n =
    let long : length (replicate c s) ≡ c = length-replicate c s in
    ap (λ (z : Slot). z.keep) (subst (λ (m : ℕ). get_or (replicate c s ++ others) (m + n) no_slot ≡ get_or others n no_slot) long (get_or-append-add (replicate c s) others n no_slot))

keep_within : (c : ℕ) (s : Slot) (others : List Slot) (n : ℕ) → n < c → keep_at (replicate c s ++ others) n ≡ s.keep
keep_within c s others n lt =
    let inside : n < length (replicate c s) = (let long = length-replicate c s in omega (arith, long, lt)) in
    ap (λ (z : Slot). z.keep) (get_or_append_left (replicate c s) others no_slot n inside ∙ get_or-replicate c n s no_slot lt)

total_cons : (first : Interval) (others : List Interval) → total (first ∷ others) ≡ first.count + total others
total_cons first others = sum_by-cons (λ (interval : Interval). interval.count) first others

span_cons : (first : Interval) (others : List Interval) → span_of (first ∷ others) ≡ first.count * first.width + span_of others
span_cons first others = sum_by-cons (λ (interval : Interval). interval.count * interval.width) first others

pub slots_long : (intervals : List Interval) → length (slots intervals) ≡ total intervals
slots_long [] = refl
slots_long (first ∷ others) =
    let ih = slots_long others in
    length-append (replicate first.count (slot_of first.width first.keep)) (slots others) ∙ (λ k. length-replicate first.count (slot_of first.width first.keep) k + ih k) ∙ sym (total_cons first others)

-- the age at which a grid ends
pub edge_last : (intervals : List Interval) → edge (slots intervals) (total intervals) ≡ span_of intervals
edge_last [] = refl
edge_last (first ∷ others) =
    let ih = edge_last others in
    ap (edge (slots (first ∷ others))) (total_cons first others) ∙ edge_past first.count first.width first.keep (slots others) (total others)
    ∙ ap (λ (n : ℕ). first.count * first.width + n) ih ∙ sym (span_cons first others)

later_number : (first : Interval) (others : List Interval) (k n : ℕ) → total (take (suc k) (first ∷ others)) + n ≡ first.count + (total (take k others) + n)
later_number first others k n = ap (λ (m : ℕ). m + n) (total_cons first (take k others)) ∙ add_assoc first.count (total (take k others)) n

-- the left edge of slot n of interval k, and the right edge of its last slot
pub edge_is : (intervals : List Interval) (k n : ℕ) (d : Interval) → k < length intervals → n ≤ (get_or intervals k d).count
    → edge (slots intervals) (total (take k intervals) + n) ≡ span_of (take k intervals) + n * (get_or intervals k d).width
edge_is [] k n d inside within = absurd (omega arith)
edge_is (first ∷ others) zero n d inside within =
    ap (edge (slots (first ∷ others))) (zero-add n) ∙ edge_within first.count first.width first.keep (slots others) n within ∙ sym (zero-add (n * first.width))
edge_is (first ∷ others) (suc k) n d inside within =
    let ih = edge_is others k n d (omega arith) within in
    ap (edge (slots (first ∷ others))) (later_number first others k n) ∙ edge_past first.count first.width first.keep (slots others) (total (take k others) + n)
    ∙ ap (λ (m : ℕ). first.count * first.width + m) ih ∙ sym (add_assoc (first.count * first.width) (span_of (take k others)) (n * (get_or others k d).width))
    ∙ ap (λ (m : ℕ). m + n * (get_or others k d).width) (sym (span_cons first (take k others)))

pub keep_is : (intervals : List Interval) (k n : ℕ) (d : Interval) → k < length intervals → n < (get_or intervals k d).count
    → keep_at (slots intervals) (total (take k intervals) + n) ≡ (get_or intervals k d).keep
keep_is [] k n d inside within = absurd (omega arith)
keep_is (first ∷ others) zero n d inside within =
    ap (keep_at (slots (first ∷ others))) (zero-add n) ∙ keep_within first.count (slot_of first.width first.keep) (slots others) n within
keep_is (first ∷ others) (suc k) n d inside within =
    ap (keep_at (slots (first ∷ others))) (later_number first others k n) ∙ keep_past first.count (slot_of first.width first.keep) (slots others) (total (take k others) + n)
    ∙ keep_is others k n d (omega arith) within
