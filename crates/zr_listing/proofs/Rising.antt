use Rattle.std.proofs.Common.{◌≡◌, ℕ, ◌+◌, ◌-◌, ◌<◌, ◌≤◌, ◌||◌, ◌⊎◌, inl, inr, Bool, true, false, true≢false, not, cond, List, [], ◌∷◌, ◌++◌, Option, Result, Ok, Err, All, Bor, OnOk, OnErr, if◌then◌else◌, length, get_or, refl, arith, ap, ◌∙◌, sym, subst}
use Rattle.std.specs.List.{list_any}
use Rattle.std.specs.List.Sorted.{IsBinarySearchResult, IsPartitionPoint, IsSearchInRange, IsSortedBy}
use Rattle.std.specs.Option.{option_map_or}
use Rattle.std.specs.Ordering.{nat_cmp, is_eq, is_lt, ordering_reverse}
use Rattle.std.specs.Result.{is_ok}
use Rattle.std.specs.declared.cmp.Ordering.{Ordering}
use Rattle.std.specs.declared.cmp.Ordering.TheVariants.{Less, Equal, Greater}
use Rattle.std.specs.Cmp.Lexicographic.{slice_cmp, texts_ties, nat_list_eq_equiv}
use Rattle.std.proofs.lemmas.Bool.{cases_lt}
use Rattle.std.proofs.lemmas.Cmp.{nat_list_cmp_total}
use Rattle.std.proofs.lemmas.List.Folds.{list_any_at, list_any_none, list_any-append}
use Rattle.std.proofs.lemmas.List.Quantifiers.{all_pairs_push}
use Rattle.std.proofs.lemmas.List.Sorted.{searchable_from_sorted}
use Rattle.std.proofs.lemmas.Map.Lookups.{exact_bytes}
use Rattle.std.proofs.lemmas.Option.{slice_get-get_or}
use Rattle.zr_listing.specs.Names.{AreBelow, is_after, is_among, is_less, Rises, ties}

is_eq-Equal : (o : Ordering) → is_eq o ≡ true → o ≡ Equal
is_eq-Equal Less e = cc
is_eq-Equal Equal e = refl
is_eq-Equal Greater e = cc

is_lt-Less : (o : Ordering) → is_lt o ≡ true → o ≡ Less
is_lt-Less Less e = refl
is_lt-Less Equal e = cc
is_lt-Less Greater e = cc

pub ties-same : (a b : List ℕ) → ties a b ≡ true → a ≡ b
ties-same a b e = exact_bytes a b (is_eq-Equal (slice_cmp nat_cmp a b) e)

pub ties-itself : (a : List ℕ) → ties a a ≡ true
ties-itself a = sym (texts_ties a a) ∙ nat_list_eq_equiv.refl a

pub ties-symm : (a b : List ℕ) → ties a b ≡ ties b a
ties-symm a b = sym (texts_ties a b) ∙ nat_list_eq_equiv.symm a b ∙ texts_ties b a

less-trans : (a b c : List ℕ) → is_less a b ≡ true → is_less b c ≡ true → is_less a c ≡ true
less-trans a b c one other =
    ap is_lt (nat_list_cmp_total.trans a b c (is_lt-Less (slice_cmp nat_cmp a b) one) (is_lt-Less (slice_cmp nat_cmp b c) other))

-- what is greater is not less, and not the same
greater-is : (a b : List ℕ) → is_less a b ≡ true → slice_cmp nat_cmp b a ≡ Greater
greater-is a b less = nat_list_cmp_total.antisymm b a ∙ ap ordering_reverse (is_lt-Less (slice_cmp nat_cmp a b) less)

-- all names that rise are less than what is after them
all-less : (names : List (Bor (List ℕ))) (q : List ℕ) → Rises names → is_after names q ≡ true → All (λ k. is_less k.now q ≡ true) names
all-less names q rises after k d inside = by (cases_lt k (length names - 1)) where
  last : is_less (get_or names (length names - 1) d).now q ≡ true
  last = subst (λ (o : Option (Bor (List ℕ))). option_map_or (λ last. is_less last.now q) o true ≡ true) (slice_get-get_or names (length names - 1) d (omega arith)) after

  by : (k < length names - 1) ⊎ (length names - 1 ≤ k) → is_less (get_or names k d).now q ≡ true
  by (inl before) = less-trans (get_or names k d).now (get_or names (length names - 1) d).now q (rises k (length names - 1) d before (omega arith)) last
  by (inr past) = subst (λ (i : ℕ). is_less (get_or names i d).now q ≡ true) (omega arith) last

none-rose : (names : List (Bor (List ℕ))) (q : List ℕ) → All (λ k. is_less k.now q ≡ true) names → is_among names q ≡ false
none-rose names q all = list_any_none (λ k. ties q k.now) names (λ k d inside. ap is_eq (greater-is (get_or names k d).now q (all k d inside)))

none-other : (names others : List (Bor (List ℕ))) (q : List ℕ) → All (λ k. is_less k.now q ≡ true) names → AreBelow names others → is_among others q ≡ false
none-other names others q all below = by (is_among others q) refl where
  none : list_any (λ k. is_less q k.now) names ≡ false
  none = list_any_none (λ k. is_less q k.now) names (λ k d inside. ap is_lt (greater-is (get_or names k d).now q (all k d inside)))

  by : (b : Bool) → is_among others q ≡ b → b ≡ false
  by true is = absurd (true≢false (sym (below q is) ∙ none))
  by false is = refl

-- what is after all that rose was not met
pub new-after : (names others : List (Bor (List ℕ))) (q : List ℕ) → Rises names → AreBelow names others → is_after names q ≡ true → true ≡ not (is_among names q || is_among others q)
new-after names others q rises below after =
    let all = all-less names q rises after in
    sym (ap (λ (b : Bool). not (b || is_among others q)) (none-rose names q all) ∙ ap not (none-other names others q all below))

among-push : (names : List (Bor (List ℕ))) (key : Bor (List ℕ)) (q : List ℕ) → is_among (names ++ key ∷ []) q ≡ (is_among names q || (ties key.now q || false))
among-push names key q =
    list_any-append (λ k. ties q k.now) names (key ∷ [])
    ∙ ap (λ (b : Bool). is_among names q || (b || false)) (ties-symm q key.now)

push-or : (t a o : Bool) → ((a || (t || false)) || o) ≡ cond t true (a || o)
push-or true true o = refl
push-or true false o = refl
push-or false true o = refl
push-or false false o = refl

-- one more that rises
pub met-after : (names others : List (Bor (List ℕ))) (key : Bor (List ℕ)) (q : List ℕ) → (is_among (names ++ key ∷ []) q || is_among others q) ≡ cond (ties key.now q) true (is_among names q || is_among others q)
met-after names others key q =
    ap (λ (b : Bool). b || is_among others q) (among-push names key q) ∙ push-or (ties key.now q) (is_among names q) (is_among others q)

pub rises-after : (names : List (Bor (List ℕ))) (key : Bor (List ℕ)) → Rises names → is_after names key.now ≡ true → Rises (names ++ key ∷ [])
rises-after names key rises after =
    all_pairs_push (λ a b. is_less a.now b.now ≡ true) names key rises (all-less names key.now rises after)

or-left : (a b : Bool) → a ≡ true → (a || b) ≡ true
or-left true b is = refl
or-left false b is = absurd (true≢false (sym is))

pub below-after : (names others : List (Bor (List ℕ))) (key : Bor (List ℕ)) → AreBelow names others → AreBelow (names ++ key ∷ []) others
below-after names others key below q is =
    list_any-append (λ k. is_less q k.now) names (key ∷ []) ∙ or-left (list_any (λ k. is_less q k.now) names) (list_any (λ k. is_less q k.now) (key ∷ [])) (below q is)

-- one that was met already
pub met-again : (has : List ℕ → Bool) (name q : List ℕ) → has name ≡ true → has q ≡ cond (ties name q) true (has q)
met-again has name q met = by (ties name q) refl where
  by : (b : Bool) → ties name q ≡ b → has q ≡ cond b true (has q)
  by true is = sym (ap has (ties-same name q is)) ∙ met
  by false is = refl

other-or : (t a o : Bool) → (a || cond t true o) ≡ cond t true (a || o)
other-or true true o = refl
other-or true false o = refl
other-or false a o = refl

-- one more that does not rise
pub met-other : (names others others' : List (Bor (List ℕ))) (name q : List ℕ) → is_among others' q ≡ cond (ties name q) true (is_among others q) → (is_among names q || is_among others' q) ≡ cond (ties name q) true (is_among names q || is_among others q)
met-other names others others' name q is =
    ap (λ (b : Bool). is_among names q || b) is ∙ other-or (ties name q) (is_among names q) (is_among others q)

reverse-less : (o p : Ordering) → p ≡ ordering_reverse o → is_lt p ≡ false → is_eq o ≡ false → is_lt o ≡ true
reverse-less Less p is other apart = refl
reverse-less Equal p is other apart = absurd (true≢false apart)
reverse-less Greater p is other apart = absurd (true≢false (sym (ap is_lt is) ∙ other))

-- what is not after the last, and not among them, is less than some
stray-at : (names : List (Bor (List ℕ))) (q : List ℕ) (d : Bor (List ℕ)) → 0 < length names → is_after names q ≡ false → is_among names q ≡ false → list_any (λ k. is_less q k.now) names ≡ true
stray-at names q d some after apart =
    list_any_at (λ k. is_less q k.now) names (length names - 1) d (omega arith)
    (reverse-less (slice_cmp nat_cmp q last.now) (slice_cmp nat_cmp last.now q) (nat_list_cmp_total.antisymm last.now q) low (by (ties q last.now) refl))
  where
    last : Bor (List ℕ)
    last = get_or names (length names - 1) d

    low : is_less last.now q ≡ false
    low = subst (λ (o : Option (Bor (List ℕ))). option_map_or (λ last. is_less last.now q) o true ≡ false) (slice_get-get_or names (length names - 1) d (omega arith)) after

    by : (b : Bool) → ties q last.now ≡ b → b ≡ false
    by true is = absurd (true≢false (sym (list_any_at (λ k. ties q k.now) names (length names - 1) d (omega arith) is) ∙ apart))
    by false is = refl

stray-below : (names : List (Bor (List ℕ))) (q : List ℕ) → is_after names q ≡ false → is_among names q ≡ false → list_any (λ k. is_less q k.now) names ≡ true
stray-below [] q after apart = absurd (true≢false after)
stray-below (x ∷ xs) q after apart = stray-at (x ∷ xs) q x (omega arith) after apart

pub below-other : (names others others' : List (Bor (List ℕ))) (name : List ℕ) → AreBelow names others → is_after names name ≡ false → is_among names name ≡ false → ((q : List ℕ) → is_among others' q ≡ cond (ties name q) true (is_among others q)) → AreBelow names others'
below-other names others others' name below after apart is q there = by (ties name q) refl (sym (is q) ∙ there) where
  by : (b : Bool) → ties name q ≡ b → cond b true (is_among others q) ≡ true → list_any (λ k. is_less q k.now) names ≡ true
  by true same e = subst (λ (text : List ℕ). list_any (λ k. is_less text k.now) names ≡ true) (ties-same name q same) (stray-below names name after apart)
  by false same e = below q e

-- after a push that may fail
pub rises-pushed : (names names' : List (Bor (List ℕ))) (key : Bor (List ℕ)) (ok : Bool) → names' ≡ (if ok then names ++ key ∷ [] else names) → Rises names → is_after names key.now ≡ true → Rises names'
rises-pushed names names' key true is rises after = subst Rises (sym is) (rises-after names key rises after)
rises-pushed names names' key false is rises after = subst Rises (sym is) rises

pub below-pushed : (names names' others : List (Bor (List ℕ))) (key : Bor (List ℕ)) (ok : Bool) → names' ≡ (if ok then names ++ key ∷ [] else names) → AreBelow names others → AreBelow names' others
below-pushed names names' others key true is below = subst (λ (ns : List (Bor (List ℕ))). AreBelow ns others) (sym is) (below-after names others key below)
below-pushed names names' others key false is below = subst (λ (ns : List (Bor (List ℕ))). AreBelow ns others) (sym is) below

-- after an insertion that may fail
pub below-inserted : {E : Type 0} (names others others' : List (Bor (List ℕ))) (name : List ℕ) (r : Result Bool E) → OnOk r ((q : List ℕ) → is_among others' q ≡ cond (ties name q) true (is_among others q)) → OnErr r (others' ≡ others) → AreBelow names others → is_after names name ≡ false → is_among names name ≡ false → AreBelow names others'
below-inserted names others others' name (Ok new) more same below after apart = below-other names others others' name below after apart more
below-inserted names others others' name (Err e) more same below after apart = subst (AreBelow names) (sym same) below

-- what a binary search finds among names that rise
pub searched : (names : List (Bor (List ℕ))) (q : List ℕ) (r : Result ℕ ℕ) → IsBinarySearchResult (λ k. slice_cmp nat_cmp k.now q) names r → IsSearchInRange r (length names) → Rises names → is_ok r ≡ is_among names q
searched [] q (Ok i) found inside rises = absurd (omega arith)
searched (x ∷ xs) q (Ok i) found inside rises =
    sym (list_any_at (λ k. ties q k.now) (x ∷ xs) i x inside (ties-symm q (get_or (x ∷ xs) i x).now ∙ ap is_eq (found x)))
searched names q (Err i) found inside rises =
    sym (list_any_none (λ k. ties q k.now) names (λ k d within. by k d within (cases_lt k i)))
  where
    ordered : IsSortedBy (λ a b. is_less a.now b.now) names
    ordered k d low within = ap is_lt (greater-is (get_or names k d).now (get_or names (k + 1) d).now (rises k (k + 1) d (omega arith) within))

    point : IsPartitionPoint (λ k. slice_cmp nat_cmp k.now q ≡ Less) (λ k. slice_cmp nat_cmp k.now q ≡ Greater) names i
    point = found (searchable_from_sorted nat_list_cmp_total (λ k. k.now) names q ordered)

    by : (k : ℕ) (d : Bor (List ℕ)) → k < length names → (k < i) ⊎ (i ≤ k) → ties q (get_or names k d).now ≡ false
    by k d within (inl before) = ties-symm q (get_or names k d).now ∙ ap is_eq (point.0 k d (omega arith) before)
    by k d within (inr past) = ties-symm q (get_or names k d).now ∙ ap is_eq (point.1 k d past within)
