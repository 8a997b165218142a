-- The scan of an item reads the table of items, and stops where no item goes on.
use Rattle.std.proofs.Common.{◌≡◌, ℕ, Bool, true, false, ◌&&◌, List, [], ◌∷◌, Some, None, Err, refl, ap, ◌∙◌, if◌then◌else◌, nat_le, arith}
use Rattle.std.proofs.Math.Bool.{and-false}
use Rattle.std.proofs.lemmas.Bool.Decides.{nat_tests}
use Rattle.zr_schedule.specs.declared.item.Limits.{Limits}
use Rattle.zr_schedule.specs.declared.item.Item.{Item}
use Rattle.zr_schedule.specs.Tokens.{Token, number, star, dash, slash, other}
use Rattle.zr_schedule.specs.Cron.{counted, is_in, item_if, item_of}
use Rattle.zr_schedule.specs.Scan.{number_first, after_range, after_first, item_at}
use Rattle.zr_schedule.proofs.Scans.{behind, Exact, exact_behind, wrong, short, IsRange, IsLast, range_exact, first_exact}

kept : (test : Bool) (item : Item) → test ≡ true → item_if test item ≡ Some item
kept test item h = ap (λ b. item_if b item) h

dropped : (test : Bool) (item : Item) → test ≡ false → item_if test item ≡ None
dropped test item h = ap (λ b. item_if b item) h

both : (a b : Bool) → a ≡ true → b ≡ true → (a && b) ≡ true
both a b h t = ap (λ x. x && b) h ∙ t

not_first : (a b : Bool) → a ≡ false → (a && b) ≡ false
not_first a b h = ap (λ x. x && b) h

not_second : (a b : Bool) → b ≡ false → (a && b) ≡ false
not_second a b h = ap (λ x. a && x) h ∙ and-false a

-- ---- behind a star

star_zero : (limits : Limits) (s digits : ℕ) → nat_le 1 s ≡ false → (u : List Token) → item_of limits (star ∷ slash ∷ number s digits ∷ u) ≡ None
star_zero limits s digits h [] = dropped (nat_le 1 s) (counted limits.low limits.high s) h
star_zero limits s digits h (t ∷ u) = refl

star_step_other : (limits : Limits) (t : Token) → number_first (t ∷ []) ≡ None → (u : List Token) → item_of limits (star ∷ slash ∷ t ∷ u) ≡ None
star_step_other limits (number n digits) e u = cc
star_step_other limits star e u = refl
star_step_other limits dash e u = refl
star_step_other limits slash e u = refl
star_step_other limits other e u = refl

star_range : (limits : Limits) → IsRange (behind (item_of limits) star) limits.low limits.high limits.high
star_range limits = record {
  whole = refl;
  step = record {
    good = λ s digits h. kept (nat_le 1 s) (counted limits.low limits.high s) h;
    zero = star_zero limits;
    long = λ s digits t u. refl;
    none = refl;
    other = star_step_other limits;
  };
  no_number = λ n digits u. refl;
  no_star = λ u. refl;
  no_other = λ u. refl;
}

-- ---- behind a number

-- no item begins with a number out of range
out_of_range : (limits : Limits) (n digits : ℕ) → is_in limits n ≡ false → (u : List Token) → item_of limits (number n digits ∷ u) ≡ None
out_of_range limits n digits h [] = dropped (is_in limits n) (counted n n 1) h
out_of_range limits n digits h (slash ∷ number s e ∷ []) = dropped _ (counted n limits.high s) (not_first (is_in limits n) (nat_le 1 s) h)
out_of_range limits n digits h (dash ∷ number m e ∷ []) = dropped _ (counted n m 1) (not_first (is_in limits n) _ h)
out_of_range limits n digits h (dash ∷ number m e ∷ slash ∷ number s f ∷ []) = dropped _ (counted n m s) (not_first (is_in limits n) _ h)
out_of_range limits n digits h _ = refl

number_zero : (limits : Limits) (n d s digits : ℕ) → nat_le 1 s ≡ false → (u : List Token) → item_of limits (number n d ∷ slash ∷ number s digits ∷ u) ≡ None
number_zero limits n d s digits h [] = dropped _ (counted n limits.high s) (not_second (is_in limits n) (nat_le 1 s) h)
number_zero limits n d s digits h (t ∷ u) = refl

number_step_other : (limits : Limits) (n d : ℕ) (t : Token) → number_first (t ∷ []) ≡ None → (u : List Token) → item_of limits (number n d ∷ slash ∷ t ∷ u) ≡ None
number_step_other limits n d (number m digits) e u = cc
number_step_other limits n d star e u = refl
number_step_other limits n d dash e u = refl
number_step_other limits n d slash e u = refl
number_step_other limits n d other e u = refl

number_range : (limits : Limits) (n d : ℕ) → is_in limits n ≡ true → IsRange (behind (item_of limits) (number n d)) n n limits.high
number_range limits n d within = record {
  whole = kept (is_in limits n) (counted n n 1) within;
  step = record {
    good = λ s digits h. kept _ (counted n limits.high s) (both (is_in limits n) (nat_le 1 s) within h);
    zero = number_zero limits n d;
    long = λ s digits t u. refl;
    none = refl;
    other = number_step_other limits n d;
  };
  no_number = λ m digits u. refl;
  no_star = λ u. refl;
  no_other = λ u. refl;
}

-- ---- behind a number and a dash

dash_zero : (limits : Limits) (n d m e s digits : ℕ) → nat_le 1 s ≡ false → (u : List Token) → item_of limits (number n d ∷ dash ∷ number m e ∷ slash ∷ number s digits ∷ u) ≡ None
dash_zero limits n d m e s digits h [] = dropped _ (counted n m s) (not_second (is_in limits n) _ (not_second (nat_le n m && nat_le m limits.high) (nat_le 1 s) h))
dash_zero limits n d m e s digits h (t ∷ u) = refl

dash_step_other : (limits : Limits) (n d m e : ℕ) (t : Token) → number_first (t ∷ []) ≡ None → (u : List Token) → item_of limits (number n d ∷ dash ∷ number m e ∷ slash ∷ t ∷ u) ≡ None
dash_step_other limits n d m e (number s digits) h u = cc
dash_step_other limits n d m e star h u = refl
dash_step_other limits n d m e dash h u = refl
dash_step_other limits n d m e slash h u = refl
dash_step_other limits n d m e other h u = refl

dash_range : (limits : Limits) (n d m e : ℕ) → is_in limits n ≡ true → (nat_le n m && nat_le m limits.high) ≡ true → IsRange (behind (behind (behind (item_of limits) (number n d)) dash) (number m e)) n m m
dash_range limits n d m e within above = record {
  whole = kept _ (counted n m 1) (both (is_in limits n) _ within above);
  step = record {
    good = λ s digits h. kept _ (counted n m s) (both (is_in limits n) _ within (both (nat_le n m && nat_le m limits.high) (nat_le 1 s) above h));
    zero = dash_zero limits n d m e;
    long = λ s digits t u. refl;
    none = refl;
    other = dash_step_other limits n d m e;
  };
  no_number = λ k digits u. refl;
  no_star = λ u. refl;
  no_other = λ u. refl;
}

dash_below : (limits : Limits) (n d m e : ℕ) → (nat_le n m && nat_le m limits.high) ≡ false → (u : List Token) → item_of limits (number n d ∷ dash ∷ number m e ∷ u) ≡ None
dash_below limits n d m e h [] = dropped _ (counted n m 1) (not_second (is_in limits n) _ h)
dash_below limits n d m e h (slash ∷ number s digits ∷ []) = dropped _ (counted n m s) (not_second (is_in limits n) _ (not_first (nat_le n m && nat_le m limits.high) (nat_le 1 s) h))
dash_below limits n d m e h _ = refl

dash_other : (limits : Limits) (n d : ℕ) (t : Token) → number_first (t ∷ []) ≡ None → (u : List Token) → item_of limits (number n d ∷ dash ∷ t ∷ u) ≡ None
dash_other limits n d (number m e) h u = cc
dash_other limits n d star h u = refl
dash_other limits n d dash h u = refl
dash_other limits n d slash h u = refl
dash_other limits n d other h u = refl

itself : (limits : Limits) (n : ℕ) → is_in limits n ≡ true → (nat_le n n && nat_le n limits.high) ≡ true
itself limits n h = grind (arith, nat_tests)

dash_last : (limits : Limits) (n d : ℕ) → is_in limits n ≡ true → IsLast (behind (behind (item_of limits) (number n d)) dash) limits n
dash_last limits n d within = record {
  begins = kept _ (counted n n 1) (both (is_in limits n) _ within (itself limits n within));
  good = λ m digits h. dash_range limits n d m digits within h;
  no_dash = λ m digits u. refl;
  bad = λ m digits h. dash_below limits n d m digits h;
  none = refl;
  other = dash_other limits n d;
}

-- ---- an item

numbered_exact : (limits : Limits) (n digits : ℕ) (rest : List Token) (b : Bool) → is_in limits n ≡ b → Exact (item_of limits) (number n digits ∷ rest) (if b then after_first limits n rest else Err (number n digits ∷ rest))
numbered_exact limits n digits rest true e =
    exact_behind (item_of limits) (number n digits) rest (after_first limits n rest) (first_exact (behind (item_of limits) (number n digits)) limits n (number_range limits n digits e) (dash_last limits n digits e) rest)
numbered_exact limits n digits rest false e = wrong (item_of limits) (number n digits) rest (star ∷ []) (counted limits.low limits.high 1) refl (out_of_range limits n digits e)

pub item_exact : (limits : Limits) (all : List Token) → Exact (item_of limits) all (item_at limits all)
item_exact limits [] = short (item_of limits) (star ∷ []) (counted limits.low limits.high 1) refl refl
item_exact limits (number n digits ∷ rest) = numbered_exact limits n digits rest (is_in limits n) refl
item_exact limits (star ∷ rest) = exact_behind (item_of limits) star rest (after_range limits.low limits.high limits.high rest) (range_exact (behind (item_of limits) star) limits.low limits.high limits.high (star_range limits) (λ u. refl) rest)
item_exact limits (dash ∷ rest) = wrong (item_of limits) dash rest (star ∷ []) (counted limits.low limits.high 1) refl (λ u. refl)
item_exact limits (slash ∷ rest) = wrong (item_of limits) slash rest (star ∷ []) (counted limits.low limits.high 1) refl (λ u. refl)
item_exact limits (other ∷ rest) = wrong (item_of limits) other rest (star ∷ []) (counted limits.low limits.high 1) refl (λ u. refl)
