use Rattle.std.proofs.Common.{◌≡◌, ◌≢◌, ◌==◌, ◌&&◌, ◌||◌, ℕ, suc, Bool, true, false, nat_lt, cond, List, [], ◌∷◌, get_or, refl, arith, ap, sym, All, AllPairs, IsPermutation}
use Rattle.std.specs.List.{IsDistinct}
use Rattle.std.specs.List.Sorted.{IsSortedBy}
use Rattle.std.specs.Cmp.{IsTotalOrder, IsStrictWeakOrder}
use Rattle.std.specs.Cmp.Lexicographic.{slice_cmp, nat_list_cmp_total, nat_list_eq_equiv}
use Rattle.std.specs.Ordering.{nat_cmp, is_lt, ordering_then, ordering_reverse}
use Rattle.std.specs.declared.cmp.Ordering.{Ordering}
use Rattle.std.specs.declared.cmp.Ordering.TheVariants.{Less, Equal, Greater}
use Rattle.std.specs.Str.{bytes_eq}
use Rattle.std.proofs.lemmas.Bool.Decides.{nat_tests}
use Rattle.std.proofs.lemmas.Cmp.{on_total, then_total, nat_cmp_total}
use Rattle.std.proofs.lemmas.List.Elements.{All-from_recursion, recursion_from_All}
use Rattle.std.proofs.lemmas.List.Kept.{AllPairs-cons}
use Rattle.std.proofs.lemmas.List.Sorted.{ranks_by, sorted_far}
use Rattle.std.proofs.lemmas.Map.Keys.{IsDistinct-IsPermutation}
use Rattle.std.proofs.lemmas.Map.Lookups.{exact_bytes}
use Rattle.std.proofs.lemmas.Slice.Eq.{bytes_eq-Decides}
use Rattle.zr_command.specs.Names.{is_below, name_is_below}
use Rattle.zr_command.specs.Listings.{stands_before, IsVersionList}
use Rattle.zr_command.specs.declared.version.VersionName.{VersionName}
use Rattle.zr_command.specs.declared.version.VersionName.TheVariants.{Snap, Mark}
use Rattle.zr_command.specs.declared.version.VersionRow.{VersionRow}
use Rattle.zr_listing.specs.Lines.{NamesDiffer}
use Rattle.zr_listing.specs.Order.{row_cmp, kind_rank, bare_name}

-- rows are compared by an order
row_total : IsTotalOrder row_cmp
row_total =
    then_total (on_total (λ (r : VersionRow). r.txg) nat_cmp_total)
    (then_total (on_total (λ (r : VersionRow). kind_rank r.name) nat_cmp_total)
    (on_total (λ (r : VersionRow). bare_name r.name) nat_list_cmp_total))

pub row_ranks : IsStrictWeakOrder (λ a b. is_lt (row_cmp a b))
row_ranks = ranks_by row_total (λ (r : VersionRow). r)

not-false : (b : Bool) → (b ≡ true → ⊥) → b ≡ false
not-false true wrong = absurd (wrong refl)
not-false false wrong = refl

-- names that differ, by a test
differ-distinct : {Row : Type 0} (name : Row → List ℕ) (rows : List Row) → NamesDiffer name rows → IsDistinct (λ a b. bytes_eq (name a) (name b)) rows
unfolding IsDistinct
differ-distinct name [] differ = tt
differ-distinct {Row} name (row ∷ rows) differ =
    let P : Row → Type 0 = λ other. bytes_eq (name row) (name other) ≡ false in
    let first : All P rows = λ k d inside. not-false (bytes_eq (name row) (name (get_or rows k d))) (λ same.
    differ 0 (suc k) d (omega arith) (omega arith) ((bytes_eq-Decides (name row) (name (get_or rows k d))).0 same)) in
    (recursion_from_All P rows first, differ-distinct name rows (λ i j d less inside. differ (suc i) (suc j) d (omega arith) (omega arith)))

distinct-differ : {Row : Type 0} (name : Row → List ℕ) (rows : List Row) → IsDistinct (λ a b. bytes_eq (name a) (name b)) rows → NamesDiffer name rows
unfolding IsDistinct
distinct-differ name [] distinct = λ i j d less inside. absurd (omega arith)
distinct-differ {Row} name (row ∷ rows) distinct =
    let P : Row → Type 0 = λ other. bytes_eq (name row) (name other) ≡ false in
    let R : Row → Row → Type 0 = λ a b. name a ≢ name b in
    let first = All-from_recursion P rows distinct.0 in
    AllPairs-cons R row rows (λ k d inside same.
    let ties = (bytes_eq-Decides (name row) (name (get_or rows k d))).1 same in
    let apart = first k d inside in
    cc) (distinct-differ name rows distinct.1)

-- names that differ stay so when the rows change places
pub differ-permutation : {Row : Type 0} (name : Row → List ℕ) (xs ys : List Row) → IsPermutation xs ys → NamesDiffer name xs → NamesDiffer name ys
differ-permutation name xs ys p differ =
    distinct-differ name ys (IsDistinct-IsPermutation (λ a b. bytes_eq (name a) (name b)) (λ a b. nat_list_eq_equiv.symm (name a) (name b)) xs ys p (differ-distinct name xs differ))

flipped : (o back : Ordering) → back ≡ ordering_reverse o → is_lt o ≡ false → (o ≡ Equal → ⊥) → is_lt back ≡ true
flipped Less back e low other = cc
flipped Equal back e low other = absurd (other refl)
flipped Greater back e low other = rw e refl

below : (x y : List ℕ) → is_lt (slice_cmp nat_cmp y x) ≡ false → (x ≡ y → ⊥) → is_below x y ≡ true
below x y low other =
    flipped (slice_cmp nat_cmp y x) (slice_cmp nat_cmp x y) (nat_list_cmp_total.antisymm x y) low (λ same. other (sym (exact_bytes y x same)))

name-below : (a b : VersionName) → is_lt (ordering_then (nat_cmp (kind_rank b) (kind_rank a)) (slice_cmp nat_cmp (bare_name b) (bare_name a))) ≡ false → a ≢ b → name_is_below a b ≡ true
name-below (Snap x) (Snap y) low other = below x y low (λ same. other (ap Snap same))
name-below (Snap x) (Mark y) low other = refl
name-below (Mark x) (Snap y) low other = cc
name-below (Mark x) (Mark y) low other = below x y low (λ same. other (ap Mark same))

txg-cases : (lt eq gt same : Bool) (rest : Ordering) (then : Bool) → (lt ≡ false → eq ≡ false → gt ≡ true) → (eq ≡ true → same ≡ true) → is_lt (ordering_then (cond lt Less (cond eq Equal Greater)) rest) ≡ false → (is_lt rest ≡ false → then ≡ true) → (gt || (same && then)) ≡ true
txg-cases true eq gt same rest then one two low next = cc
txg-cases false true true same rest then one two low next = refl
txg-cases false true false same rest then one two low next = rw (two refl, next low) refl
txg-cases false false gt same rest then one two low next = rw (one refl refl) refl

-- a row that the order does not put after another stands before it, where their names differ
stands : (a b : VersionRow) → is_lt (row_cmp b a) ≡ false → a.name ≢ b.name → stands_before a.txg a.name b.txg b.name ≡ true
stands a b low other =
    let m = a.txg in
    let n = b.txg in
    let later : nat_lt n m ≡ false → (n == m) ≡ false → nat_lt m n ≡ true = λ h k. grind (arith, nat_tests) in
    let same : (n == m) ≡ true → (m == n) ≡ true = λ h. grind (arith, nat_tests) in
    txg-cases (nat_lt n m) (n == m) (nat_lt m n) (m == n)
    (ordering_then (nat_cmp (kind_rank b.name) (kind_rank a.name)) (slice_cmp nat_cmp (bare_name b.name) (bare_name a.name)))
    (name_is_below a.name b.name) later same low (λ next. name-below a.name b.name next other)

-- rows of different names that are sorted are a list of versions
pub version-list : (full : VersionRow → List ℕ) → ((a b : VersionRow) → a.name ≡ b.name → full a ≡ full b) → (rows : List VersionRow) → IsSortedBy (λ a b. is_lt (row_cmp a b)) rows → NamesDiffer full rows → IsVersionList rows
version-list full same rows sorted differ =
    let apart : AllPairs (λ a b. a.name ≢ b.name) rows = λ i j d less inside e. differ i j d less inside (same (get_or rows i d) (get_or rows j d) e) in
    record {
      in_order = λ i j d less inside.
          stands (get_or rows i d) (get_or rows j d) (sorted_far (λ a b. is_lt (row_cmp a b)) row_ranks rows sorted i j d (omega arith) inside) (apart i j d less inside);
      names_differ = apart;
    }
