use Rattle.std.proofs.Common.{◌≡◌, ◌≢◌, ℕ, suc, ◌+◌, ◌<◌, ◌≤◌, ◌==◌, ◌||◌, Bool, true, false, not, cond, List, [], ◌∷◌, ◌++◌, length, get_or, refl, arith, ap, ◌∙◌, sym, subst, append_assoc, length-append, Any}
use Rattle.std.specs.List.{AllZip, list_any, join_with_byte}
use Rattle.std.proofs.lemmas.Bool.Decides.{nat_tests}
use Rattle.std.proofs.lemmas.List.{get_or_default}
use Rattle.std.proofs.lemmas.List.Quantifiers.{all_pairs_push}
use Rattle.std.proofs.lemmas.List.Folds.{Any-from_list_any, list_any-from_Any, list_any-append}
use Rattle.std.proofs.lemmas.List.Splits.{join_with_byte-slice_split}
use Rattle.zr_listing.specs.Lines.{lines_of, NamesDiffer, Lines, IsFirstBad}
use Rattle.zr_listing.specs.Steps.{Begins, BeginsBad}
use Rattle.zr_listing.specs.Names.{ties}
use Rattle.zr_listing.proofs.Cutting.{length_parted}
use Rattle.zr_listing.proofs.Rising.{ties-itself, ties-same, ties-symm}

-- what stands while lines are read: those before the rest spell the rows, whose names are the ones that were seen
pub record Reading {Row : Type 0} (spells : List ℕ → Row → Type 0) (name : Row → List ℕ) (bytes rest : List ℕ) (rows : List Row) (met : List ℕ → Bool) : Type 0 where
  pub earlier : List (List ℕ)
  pub cut : lines_of bytes ≡ earlier ++ lines_of rest
  pub each : AllZip spells earlier rows
  pub differ : NamesDiffer name rows
  pub room : length rows + length rest ≤ length bytes
  pub seen : (q : List ℕ) → met q ≡ list_any (λ row. ties q (name row)) rows

length-zip : {A B : Type 0} (R : A → B → Type 0) (xs : List A) (ys : List B) → AllZip R xs ys → length xs ≡ length ys
length-zip R [] [] h = refl
length-zip R [] (y ∷ ys) h = absurd h
length-zip R (x ∷ xs) [] h = absurd h
length-zip R (x ∷ xs) (y ∷ ys) h = ap (λ n. suc n) (length-zip R xs ys h.1)

pub begun : {Row : Type 0} (spells : List ℕ → Row → Type 0) (name : Row → List ℕ) (bytes : List ℕ) → Reading spells name bytes bytes [] (λ q. false)
begun spells name bytes = record {
  earlier = [];
  cut = refl;
  each = tt;
  differ = λ i j d less inside. absurd (omega arith);
  room = omega arith;
  seen = λ q. refl;
}

pub done : {Row : Type 0} (spells : List ℕ → Row → Type 0) (name : Row → List ℕ) (bytes : List ℕ) (rows : List Row) (met : List ℕ → Bool) → Reading spells name bytes [] rows met → Lines spells bytes rows
done spells name bytes rows met r = record { lines = r.earlier; ended = r.cut; each = r.each }

pub stopped : {Row : Type 0} (spells : List ℕ → Row → Type 0) (name : Row → List ℕ) (bytes rest : List ℕ) (rows : List Row) (met : List ℕ → Bool) (number : ℕ) → Reading spells name bytes rest rows met → number ≡ length rows + 1 → BeginsBad spells rest → 0 < length rest → IsFirstBad spells name bytes number
stopped spells name bytes rest rows met number r is b some = record {
  earlier = r.earlier;
  line = b.line;
  later = b.later;
  rows = rows;
  cut = r.cut ∙ ap (λ l. r.earlier ++ l) b.cut;
  counted = is ∙ ap (λ n. n + 1) (sym (length-zip spells r.earlier rows r.each));
  each = r.each;
  differ = r.differ;
  there = λ last empty.
      let whole : lines_of rest ≡ [] ∷ [] = b.cut ∙ (rw last (ap (λ l. l ∷ []) empty)) in
      let nothing : [] ≡ rest = sym (ap (join_with_byte 10) whole) ∙ join_with_byte-slice_split 10 rest in
      let none : 0 ≡ length rest = ap length nothing in
      absurd (omega arith);
  bad = λ more row spelled. absurd (b.bad more row spelled);
}

-- the rows with this name, as the test finds them
any-name : {Row : Type 0} (name : Row → List ℕ) (text : List ℕ) (rows : List Row) → list_any (λ row. ties text (name row)) rows ≡ true → Any (λ other. name other ≡ text) rows
any-name name text rows found =
    let at = Any-from_list_any (λ row. ties text (name row)) rows found in
    (at.0, at.1, at.2, at.3, sym (ties-same text (name at.1) at.4))

-- a row whose name was seen before
pub repeated : {Row : Type 0} (spells : List ℕ → Row → Type 0) (name : Row → List ℕ) (bytes rest : List ℕ) (rows : List Row) (met : List ℕ → Bool) (number : ℕ) (row : Row) (after : List ℕ) (key : List ℕ) → Reading spells name bytes rest rows met → number ≡ length rows + 1 → Begins spells name rest row key after → met key ≡ true → IsFirstBad spells name bytes number
repeated spells name bytes rest rows met number row after key r is b found = record {
  earlier = r.earlier;
  line = b.line;
  later = lines_of after;
  rows = rows;
  cut = r.cut ∙ ap (λ l. r.earlier ++ l) b.cut;
  counted = is ∙ ap (λ n. n + 1) (sym (length-zip spells r.earlier rows r.each));
  each = r.each;
  differ = r.differ;
  there = λ last. let none : length (lines_of after) ≡ 0 = ap length last in absurd (omega (arith, length_parted 10 after));
  bad = λ more other spelled.
      subst (λ (t : List ℕ). Any (λ earlier. name earlier ≡ t) rows) (b.named other spelled) (any-name name key rows (sym (r.seen key) ∙ found));
}

pub zip-push : {A B : Type 0} (R : A → B → Type 0) (xs : List A) (ys : List B) (x : A) (y : B) → AllZip R xs ys → R x y → AllZip R (xs ++ x ∷ []) (ys ++ y ∷ [])
zip-push R [] [] x y h r = (r, tt)
zip-push R [] (b ∷ ys) x y h r = absurd h
zip-push R (a ∷ xs) [] x y h r = absurd h
zip-push R (a ∷ xs) (b ∷ ys) x y h r = (h.0, zip-push R xs ys x y h.1 r)

choice-or : (t x : Bool) → cond t true x ≡ (x || (t || false))
choice-or true true = refl
choice-or true false = refl
choice-or false true = refl
choice-or false false = refl

pub not-added : (added has : Bool) → added ≡ not has → added ≡ false → has ≡ true
not-added added true e low = refl
not-added added false e low = cc

pub was-added : (added has : Bool) → added ≡ not has → added ≡ true → has ≡ false
was-added added true e high = cc
was-added added false e high = refl

pub some-length : (text : List ℕ) (empty : Bool) → empty ≡ (length text == 0) → empty ≡ false → 0 < length text
some-length text empty e low = grind (arith, nat_tests)

-- one more row, of a new name
pub more : {Row : Type 0} (spells : List ℕ → Row → Type 0) (name : Row → List ℕ) (bytes rest : List ℕ) (rows rows' : List Row) (met met' : List ℕ → Bool) (row : Row) (after : List ℕ) (key : List ℕ) → Reading spells name bytes rest rows met → Begins spells name rest row key after → met key ≡ false → ((q : List ℕ) → met' q ≡ cond (ties key q) true (met q)) → rows' ≡ rows ++ row ∷ [] → Reading spells name bytes after rows' met'
more spells name bytes rest rows rows' met met' row after key r b new adds pushed = rw pushed (record {
  earlier = r.earlier ++ b.line ∷ [];
  cut = r.cut ∙ ap (λ l. r.earlier ++ l) b.cut ∙ sym (append_assoc r.earlier (b.line ∷ []) (lines_of after));
  each = zip-push spells r.earlier rows b.line row r.each b.spelled;
  differ = all_pairs_push (λ a b. name a ≢ name b) rows row r.differ (λ k d inside same.
      let there : Any (λ other. ties key (name other) ≡ true) rows =
      (k, get_or rows k d, inside, get_or_default rows k (get_or rows k d) d inside, rw (b.named row b.spelled ∙ sym same) (ties-itself (name (get_or rows k d)))) in
      let found = list_any-from_Any (λ other. ties key (name other)) rows there in
      let missing = sym (r.seen key) ∙ new in
      cc);
  room = omega (arith, length-append rows (row ∷ []), r.room, b.shorter);
  seen = λ q.
      let tied : ties key q ≡ ties q (name row) = ties-symm key q ∙ ap (ties q) (b.named row b.spelled) in
      let rest_rows = list_any-append (λ other. ties q (name other)) rows (row ∷ []) in
      adds q ∙ choice-or (ties key q) (met q) ∙ rw (tied, r.seen q) (sym rest_rows);
})
