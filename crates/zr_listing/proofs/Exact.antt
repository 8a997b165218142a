use Rattle.std.proofs.Common.{◌≡◌, ◌≢◌, ℕ, ◌<◌, List, [], ◌∷◌, ◌++◌, length, get_or, refl, arith, ap, ◌∙◌, sym, subst, length-append, Result, Ok, Err, IfErr}
use Rattle.std.specs.List.{AllZip}
use Rattle.std.proofs.lemmas.List.{append_cancel_right, get_or_append_left, get_or_at}
use Rattle.zr_listing.specs.Lines.{NamesDiffer, Lines, IsFirstBad, IsBadAt}
use Rattle.zr_listing.specs.Listing.{IsGarbled}
use Rattle.zr_listing.specs.declared.faults.ListFault.{ListFault}
use Rattle.zr_listing.specs.declared.faults.ListFault.TheVariants as fault

pub zip-one : {Row : Type 0} (spells : List ℕ → Row → Type 0) (one : (line : List ℕ) (a b : Row) → spells line a → spells line b → a ≡ b) (lines : List (List ℕ)) (xs ys : List Row) → AllZip spells lines xs → AllZip spells lines ys → xs ≡ ys
zip-one spells one [] [] [] p q = refl
zip-one spells one [] (x ∷ xs) ys p q = absurd p
zip-one spells one [] [] (y ∷ ys) p q = absurd q
zip-one spells one (l ∷ lines) [] ys p q = absurd p
zip-one spells one (l ∷ lines) (x ∷ xs) [] p q = absurd q
zip-one spells one (l ∷ lines) (x ∷ xs) (y ∷ ys) p q =
    let first = one l x y p.0 q.0 in
    let rest = zip-one spells one lines xs ys p.1 q.1 in
    cc

-- bytes are the lines of one list of rows at most, where a line is that of one row at most
pub lines-one : {Row : Type 0} (spells : List ℕ → Row → Type 0) (one : (line : List ℕ) (a b : Row) → spells line a → spells line b → a ≡ b) (bytes : List ℕ) (xs ys : List Row) → Lines spells bytes xs → Lines spells bytes ys → xs ≡ ys
lines-one spells one bytes xs ys p q =
    let same : q.lines ≡ p.lines = append_cancel_right q.lines p.lines ([] ∷ []) (sym q.ended ∙ p.ended) in
    zip-one spells one p.lines xs ys p.each (subst (λ (ls : List (List ℕ)). AllZip spells ls ys) same q.each)

-- the rows of a listing go on behind those of its first lines
pub record GoesOn {Row : Type 0} (spells : List ℕ → Row → Type 0) (line : List ℕ) (later : List (List ℕ)) (rows whole : List Row) : Type 0 where
  pub row : Row
  pub more : List Row
  pub longer : whole ≡ rows ++ row ∷ more
  pub spelled : spells line row
  pub some : later ≢ []

pub walk : {Row : Type 0} (spells : List ℕ → Row → Type 0) (one : (line : List ℕ) (a b : Row) → spells line a → spells line b → a ≡ b) (earlier lines : List (List ℕ)) (line : List ℕ) (later : List (List ℕ)) (rows whole : List Row) → AllZip spells earlier rows → AllZip spells lines whole → earlier ++ line ∷ later ≡ lines ++ [] ∷ [] → (later ≡ [] → line ≢ []) → GoesOn spells line later rows whole
walk spells one [] [] line later rows whole p q e there = absurd (let last : later ≡ [] = cc in let empty : line ≡ [] = cc in there last empty)
walk spells one [] (l ∷ lines) line later [] [] p q e there = absurd q
walk spells one [] (l ∷ lines) line later [] (y ∷ ys) p q e there =
    let first : l ≡ line = cc in
    let others : later ≡ lines ++ [] ∷ [] = cc in
    record {
      row = y;
      more = ys;
      longer = refl;
      spelled = subst (λ (t : List ℕ). spells t y) first q.0;
      some = λ none. let count : length (lines ++ [] ∷ []) ≡ 0 = ap length (sym others ∙ none) in absurd (omega (arith, length-append lines ([] ∷ [])));
    }
walk spells one [] (l ∷ lines) line later (x ∷ xs) whole p q e there = absurd p
walk spells one (k ∷ earlier) [] line later rows whole p q e there =
    absurd (let none : earlier ++ line ∷ later ≡ [] = cc in let count : length (earlier ++ line ∷ later) ≡ 0 = ap length none in omega (arith, length-append earlier (line ∷ later)))
walk spells one (k ∷ earlier) (l ∷ lines) line later [] whole p q e there = absurd p
walk spells one (k ∷ earlier) (l ∷ lines) line later (x ∷ xs) [] p q e there = absurd q
walk spells one (k ∷ earlier) (l ∷ lines) line later (x ∷ xs) (y ∷ ys) p q e there =
    let first : l ≡ k = cc in
    let same : x ≡ y = one k x y p.0 (subst (λ (t : List ℕ). spells t y) first q.0) in
    let others : earlier ++ line ∷ later ≡ lines ++ [] ∷ [] = cc in
    let on = walk spells one earlier lines line later xs ys p.1 q.1 others there in
    let longer = on.longer in
    record { row = on.row; more = on.more; longer = cc; spelled = on.spelled; some = on.some }

-- a row that has the name of an earlier one
named-twice : {Row : Type 0} (name : Row → List ℕ) (rows more : List Row) (row x : Row) (k : ℕ) → k < length rows → get_or rows k x ≡ x → name x ≡ name row → NamesDiffer name (rows ++ row ∷ more) → ⊥
named-twice name rows more row x k inside at same differ =
    let one : get_or (rows ++ row ∷ more) k x ≡ x = get_or_append_left rows (row ∷ more) x k inside ∙ at in
    let other : get_or (rows ++ row ∷ more) (length rows) x ≡ row = get_or_at rows row more x (length rows) refl in
    differ k (length rows) x inside (omega (arith, length-append rows (row ∷ more))) (ap name one ∙ same ∙ ap name (sym other))

-- where a first line is bad, the bytes are the lines of no rows of different names
pub bad-none : {Row : Type 0} (spells : List ℕ → Row → Type 0) (one : (line : List ℕ) (a b : Row) → spells line a → spells line b → a ≡ b) (name : Row → List ℕ) (bytes : List ℕ) (number : ℕ) (rows : List Row) → IsFirstBad spells name bytes number → Lines spells bytes rows → NamesDiffer name rows → ⊥
bad-none {Row} spells one name bytes number rows b p differ =
    let on = walk spells one b.earlier p.lines b.line b.later b.rows rows b.each p.each (sym b.cut ∙ p.ended) b.there in
    let twice = b.bad on.some on.row on.spelled in
    named-twice name b.rows on.more on.row twice.1 twice.0 twice.2 twice.3 twice.4 (subst (λ (l : List Row). NamesDiffer name l) on.longer differ)

-- what a reader's fault says: no rows
pub garbled-none : {Row X : Type 0} (spells : List ℕ → Row → Type 0) (one : (line : List ℕ) (a b : Row) → spells line a → spells line b → a ≡ b) (name : Row → List ℕ) (bytes : List ℕ) (r : Result X ListFault) → IfErr r (IsBadAt spells name bytes) → IsGarbled r → (rows : List Row) → Lines spells bytes rows → NamesDiffer name rows → ⊥
garbled-none spells one name bytes (Ok x) bad garbled rows lines differ = absurd garbled
garbled-none spells one name bytes (Err (fault.Garbled n)) bad garbled rows lines differ = bad-none spells one name bytes n rows bad lines differ
garbled-none spells one name bytes (Err fault.NoMemory) bad garbled rows lines differ = absurd garbled
