use Rattle.std.proofs.Common.{◌≡◌, ◌≢◌, ℕ, ◌+◌, true, false, List, [], ◌∷◌, ◌++◌, Option, Some, None, Ok, Err, Any, length, get_or, refl, arith, ap, ◌∙◌, sym, subst, append_assoc, length-append}
use Rattle.std.specs.Prelude.{if◌then◌else◌}
use Rattle.std.specs.List.{AllZip}
use Rattle.std.specs.Option.{option_map_or}
use Rattle.std.proofs.lemmas.List.{append-nil, get_or_append_left, get_or_at}
use Rattle.std.proofs.lemmas.List.Folds.{Any-from_list_any, list_any-from_Any}
use Rattle.zr_listing.specs.Lines.{IsFirstBad, Lines, lines_of, NamesDiffer}
use Rattle.zr_command.specs.Names.{same_text}
use Rattle.zr_exec.specs.Rows.{is_listed, rows_in}
use Rattle.zr_exec.proofs.Names.{not-false, not_same, same_itself, same_once}

-- a test reads each line that spells a row as it, and no other line
pub record ReadsLines {Row : Type 0} (spells : List ℕ → Row → Type 0) (row_of : List ℕ → Option Row) : Type 0 where
  pub spelled : (line : List ℕ) (row : Row) → spells line row → row_of line ≡ Some row
  pub read : (line : List ℕ) (row : Row) → row_of line ≡ Some row → spells line row

listed-found : {Row : Type 0} (name : Row → List ℕ) (rows : List Row) (text : List ℕ) → Any (λ other. name other ≡ text) rows → is_listed name rows text ≡ true
listed-found {Row} name rows text any =
    let at : Any (λ (row : Row). same_text (name row) text ≡ true) rows = (any.0, any.1, any.2, any.3, subst (λ (t : List ℕ). same_text (name any.1) t ≡ true) any.4 (same_itself (name any.1))) in
    list_any-from_Any (λ row. same_text (name row) text) rows at

-- a row whose name differs from those before is not listed before
new-name : {Row : Type 0} (name : Row → List ℕ) (before : List Row) (row : Row) (after : List Row) → NamesDiffer name (before ++ row ∷ after) → is_listed name before (name row) ≡ false
new-name name before row after differ = not-false (is_listed name before (name row)) (λ listed.
    let at = Any-from_list_any (λ other. same_text (name other) (name row)) before listed in
    let k = at.0 in
    let x = at.1 in
    let whole = before ++ row ∷ after in
    let one : get_or whole k x ≡ x = get_or_append_left before (row ∷ after) x k at.2 ∙ at.3 in
    let other : get_or whole (length before) x ≡ row = get_or_at before row after x (length before) refl in
    let same : name x ≡ name row = same_once (name x) (name row) at.4 in
    differ k (length before) x at.2 (omega (arith, length-append before (row ∷ after))) (ap name one ∙ same ∙ ap name (sym other)))

-- one line more that is read
one-more : {Row : Type 0} (row_of : List ℕ → Option Row) (name : Row → List ℕ) (before : List Row) (line : List ℕ) (later : List (List ℕ)) (row : Row) → later ≢ [] → row_of line ≡ Some row → is_listed name before (name row) ≡ false → rows_in row_of name before (line ∷ later) ≡ rows_in row_of name (before ++ row ∷ []) later
one-more row_of name before line [] row some read fresh = absurd (some refl)
one-more row_of name before line (next ∷ later) row some read fresh = rw (read, fresh) refl

-- what ends with an element is not empty
pub not-empty : {X : Type 0} (xs : List X) (y : X) (ys : List X) → xs ++ y ∷ ys ≢ []
not-empty [] y ys = λ e. cc
not-empty (x ∷ xs) y ys = λ e. cc

-- one element moves from the front of a list to the end of another
pub pushed : {X : Type 0} (xs : List X) (x : X) (ys : List X) → (xs ++ x ∷ []) ++ ys ≡ xs ++ x ∷ ys
pushed xs x ys = append_assoc xs (x ∷ []) ys

whole-from : {Row : Type 0} (spells : List ℕ → Row → Type 0) (row_of : List ℕ → Option Row) (name : Row → List ℕ) (reads : ReadsLines spells row_of) (lines : List (List ℕ)) (before rows : List Row) → AllZip spells lines rows → NamesDiffer name (before ++ rows) → rows_in row_of name before (lines ++ [] ∷ []) ≡ Ok (before ++ rows)
whole-from spells row_of name reads [] before [] each differ = ap Ok (sym (append-nil before))
whole-from spells row_of name reads [] before (row ∷ rows) each differ = absurd each
whole-from spells row_of name reads (line ∷ lines) before [] each differ = absurd each
whole-from {Row} spells row_of name reads (line ∷ lines) before (row ∷ rows) each differ =
    let more = one-more row_of name before line (lines ++ [] ∷ []) row (not-empty lines [] []) (reads.spelled line row each.0) (new-name name before row rows differ) in
    let same : (before ++ row ∷ []) ++ rows ≡ before ++ row ∷ rows = pushed before row rows in
    let rest = whole-from spells row_of name reads lines (before ++ row ∷ []) rows each.1 (subst (λ (l : List Row). NamesDiffer name l) (sym same) differ) in
    more ∙ rest ∙ ap Ok same

-- lines that spell rows of different names are read as these
pub rows_in-whole : {Row : Type 0} (spells : List ℕ → Row → Type 0) (row_of : List ℕ → Option Row) (name : Row → List ℕ) (reads : ReadsLines spells row_of) (bytes : List ℕ) (rows : List Row) → Lines spells bytes rows → NamesDiffer name rows → rows_in row_of name [] (lines_of bytes) ≡ Ok rows
rows_in-whole spells row_of name reads bytes rows lines differ =
    ap (rows_in row_of name []) lines.ended ∙ whole-from spells row_of name reads lines.lines [] rows lines.each differ

-- a line that is bad behind these rows
stops : {Row : Type 0} (spells : List ℕ → Row → Type 0) (row_of : List ℕ → Option Row) (name : Row → List ℕ) (reads : ReadsLines spells row_of) (before : List Row) (line : List ℕ) (later : List (List ℕ)) → (later ≡ [] → line ≢ []) → (later ≢ [] → (row : Row) → spells line row → Any (λ other. name other ≡ name row) before) → rows_in row_of name before (line ∷ later) ≡ Err (length before + 1)
stops spells row_of name reads before line [] there bad =
    let some : same_text line [] ≡ false = not_same line [] (there refl) in
    rw some refl
stops spells row_of name reads before line (next ∷ later) there bad = choose (row_of line) refl where
  choose : (found : Option _) → row_of line ≡ found → option_map_or (λ row. if is_listed name before (name row) then Err (length before + 1) else rows_in row_of name (before ++ row ∷ []) (next ∷ later)) found (Err (length before + 1)) ≡ Err (length before + 1)
  choose None read = refl
  choose (Some row) read =
      let twice : is_listed name before (name row) ≡ true = listed-found name before (name row) (bad (λ none. cc) row (reads.read line row read)) in
      rw twice refl

bad-from : {Row : Type 0} (spells : List ℕ → Row → Type 0) (row_of : List ℕ → Option Row) (name : Row → List ℕ) (reads : ReadsLines spells row_of) (earlier : List (List ℕ)) (before rows : List Row) (line : List ℕ) (later : List (List ℕ)) → AllZip spells earlier rows → NamesDiffer name (before ++ rows) → (later ≡ [] → line ≢ []) → (later ≢ [] → (row : Row) → spells line row → Any (λ other. name other ≡ name row) (before ++ rows)) → rows_in row_of name before (earlier ++ line ∷ later) ≡ Err (length before + length earlier + 1)
bad-from {Row} spells row_of name reads [] before [] line later each differ there bad =
    let same : before ++ [] ≡ before = append-nil before in
    stops spells row_of name reads before line later there (λ more row spelled. subst (λ (l : List Row). Any (λ other. name other ≡ name row) l) same (bad more row spelled)) ∙ ap Err (omega arith)
bad-from spells row_of name reads [] before (row ∷ rows) line later each differ there bad = absurd each
bad-from spells row_of name reads (first ∷ earlier) before [] line later each differ there bad = absurd each
bad-from {Row} spells row_of name reads (first ∷ earlier) before (row ∷ rows) line later each differ there bad =
    let more = one-more row_of name before first (earlier ++ line ∷ later) row (not-empty earlier line later) (reads.spelled first row each.0) (new-name name before row rows differ) in
    let same : (before ++ row ∷ []) ++ rows ≡ before ++ row ∷ rows = pushed before row rows in
    let rest = bad-from spells row_of name reads earlier (before ++ row ∷ []) rows line later each.1 (subst (λ (l : List Row). NamesDiffer name l) (sym same) differ) there (λ m r spelled. subst (λ (l : List Row). Any (λ other. name other ≡ name r) l) (sym same) (bad m r spelled)) in
    more ∙ rest ∙ ap Err (omega (arith, length-append before (row ∷ [])))

-- the first bad line of bytes is found
pub rows_in-bad : {Row : Type 0} (spells : List ℕ → Row → Type 0) (row_of : List ℕ → Option Row) (name : Row → List ℕ) (reads : ReadsLines spells row_of) (bytes : List ℕ) (number : ℕ) → IsFirstBad spells name bytes number → rows_in row_of name [] (lines_of bytes) ≡ Err number
rows_in-bad spells row_of name reads bytes number bad =
    ap (rows_in row_of name []) bad.cut
    ∙ bad-from spells row_of name reads bad.earlier [] bad.rows bad.line bad.later bad.each bad.differ bad.there bad.bad
    ∙ ap Err (omega (arith, bad.counted))
