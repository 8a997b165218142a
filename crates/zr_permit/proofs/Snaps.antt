-- The snapshots of a listing, one row more at a time, and those of them that go.
use Rattle.std.proofs.Common.{◌≡◌, ◌∙◌, ℕ, ◌+◌, ◌<◌, true, false, List, [], ◌∷◌, ◌++◌, Option, Some, Bool, ap, append_assoc, arith, drop, get_or, length, length-append, map, refl, sym, take, take-append-drop}
use Rattle.std.specs.Bool.{if◌then◌else◌}
use Rattle.std.specs.List.{filter, slice_get}
use Rattle.std.proofs.Math.Seq.{get_or-append_seam}
use Rattle.std.proofs.lemmas.List.{drop_more, take_more}
use Rattle.std.proofs.lemmas.Option.{slice_get-get_or, slice_get_within}
use Rattle.zr_command.specs.Kinds.{is_snap}
use Rattle.zr_command.specs.declared.version.VersionRow.{VersionRow}
use Rattle.zr_rules.specs.declared.rule.RuleRow.{RuleRow}
use Rattle.zr_rules.specs.declared.rule.RuleSpec.{RuleSpec}
use Rattle.zr_rules.specs.Keeps.{retained}
use Rattle.zr_permit.specs.Keep.{going_from, gone, rule_row, snaps_of}

snaps-append : (xs ys : List VersionRow) → snaps_of (xs ++ ys) ≡ snaps_of xs ++ snaps_of ys
snaps-append [] ys = refl
snaps-append (x ∷ xs) ys = choose (is_snap x) (snaps-append xs ys) where
  choose : (b : Bool) → snaps_of (xs ++ ys) ≡ snaps_of xs ++ snaps_of ys → map rule_row (if b then x ∷ filter is_snap (xs ++ ys) else filter is_snap (xs ++ ys)) ≡ map rule_row (if b then x ∷ filter is_snap xs else filter is_snap xs) ++ snaps_of ys
  choose true rest = ap (λ s. rule_row x ∷ s) rest
  choose false rest = rest

one-snap : (row : VersionRow) (later : List VersionRow) → is_snap row ≡ true → snaps_of (row ∷ later) ≡ rule_row row ∷ snaps_of later
one-snap row later snap = rw snap

one-mark : (row : VersionRow) (later : List VersionRow) → is_snap row ≡ false → snaps_of (row ∷ later) ≡ snaps_of later
one-mark row later mark = rw mark

-- a snapshot more, or another row
pub snaps-more : (rows : List VersionRow) (row : VersionRow) → is_snap row ≡ true → snaps_of (rows ++ row ∷ []) ≡ snaps_of rows ++ rule_row row ∷ []
snaps-more rows row snap = snaps-append rows (row ∷ []) ∙ ap (λ s. snaps_of rows ++ s) (one-snap row [] snap)

append-none : (xs : List RuleRow) → xs ++ [] ≡ xs
append-none [] = refl
append-none (x ∷ xs) = ap (λ r. x ∷ r) (append-none xs)

pub snaps-same : (rows : List VersionRow) (row : VersionRow) → is_snap row ≡ false → snaps_of (rows ++ row ∷ []) ≡ snaps_of rows
snaps-same rows row mark =
    snaps-append rows (row ∷ []) ∙ ap (λ s. snaps_of rows ++ s) (one-mark row [] mark) ∙ append-none (snaps_of rows)

-- a row of a list, with those before it and those behind it
record Row (rows : List VersionRow) (i : ℕ) (row : VersionRow) : Type 0 where
  grown : take (i + 1) rows ≡ take i rows ++ row ∷ []
  left : drop i rows ≡ row ∷ drop (i + 1) rows

row-of : (rows : List VersionRow) (i : ℕ) (row : VersionRow) → i < length rows → row ≡ get_or rows i row → Row rows i row
row-of rows i row inside is = record {
  grown = take_more rows i row inside ∙ ap (λ r. take i rows ++ r ∷ []) (sym is);
  left = drop_more rows i row inside ∙ ap (λ r. r ∷ drop (i + 1) rows) (sym is);
}

seam : (xs : List RuleRow) (y : RuleRow) (ys : List RuleRow) → slice_get (xs ++ y ∷ ys) (length xs) ≡ Some y
seam xs y ys =
    slice_get-get_or (xs ++ y ∷ ys) (length xs) y (omega (arith, length-append xs (y ∷ ys))) ∙ ap Some (get_or-append_seam xs y ys y)

-- the place of a snapshot among those of a listing is the number of those before it
pub at-place : (rows : List VersionRow) (i : ℕ) (row : VersionRow) → i < length rows → row ≡ get_or rows i row → is_snap row ≡ true → slice_get (snaps_of rows) (length (snaps_of (take i rows))) ≡ Some (rule_row row)
at-place rows i row inside is snap =
    let at = row-of rows i row inside is in
    let parts : rows ≡ take i rows ++ row ∷ drop (i + 1) rows = sym (take-append-drop i rows) ∙ ap (λ r. take i rows ++ r) at.left in
    let snaps : snaps_of rows ≡ snaps_of (take i rows) ++ rule_row row ∷ snaps_of (drop (i + 1) rows) =
    ap snaps_of parts ∙ snaps-append (take i rows) (row ∷ drop (i + 1) rows) ∙ ap (λ s. snaps_of (take i rows) ++ s) (one-snap row (drop (i + 1) rows) snap) in
    ap (λ s. slice_get s (length (snaps_of (take i rows)))) snaps ∙ seam (snaps_of (take i rows)) (rule_row row) (snaps_of (drop (i + 1) rows))

pub inside : (rows : List VersionRow) (i : ℕ) (row : VersionRow) → i < length rows → row ≡ get_or rows i row → is_snap row ≡ true → length (snaps_of (take i rows)) < length (snaps_of rows)
inside rows i row within is snap =
    slice_get_within (snaps_of rows) (length (snaps_of (take i rows))) (rule_row row) (at-place rows i row within is snap)

pub place-more : (rows : List VersionRow) (i place : ℕ) (row : VersionRow) → i < length rows → row ≡ get_or rows i row → is_snap row ≡ true → place ≡ length (snaps_of (take i rows)) → place + 1 ≡ length (snaps_of (take (i + 1) rows))
place-more rows i place row within is snap place_is =
    let at = row-of rows i row within is in
    let grown = ap (λ r. length (snaps_of r)) at.grown ∙ ap length (snaps-more (take i rows) row snap) ∙ length-append (snaps_of (take i rows)) (rule_row row ∷ []) in
    omega (arith, grown, place_is)

pub place-same : (rows : List VersionRow) (i place : ℕ) (row : VersionRow) → i < length rows → row ≡ get_or rows i row → is_snap row ≡ false → place ≡ length (snaps_of (take i rows)) → place ≡ length (snaps_of (take (i + 1) rows))
place-same rows i place row within is mark place_is =
    let at = row-of rows i row within is in
    place_is ∙ sym (ap (λ r. length (snaps_of r)) at.grown ∙ ap length (snaps-same (take i rows) row mark))

going-snap : (rules : List RuleSpec) (snaps : List RuleRow) (cursor : Option ℕ) (place : ℕ) (row : VersionRow) (later : List VersionRow) → is_snap row ≡ true → going_from rules snaps cursor place (row ∷ later) ≡ gone (retained rules snaps cursor place (rule_row row)) row ++ going_from rules snaps cursor (place + 1) later
going-snap rules snaps cursor place row later snap = rw snap

going-mark : (rules : List RuleSpec) (snaps : List RuleRow) (cursor : Option ℕ) (place : ℕ) (row : VersionRow) (later : List VersionRow) → is_snap row ≡ false → going_from rules snaps cursor place (row ∷ later) ≡ going_from rules snaps cursor place later
going-mark rules snaps cursor place row later mark = rw mark

-- the names so far and those that are left, one snapshot on, or one other row
pub names-more : (rules : List RuleSpec) (snaps : List RuleRow) (cursor : Option ℕ) (rows : List VersionRow) (i place : ℕ) (row : VersionRow) (kept : Bool) (old new all : List (List ℕ)) → i < length rows → row ≡ get_or rows i row → is_snap row ≡ true → kept ≡ retained rules snaps cursor place (rule_row row) → new ≡ old ++ gone kept row → old ++ going_from rules snaps cursor place (drop i rows) ≡ all → new ++ going_from rules snaps cursor (place + 1) (drop (i + 1) rows) ≡ all
names-more rules snaps cursor rows i place row kept old new all within is snap kept_is new_is so_far =
    let at = row-of rows i row within is in
    let later = going_from rules snaps cursor (place + 1) (drop (i + 1) rows) in
    let next = ap (going_from rules snaps cursor place) at.left ∙ going-snap rules snaps cursor place row (drop (i + 1) rows) snap ∙ ap (λ b. gone b row ++ later) (sym kept_is) in
    ap (λ n. n ++ later) new_is ∙ append_assoc old (gone kept row) later ∙ ap (λ n. old ++ n) (sym next) ∙ so_far

pub names-same : (rules : List RuleSpec) (snaps : List RuleRow) (cursor : Option ℕ) (rows : List VersionRow) (i place : ℕ) (row : VersionRow) (old all : List (List ℕ)) → i < length rows → row ≡ get_or rows i row → is_snap row ≡ false → old ++ going_from rules snaps cursor place (drop i rows) ≡ all → old ++ going_from rules snaps cursor place (drop (i + 1) rows) ≡ all
names-same rules snaps cursor rows i place row old all within is mark so_far =
    let at = row-of rows i row within is in
    let next = ap (going_from rules snaps cursor place) at.left ∙ going-mark rules snaps cursor place row (drop (i + 1) rows) mark in
    ap (λ n. old ++ n) (sym next) ∙ so_far
