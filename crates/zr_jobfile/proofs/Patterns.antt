use Rattle.std.proofs.Common.{◌≡◌, ◌≢◌, ◌∙◌, ℕ, ◌<◌, ◌-◌, Bool, true, false, List, [], ◌∷◌, ◌++◌, Option, Some, None, Err, refl, sym, subst, ap, arith, length, length-append, slice_index, append-nil}
use Rattle.std.proofs.Math.Seq.{get_or-append_seam}
use Rattle.std.proofs.lemmas.List.{append_cancel_right}
use Rattle.zr_names.specs.Names.{IsName, path_is_bad, Reads}
use Rattle.zr_names.specs.declared.names.TheConstants.{PATH_LIMIT}
use Rattle.zr_names.specs.declared.reading.NameFault.{NameFault}
use Rattle.zr_names.specs.declared.reading.NameFault.TheVariants.{Empty, BadByte, TooLong, NoMemory}
use Rattle.zr_filter.specs.declared.entry.FilterEntry.{FilterEntry}
use Rattle.zr_filter.specs.Patterns.{ends_in_mark, IsWritten, mark, ReadsPattern, stem}
use Rattle.zr_filter.proofs.Stems.{stem-mark}
use Rattle.zr_jobfile.specs.SnapFile.{IsPattern}

mark_is_bad : (front : List ℕ) → path_is_bad (front ++ 60 ∷ []) (length front) ≡ true
mark_is_bad front =
    let e : slice_index (front ++ 60 ∷ []) (length front) ≡ 60 = get_or-append_seam front 60 [] 0 in
    rw e

-- no path ends in `<`
no_mark : (text front : List ℕ) → text ≡ front ++ 60 ∷ [] → ¬ IsName path_is_bad PATH_LIMIT text
no_mark text front e name =
    let inside : length front < length (front ++ 60 ∷ []) = omega (arith, length-append front (60 ∷ [])) in
    let whole = subst (IsName path_is_bad PATH_LIMIT) e name in
    let good = whole.no_place_bad (length front) inside in
    let bad = mark_is_bad front in
    cc

-- a text with a `<` at its end ends in the mark
marked : (front : List ℕ) → ends_in_mark (front ++ 60 ∷ []) ≡ true
marked front =
    let last : length (front ++ 60 ∷ []) - 1 ≡ length front = omega (arith, length-append front (60 ∷ [])) in
    let e : slice_index (front ++ 60 ∷ []) (length front) ≡ 60 = get_or-append_seam front 60 [] 0 in
    rw last (rw e refl)

wrong-mark : true ≡ false → ⊥
wrong-mark e = cc

-- the path of a written entry is the text without its mark
stem-is : (text path : List ℕ) (subtree ends : Bool) → ends_in_mark text ≡ ends → text ≡ path ++ mark subtree → text ≡ stem text ++ mark ends → IsName path_is_bad PATH_LIMIT path → stem text ≡ path
stem-is text path true true ends written parted name = append_cancel_right (stem text) path (60 ∷ []) (sym parted ∙ written)
stem-is text path false false ends written parted name =
    sym (append-nil (stem text)) ∙ sym parted ∙ written ∙ append-nil path
stem-is text path false true ends written parted name =
    absurd (no_mark path (stem text) (sym (append-nil path) ∙ sym written ∙ parted) name)
stem-is text path true false ends written parted name =
    absurd (wrong-mark (sym (ap ends_in_mark written ∙ marked path) ∙ ends))

-- what is a path is not refused as one
not-refused : (text : List ℕ) (fault : NameFault) → IsName path_is_bad PATH_LIMIT text → fault ≢ NoMemory → ¬ Reads path_is_bad PATH_LIMIT text (Err fault)
not-refused text Empty name other refused =
    let empty : length text ≡ 0 = ap length refused in
    omega (arith, empty, name.not_empty)
not-refused text (TooLong n) name other refused = omega (arith, refused.0, refused.1, name.not_long)
not-refused text (BadByte place) name other refused =
    let bad = refused.2.bad in
    let good = name.no_place_bad place refused.2.inside in
    cc
not-refused text NoMemory name other refused = other refl

-- a text that is refused as a pattern is that of no entry
pub no-entry : (text : List ℕ) (fault : NameFault) → fault ≢ NoMemory → ReadsPattern text true (Err fault) → (entry : FilterEntry) → ¬ IsPattern text entry
no-entry text fault other refused entry is = choose entry.path is.0 where
  choose : (path : Option (List ℕ)) → IsWritten text path entry.subtree → ⊥
  choose None written = refused.0 written.1
  choose (Some path) written =
      let same = stem-is text path entry.subtree (ends_in_mark text) refl written.1 (stem-mark text) written.0 in
      let Refused : List ℕ → Type 0 = λ t. Reads path_is_bad PATH_LIMIT t (Err fault) in
      not-refused path fault written.0 other (subst Refused same refused.1)
