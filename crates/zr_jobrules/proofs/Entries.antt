-- What is not read as a line of a filter is none.
use Rattle.std.proofs.Common.{◌≡◌, ◌≢◌, ◌∙◌, ℕ, ◌<◌, ◌-◌, Bool, true, false, List, [], ◌∷◌, ◌++◌, Option, Some, None, Err, refl, sym, subst, ap, arith, length, length-append, slice_index, append-nil}
use Rattle.std.proofs.Math.Seq.{get_or-append_seam}
use Rattle.std.proofs.lemmas.List.{append_cancel_right}
use Rattle.zr_names.specs.Names.{IsName, path_is_bad, Reads}
use Rattle.zr_names.specs.Tree.{Tree}
use Rattle.zr_names.specs.declared.names.TheConstants.{PATH_LIMIT}
use Rattle.zr_names.specs.declared.reading.NameFault.{NameFault}
use Rattle.zr_names.specs.declared.reading.NameFault.TheVariants.{NoMemory}
use Rattle.zr_filter.specs.declared.entry.FilterEntry.{FilterEntry}
use Rattle.zr_filter.specs.Patterns.{ends_in_mark, IsWritten, mark, ReadsPattern, stem}
use Rattle.zr_filter.proofs.Stems.{stem-mark}
use Rattle.zr_jobwalk.specs.Values.{flag_in}
use Rattle.zr_jobwalk.proofs.NoTexts.{no_name}
use Rattle.zr_jobrules.specs.Filesystems.{IsEntry}

mark_is_bad : (front : List ℕ) → path_is_bad (front ++ 60 ∷ []) (length front) ≡ true
mark_is_bad front =
    let e : slice_index (front ++ 60 ∷ []) (length front) ≡ 60 = get_or-append_seam front 60 [] 0 in
    rw e

-- no path ends in `<`
no_mark : (text front : List ℕ) → text ≡ front ++ 60 ∷ [] → ¬ IsName path_is_bad PATH_LIMIT text
no_mark text front e name =
    let inside : length front < length (front ++ 60 ∷ []) = omega (arith, length-append front (60 ∷ [])) in
    let whole = subst (IsName path_is_bad PATH_LIMIT) e name in
    let good = whole.no_place_bad (length front) inside in
    let bad = mark_is_bad front in
    cc

-- a text with a `<` at its end ends in the mark
marked : (front : List ℕ) → ends_in_mark (front ++ 60 ∷ []) ≡ true
marked front =
    let last : length (front ++ 60 ∷ []) - 1 ≡ length front = omega (arith, length-append front (60 ∷ [])) in
    let e : slice_index (front ++ 60 ∷ []) (length front) ≡ 60 = get_or-append_seam front 60 [] 0 in
    rw last (rw e refl)

wrong_mark : true ≡ false → ⊥
wrong_mark e = cc

-- the path of a written entry is the text without its mark
stem_is : (text path : List ℕ) (subtree ends : Bool) → ends_in_mark text ≡ ends → text ≡ path ++ mark subtree → text ≡ stem text ++ mark ends → IsName path_is_bad PATH_LIMIT path → stem text ≡ path
stem_is text path true true ends written parted name = append_cancel_right (stem text) path (60 ∷ []) (sym parted ∙ written)
stem_is text path false false ends written parted name =
    sym (append-nil (stem text)) ∙ sym parted ∙ written ∙ append-nil path
stem_is text path false true ends written parted name =
    absurd (no_mark path (stem text) (sym (append-nil path) ∙ sym written ∙ parted) name)
stem_is text path true false ends written parted name =
    absurd (wrong_mark (sym (ap ends_in_mark written ∙ marked path) ∙ ends))

no_path : (text : List ℕ) (allow : Bool) (fault : NameFault) → fault ≢ NoMemory → ReadsPattern text allow (Err fault) → (path : Option (List ℕ)) (subtree : Bool) → ¬ IsWritten text path subtree
no_path text allow fault other refused None subtree written = refused.0 written.1
no_path text allow fault other refused (Some path) subtree written =
    let same = stem_is text path subtree (ends_in_mark text) refl written.1 (stem-mark text) written.0 in
    let Refused : List ℕ → Type 0 = λ t. Reads path_is_bad PATH_LIMIT t (Err fault) in
    no_name path_is_bad PATH_LIMIT path fault (subst Refused same refused.1) other written.0

pub no_entry : (text : List ℕ) (tree : Tree) (allow : Bool) (fault : NameFault) → ReadsPattern text allow (Err fault) → fault ≢ NoMemory → (entry : FilterEntry) → ¬ IsEntry (text, tree) entry
no_entry text tree allow fault refused other entry is =
    no_path text allow fault other refused entry.path entry.subtree is.0

pub no_flag : (text : List ℕ) (tree : Tree) → None ≡ flag_in tree → (entry : FilterEntry) → ¬ IsEntry (text, tree) entry
no_flag text tree none entry is =
    let e : None ≡ Some entry.allow = none ∙ is.1 in
    cc
