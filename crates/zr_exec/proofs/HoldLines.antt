use Rattle.std.proofs.Common.{◌≡◌, ◌&&◌, ℕ, true, false, not, List, [], ◌∷◌, Some, refl, ap, ◌∙◌, sym, subst}
use Rattle.zr_names.specs.Names.{IsName, tag_is_bad}
use Rattle.zr_names.specs.declared.names.TheConstants.{NAME_LIMIT}
use Rattle.zr_listing.specs.Columns.{columns, full_name, IsHoldLine}
use Rattle.zr_command.specs.declared.version.VersionName.TheVariants.{Snap}
use Rattle.zr_exec.specs.Columns.{hold_in, hold_of, is_name}
use Rattle.zr_command.specs.Names.{same_text}
use Rattle.zr_exec.proofs.Names.{and-both, IsName-from, is_name-passes, nonempty, not-true, same_itself, same_once}
use Rattle.zr_exec.proofs.SetLines.{filled, if-some}

-- the line that spells a tag is read as it
pub hold_of-spelled : (path name line tag : List ℕ) → IsHoldLine path name line tag → hold_of path name line ≡ Some tag
hold_of-spelled path name line tag is =
    let full : same_text is.full (full_name path (Snap name)) ≡ true = rw is.is_full (same_itself (full_name path (Snap name))) in
    let named : is_name tag_is_bad NAME_LIMIT is.column ≡ true = is_name-passes tag_is_bad NAME_LIMIT is.column (subst (IsName tag_is_bad NAME_LIMIT) (sym is.is_tag.0) is.is_tag.1) in
    let dated : same_text is.date [] ≡ false = filled is.date is.not_empty in
    ap (hold_in path name) is.spelled ∙ rw (full, named, dated) (ap Some is.is_tag.0)

hold-sound : (path name line tag : List ℕ) (parts : List (List ℕ)) → columns line ≡ parts → hold_in path name parts ≡ Some tag → IsHoldLine path name line tag
hold-sound path name line tag [] e read = cc
hold-sound path name line tag (a ∷ []) e read = cc
hold-sound path name line tag (a ∷ b ∷ []) e read = cc
hold-sound path name line tag (full ∷ column ∷ date ∷ []) e read =
    let found = if-some (same_text full (full_name path (Snap name)) && is_name tag_is_bad NAME_LIMIT column && not (same_text date [])) column tag read in
    let outer = and-both (same_text full (full_name path (Snap name)) && is_name tag_is_bad NAME_LIMIT column) (not (same_text date [])) found.0 in
    let inner = and-both (same_text full (full_name path (Snap name))) (is_name tag_is_bad NAME_LIMIT column) outer.0 in
    let named : IsName tag_is_bad NAME_LIMIT column = IsName-from tag_is_bad NAME_LIMIT column inner.1 in
    record {
      full = full;
      column = column;
      date = date;
      spelled = e;
      is_full = same_once full (full_name path (Snap name)) inner.0;
      is_tag = (found.1, subst (IsName tag_is_bad NAME_LIMIT) found.1 named);
      not_empty = nonempty date (not-true (same_text date []) outer.1);
    }
hold-sound path name line tag (a ∷ b ∷ c ∷ d ∷ more) e read = cc

-- a line that is read as a tag spells it
pub IsHoldLine-read : (path name line tag : List ℕ) → hold_of path name line ≡ Some tag → IsHoldLine path name line tag
IsHoldLine-read path name line tag read = hold-sound path name line tag (columns line) refl read
