use Rattle.std.proofs.Common.{◌≡◌, ◌==◌, ◌&&◌, ℕ, Bool, true, false, List, [], ◌∷◌, ◌++◌, Option, Some, None, drop, length, take, refl, arith, ap, ◌∙◌, sym, subst}
use Rattle.std.specs.Prelude.{codes, if◌then◌else◌}
use Rattle.std.proofs.Math.Seq.{drop-append_seam, take-append_seam}
use Rattle.std.proofs.lemmas.Bool.Decides.{nat_tests}
use Rattle.std.proofs.lemmas.List.{take-append-drop}
use Rattle.zr_names.specs.Names.{IsName, name_is_bad}
use Rattle.zr_names.specs.declared.names.TheConstants.{NAME_LIMIT}
use Rattle.zr_listing.specs.Columns.{columns, IsRefs, IsSuffix, IsVersionLine, IsVersionName}
use Rattle.zr_command.specs.declared.version.VersionName.{VersionName}
use Rattle.zr_command.specs.declared.version.VersionName.TheVariants.{Snap, Mark}
use Rattle.zr_command.specs.declared.version.VersionRow.{VersionRow}
use Rattle.zr_exec.specs.Columns.{is_name, is_number, is_refs, name_behind, name_in, number_in, refs_in, version_named, version_of, version_row_of}
use Rattle.zr_command.specs.Names.{same_text}
use Rattle.zr_exec.proofs.Names.{and-both, IsName-from, is_name-passes, IsNumber-from, number-read, same_itself, same_once}
use Rattle.zr_exec.proofs.SetLines.{if-some}

behind-read : (text : List ℕ) (name : VersionName) → IsSuffix text name → name_behind text ≡ Some name
behind-read text (Snap name) is =
    let passes : is_name name_is_bad NAME_LIMIT name ≡ true = is_name-passes name_is_bad NAME_LIMIT name is.1 in
    ap name_behind is.0 ∙ rw passes refl
behind-read text (Mark name) is =
    let passes : is_name name_is_bad NAME_LIMIT name ≡ true = is_name-passes name_is_bad NAME_LIMIT name is.1 in
    ap name_behind is.0 ∙ rw passes refl

name-read : (path column : List ℕ) (name : VersionName) → IsVersionName path column name → name_in path column ≡ Some name
name-read path column name is =
    let front : take (length path) column ≡ path = ap (take (length path)) is.full ∙ take-append_seam path is.suffix in
    let back : drop (length path) column ≡ is.suffix = ap (drop (length path)) is.full ∙ drop-append_seam path is.suffix in
    let same : same_text (take (length path) column) path ≡ true = rw front (same_itself path) in
    rw same (ap name_behind back ∙ behind-read is.suffix name is.is_suffix)

kind-sound : (kind : ℕ) (name : List ℕ) (other : VersionName) (b c : Bool) → (b ≡ true → kind ≡ 64) → (c ≡ true → kind ≡ 35) → IsName name_is_bad NAME_LIMIT name → (if b then Some (Snap name) else (if c then Some (Mark name) else None)) ≡ Some other → IsSuffix (kind ∷ name) other
kind-sound kind name other true c one two named e =
    let first : kind ≡ 64 = one refl in
    let same : Snap name ≡ other = cc in
    subst (IsSuffix (kind ∷ name)) same (ap (λ k. k ∷ name) first, named)
kind-sound kind name other false true one two named e =
    let first : kind ≡ 35 = two refl in
    let same : Mark name ≡ other = cc in
    subst (IsSuffix (kind ∷ name)) same (ap (λ k. k ∷ name) first, named)
kind-sound kind name other false false one two named e = cc

if-option : {X : Type 0} (b : Bool) (o : Option X) (y : X) → (if b then o else None) ≡ Some y → (b ≡ true) × (o ≡ Some y)
if-option true o y e = (refl, e)
if-option false o y e = cc

behind-sound : (text : List ℕ) (name : VersionName) → name_behind text ≡ Some name → IsSuffix text name
behind-sound [] name read = cc
behind-sound (kind ∷ text) name read =
    let found = if-option (is_name name_is_bad NAME_LIMIT text) (if kind == 64 then Some (Snap text) else (if kind == 35 then Some (Mark text) else None)) name read in
    kind-sound kind text name (kind == 64) (kind == 35) (λ h. grind (arith, nat_tests)) (λ h. grind (arith, nat_tests)) (IsName-from name_is_bad NAME_LIMIT text found.0) found.1

name-sound : (path column : List ℕ) (name : VersionName) → name_in path column ≡ Some name → IsVersionName path column name
name-sound path column name read =
    let found = if-option (same_text (take (length path) column) path) (name_behind (drop (length path) column)) name read in
    let front = same_once (take (length path) column) path found.0 in
    record {
      suffix = drop (length path) column;
      full = sym (take-append-drop (length path) column) ∙ ap (λ xs. xs ++ drop (length path) column) front;
      is_suffix = behind-sound (drop (length path) column) name found.1;
    }

refs-read : (name : VersionName) (column : List ℕ) (refs : ℕ) → IsRefs name column refs → (is_refs name column ≡ true) × (refs_in name column ≡ refs)
refs-read (Snap name) column refs is = number-read column refs is
refs-read (Mark name) column refs is = (rw is.0 (same_itself (codes "-")), sym is.1)

refs-sound : (name : VersionName) (column : List ℕ) → is_refs name column ≡ true → IsRefs name column (refs_in name column)
refs-sound (Snap name) column passes = IsNumber-from column passes
refs-sound (Mark name) column passes = (same_once column (codes "-") passes, refl)

version-row : VersionName → ℕ → ℕ → ℕ → ℕ → VersionRow
version-row name guid txg creation refs = record { name = name; guid = record { 0 = guid }; txg = txg; creation = creation; refs = refs }

-- the line that spells a row is read as it
pub version_row_of-spelled : (path line : List ℕ) (row : VersionRow) → IsVersionLine path line row → version_row_of path line ≡ Some row
unfolding version-row
version_row_of-spelled path line row is =
    let guid = number-read is.guid row.guid.0 is.is_guid in
    let txg = number-read is.txg row.txg is.is_txg in
    let creation = number-read is.creation row.creation is.is_creation in
    let refs = refs-read row.name is.refs row.refs is.is_refs in
    let same : version-row row.name (number_in is.guid) (number_in is.txg) (number_in is.creation) (refs_in row.name is.refs) ≡ row =
    ap (λ x. version-row row.name x (number_in is.txg) (number_in is.creation) (refs_in row.name is.refs)) guid.1
    ∙ ap (λ x. version-row row.name row.guid.0 x (number_in is.creation) (refs_in row.name is.refs)) txg.1
    ∙ ap (λ x. version-row row.name row.guid.0 row.txg x (refs_in row.name is.refs)) creation.1
    ∙ ap (λ x. version-row row.name row.guid.0 row.txg row.creation x) refs.1 in
    ap (version_of path) is.spelled
    ∙ ap (λ n. version_named n is.guid is.txg is.creation is.refs) (name-read path is.name row.name is.is_name)
    ∙ rw (guid.0, txg.0, creation.0, refs.0) (ap Some same)

named-sound : (path line name guid txg creation refs : List ℕ) (found : Option VersionName) (row : VersionRow) → columns line ≡ name ∷ guid ∷ txg ∷ creation ∷ refs ∷ [] → name_in path name ≡ found → version_named found guid txg creation refs ≡ Some row → IsVersionLine path line row
unfolding version-row
named-sound path line name guid txg creation refs None row e named read = cc
named-sound path line name guid txg creation refs (Some n) row e named read =
    let all = if-some (is_number guid && is_number txg && is_number creation && is_refs n refs) (version-row n (number_in guid) (number_in txg) (number_in creation) (refs_in n refs)) row read in
    let three = and-both (is_number guid && is_number txg && is_number creation) (is_refs n refs) all.0 in
    let two = and-both (is_number guid && is_number txg) (is_number creation) three.0 in
    let one = and-both (is_number guid) (is_number txg) two.0 in
    subst (IsVersionLine path line) all.1 (record {
      name = name;
      guid = guid;
      txg = txg;
      creation = creation;
      refs = refs;
      spelled = e;
      is_name = name-sound path name n named;
      is_guid = IsNumber-from guid one.0;
      is_txg = IsNumber-from txg one.1;
      is_creation = IsNumber-from creation two.1;
      is_refs = refs-sound n refs three.1;
    })

version-sound : (path line : List ℕ) (parts : List (List ℕ)) (row : VersionRow) → columns line ≡ parts → version_of path parts ≡ Some row → IsVersionLine path line row
version-sound path line [] row e read = cc
version-sound path line (a ∷ []) row e read = cc
version-sound path line (a ∷ b ∷ []) row e read = cc
version-sound path line (a ∷ b ∷ c ∷ []) row e read = cc
version-sound path line (a ∷ b ∷ c ∷ d ∷ []) row e read = cc
version-sound path line (name ∷ guid ∷ txg ∷ creation ∷ refs ∷ []) row e read =
    named-sound path line name guid txg creation refs (name_in path name) row e refl read
version-sound path line (a ∷ b ∷ c ∷ d ∷ f ∷ g ∷ more) row e read = cc

-- a line that is read as a row spells it
pub IsVersionLine-read : (path line : List ℕ) (row : VersionRow) → version_row_of path line ≡ Some row → IsVersionLine path line row
IsVersionLine-read path line row read = version-sound path line (columns line) row refl read
