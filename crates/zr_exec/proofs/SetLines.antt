use Rattle.std.proofs.Common.{◌≡◌, ◌&&◌, ◌||◌, ℕ, ◌<◌, Bool, true, false, not, List, [], ◌∷◌, Option, Some, None, length, refl, arith, ap, ◌∙◌, sym, subst}
use Rattle.std.specs.Prelude.{codes, if◌then◌else◌}
use Rattle.zr_names.specs.Names.{IsName, path_is_bad, token_is_bad}
use Rattle.zr_names.specs.declared.names.TheConstants.{PATH_LIMIT, TOKEN_LIMIT}
use Rattle.zr_listing.specs.Columns.{columns, IsSetLine, IsToken}
use Rattle.zr_command.specs.declared.version.SetRow.{SetRow}
use Rattle.zr_exec.specs.Columns.{is_name, is_token_column, set_of, set_row_of, token_in}
use Rattle.zr_command.specs.Names.{same_text}
use Rattle.zr_exec.proofs.Names.{and-both, IsName-from, is_name-passes, nonempty, not-true, not_same, same_itself, same_once}

pub if-some : {X : Type 0} (b : Bool) (x y : X) → (if b then Some x else None) ≡ Some y → (b ≡ true) × (x ≡ y)
if-some true x y e = (refl, cc)
if-some false x y e = cc

-- `-` is no token
dash-no-token : IsName token_is_bad TOKEN_LIMIT (codes "-") → ⊥
dash-no-token name = let bad = name.no_place_bad 0 (omega arith) in cc

token-read : (column : List ℕ) (token : Option (List ℕ)) → IsToken column token → (is_token_column column ≡ true) × (token_in column ≡ token)
token-read column None is =
    let dash : same_text column (codes "-") ≡ true = rw is (same_itself (codes "-")) in
    (rw dash refl, rw dash refl)
token-read column (Some token) is =
    let other : same_text column (codes "-") ≡ false = not_same column (codes "-") (λ dash. dash-no-token (subst (IsName token_is_bad TOKEN_LIMIT) (sym is.0 ∙ dash) is.1)) in
    let named : is_name token_is_bad TOKEN_LIMIT column ≡ true = is_name-passes token_is_bad TOKEN_LIMIT column (subst (IsName token_is_bad TOKEN_LIMIT) (sym is.0) is.1) in
    (rw (other, named) refl, rw other (ap Some is.0))

token-sound : (column : List ℕ) → is_token_column column ≡ true → IsToken column (token_in column)
token-sound column passes = choose (same_text column (codes "-")) refl passes where
  choose : (b : Bool) → same_text column (codes "-") ≡ b → (b || is_name token_is_bad TOKEN_LIMIT column) ≡ true → IsToken column (if b then None else Some column)
  choose true dash passes = same_once column (codes "-") dash
  choose false dash passes = (refl, IsName-from token_is_bad TOKEN_LIMIT column passes)

pub filled : (text : List ℕ) → 0 < length text → same_text text [] ≡ false
filled [] some = absurd (omega arith)
filled (b ∷ bs) some = refl

set-row : List ℕ → Bool → Option (List ℕ) → SetRow
set-row path flag token = record { path = path; placeholder = flag; token = token }

-- the line that spells a row is read as it
pub set_row_of-spelled : (line : List ℕ) (row : SetRow) → IsSetLine line row → set_row_of line ≡ Some row
unfolding set-row
set_row_of-spelled line row is =
    let token = token-read is.token row.token is.is_token in
    let name : is_name path_is_bad PATH_LIMIT is.path ≡ true = is_name-passes path_is_bad PATH_LIMIT is.path (subst (IsName path_is_bad PATH_LIMIT) (sym is.is_path.0) is.is_path.1) in
    let flag : same_text is.flag [] ≡ false = filled is.flag is.not_empty in
    let same : set-row is.path (same_text is.flag (codes "on")) (token_in is.token) ≡ row =
    ap (λ x. set-row x (same_text is.flag (codes "on")) (token_in is.token)) is.is_path.0
    ∙ ap (λ x. set-row row.path x (token_in is.token)) (sym is.placeholder)
    ∙ ap (λ x. set-row row.path row.placeholder x) token.1 in
    ap set_of is.spelled ∙ rw (name, flag, token.0) (ap Some same)

set-sound : (line : List ℕ) (parts : List (List ℕ)) (row : SetRow) → columns line ≡ parts → set_of parts ≡ Some row → IsSetLine line row
set-sound line [] row e read = cc
set-sound line (a ∷ []) row e read = cc
set-sound line (a ∷ b ∷ []) row e read = cc
set-sound line (path ∷ flag ∷ token ∷ []) row e read =
    let found = if-some (is_name path_is_bad PATH_LIMIT path && not (same_text flag []) && is_token_column token) (record { path = path; placeholder = same_text flag (codes "on"); token = token_in token }) row read in
    let outer = and-both (is_name path_is_bad PATH_LIMIT path && not (same_text flag [])) (is_token_column token) found.0 in
    let inner = and-both (is_name path_is_bad PATH_LIMIT path) (not (same_text flag [])) outer.0 in
    subst (IsSetLine line) found.1 (record {
      path = path;
      flag = flag;
      token = token;
      spelled = e;
      is_path = (refl, IsName-from path_is_bad PATH_LIMIT path inner.0);
      not_empty = nonempty flag (not-true (same_text flag []) inner.1);
      placeholder = refl;
      is_token = token-sound token outer.1;
    })
set-sound line (a ∷ b ∷ c ∷ d ∷ more) row e read = cc

-- a line that is read as a row spells it
pub IsSetLine-read : (line : List ℕ) (row : SetRow) → set_row_of line ≡ Some row → IsSetLine line row
IsSetLine-read line row read = set-sound line (columns line) row refl read
