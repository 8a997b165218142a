use Rattle.std.proofs.Common.{◌≡◌, ℕ, Bool, List, [], ◌∷◌, ◌++◌, Option, Some, None, IfSome, IfNone, Result, Ok, Err, refl, arith, ap, ◌∙◌, sym, subst}
use Rattle.std.specs.Option.{MatchOption}
use Rattle.std.specs.Result.{IsErrAnd}
use Rattle.std.proofs.lemmas.List.{append_cancel_left}
use Rattle.std.proofs.lemmas.Fmt.{decimal_injective}
use Rattle.zr_names.specs.Names.{IsName, token_is_bad}
use Rattle.zr_names.specs.declared.names.TheConstants.{TOKEN_LIMIT}
use Rattle.zr_command.specs.declared.version.SetRow.{SetRow}
use Rattle.zr_command.specs.declared.version.VersionName.{VersionName}
use Rattle.zr_command.specs.declared.version.VersionName.TheVariants.{Snap, Mark}
use Rattle.zr_command.specs.declared.version.VersionRow.{VersionRow}
use Rattle.zr_listing.specs.Columns.{full_name, columns, IsToken, IsSetLine, IsSuffix, IsVersionName, IsNumber, IsRefs, IsVersionLine, IsHoldLine}
use Rattle.zr_listing.specs.Reading.{ReadsOr}
use Rattle.zr_listing.specs.declared.faults.LineFault.{LineFault}
use Rattle.zr_listing.specs.declared.faults.LineFault.TheVariants as fault

-- `-` is no token
dash-no-token : IsName token_is_bad TOKEN_LIMIT (45 ∷ []) → ⊥
dash-no-token name = let bad = name.no_place_bad 0 (omega arith) in cc

IsToken-one : (column : List ℕ) (a b : Option (List ℕ)) → IsToken column a → IsToken column b → a ≡ b
IsToken-one column None None p q = refl
IsToken-one column None (Some t) p q = absurd (dash-no-token (subst (IsName token_is_bad TOKEN_LIMIT) (sym q.0 ∙ p) q.1))
IsToken-one column (Some t) None p q = absurd (dash-no-token (subst (IsName token_is_bad TOKEN_LIMIT) (sym p.0 ∙ q) p.1))
IsToken-one column (Some t) (Some u) p q = ap Some (sym p.0 ∙ q.0)

-- a line spells one row of a listing of datasets at most
pub IsSetLine-one : (line : List ℕ) (a b : SetRow) → IsSetLine line a → IsSetLine line b → a ≡ b
IsSetLine-one line a b p q =
    let spelled : p.path ∷ p.flag ∷ p.token ∷ [] ≡ q.path ∷ q.flag ∷ q.token ∷ [] = sym p.spelled ∙ q.spelled in
    let path : a.path ≡ b.path = cc in
    let placeholder : a.placeholder ≡ b.placeholder = cc in
    let same : q.token ≡ p.token = cc in
    let token : a.token ≡ b.token = IsToken-one p.token a.token b.token p.is_token (subst (λ (c : List ℕ). IsToken c b.token) same q.is_token) in
    let row : List ℕ → Bool → Option (List ℕ) → SetRow = λ path flag token. record { path = path; placeholder = flag; token = token } in
    ap (λ x. row x a.placeholder a.token) path ∙ ap (λ x. row b.path x a.token) placeholder ∙ ap (λ x. row b.path b.placeholder x) token

tail-same : (x y : ℕ) (xs ys : List ℕ) → x ∷ xs ≡ y ∷ ys → xs ≡ ys
tail-same x y xs ys e = cc

head-same : (x y : ℕ) (xs ys : List ℕ) → x ∷ xs ≡ y ∷ ys → x ≡ y
head-same x y xs ys e = cc

at-no-hash : ◌≡◌ {A = ℕ} 64 35 → ⊥
at-no-hash e = omega arith

IsSuffix-one : (text : List ℕ) (a b : VersionName) → IsSuffix text a → IsSuffix text b → a ≡ b
IsSuffix-one text (Snap n) (Snap m) p q = ap Snap (tail-same 64 64 n m (sym p.0 ∙ q.0))
IsSuffix-one text (Snap n) (Mark m) p q = absurd (at-no-hash (head-same 64 35 n m (sym p.0 ∙ q.0)))
IsSuffix-one text (Mark n) (Snap m) p q = absurd (at-no-hash (sym (head-same 35 64 n m (sym p.0 ∙ q.0))))
IsSuffix-one text (Mark n) (Mark m) p q = ap Mark (tail-same 35 35 n m (sym p.0 ∙ q.0))

-- a column spells one full name at most
pub IsVersionName-one : (path column : List ℕ) (a b : VersionName) → IsVersionName path column a → IsVersionName path column b → a ≡ b
IsVersionName-one path column a b p q =
    let same : q.suffix ≡ p.suffix = append_cancel_left path q.suffix p.suffix (sym q.full ∙ p.full) in
    IsSuffix-one p.suffix a b p.is_suffix (subst (λ (s : List ℕ). IsSuffix s b) same q.is_suffix)

pub IsNumber-one : (column : List ℕ) (m n : ℕ) → IsNumber column m → IsNumber column n → m ≡ n
IsNumber-one column m n p q = decimal_injective m n p.1 q.1 (sym p.0 ∙ q.0)

IsRefs-one : (name : VersionName) (column : List ℕ) (m n : ℕ) → IsRefs name column m → IsRefs name column n → m ≡ n
IsRefs-one (Snap name) column m n p q = IsNumber-one column m n p q
IsRefs-one (Mark name) column m n p q = p.1 ∙ sym q.1

-- a line spells one row of a listing of versions at most
pub IsVersionLine-one : (path line : List ℕ) (a b : VersionRow) → IsVersionLine path line a → IsVersionLine path line b → a ≡ b
IsVersionLine-one path line a b p q =
    let spelled : p.name ∷ p.guid ∷ p.txg ∷ p.creation ∷ p.refs ∷ [] ≡ q.name ∷ q.guid ∷ q.txg ∷ q.creation ∷ q.refs ∷ [] = sym p.spelled ∙ q.spelled in
    let same_name : q.name ≡ p.name = cc in
    let same_guid : q.guid ≡ p.guid = cc in
    let same_txg : q.txg ≡ p.txg = cc in
    let same_creation : q.creation ≡ p.creation = cc in
    let same_refs : q.refs ≡ p.refs = cc in
    let name : a.name ≡ b.name = IsVersionName-one path p.name a.name b.name p.is_name (subst (λ (c : List ℕ). IsVersionName path c b.name) same_name q.is_name) in
    let guid : a.guid.0 ≡ b.guid.0 = IsNumber-one p.guid a.guid.0 b.guid.0 p.is_guid (subst (λ (c : List ℕ). IsNumber c b.guid.0) same_guid q.is_guid) in
    let txg : a.txg ≡ b.txg = IsNumber-one p.txg a.txg b.txg p.is_txg (subst (λ (c : List ℕ). IsNumber c b.txg) same_txg q.is_txg) in
    let creation : a.creation ≡ b.creation = IsNumber-one p.creation a.creation b.creation p.is_creation (subst (λ (c : List ℕ). IsNumber c b.creation) same_creation q.is_creation) in
    let is_refs : IsRefs b.name p.refs b.refs = subst (λ (c : List ℕ). IsRefs b.name c b.refs) same_refs q.is_refs in
    let refs : a.refs ≡ b.refs = IsRefs-one a.name p.refs a.refs b.refs p.is_refs (subst (λ (n : VersionName). IsRefs n p.refs b.refs) (sym name) is_refs) in
    let row : VersionName → ℕ → ℕ → ℕ → ℕ → VersionRow = λ n g t c r. record { name = n; guid = record { 0 = g }; txg = t; creation = c; refs = r } in
    ap (λ x. row x a.guid.0 a.txg a.creation a.refs) name ∙ ap (λ x. row b.name x a.txg a.creation a.refs) guid
    ∙ ap (λ x. row b.name b.guid.0 x a.creation a.refs) txg ∙ ap (λ x. row b.name b.guid.0 b.txg x a.refs) creation
    ∙ ap (λ x. row b.name b.guid.0 b.txg b.creation x) refs

-- the suffix that follows the path
pub ReadsOr-suffix : (path column suffix : List ℕ) (r : Result VersionName LineFault) → column ≡ path ++ suffix → ReadsOr (IsSuffix suffix) r → ReadsOr (IsVersionName path column) r
ReadsOr-suffix path column suffix (Ok name) full finds = record { suffix = suffix; full = full; is_suffix = finds }
ReadsOr-suffix path column suffix (Err fault.Bad) full finds = λ name is.
    let same : is.suffix ≡ suffix = append_cancel_left path is.suffix suffix (sym is.full ∙ full) in
    finds name (subst (λ (s : List ℕ). IsSuffix s name) same is.is_suffix)
ReadsOr-suffix path column suffix (Err fault.NoMemory) full finds = tt

-- without a number of holes a line is bad
pub bad-refs : (path line name guid txg creation refs : List ℕ) (n : VersionName) → columns line ≡ name ∷ guid ∷ txg ∷ creation ∷ refs ∷ [] → IsVersionName path name n → ((m : ℕ) → IsRefs n refs m → ⊥) → (row : VersionRow) → IsVersionLine path line row → ⊥
bad-refs path line name guid txg creation refs n spelled is_name bad row is =
    let same : is.name ∷ is.guid ∷ is.txg ∷ is.creation ∷ is.refs ∷ [] ≡ name ∷ guid ∷ txg ∷ creation ∷ refs ∷ [] = sym is.spelled ∙ spelled in
    let same_name : is.name ≡ name = cc in
    let same_refs : is.refs ≡ refs = cc in
    let one : row.name ≡ n = IsVersionName-one path name row.name n (subst (λ (c : List ℕ). IsVersionName path c row.name) same_name is.is_name) is_name in
    let here : IsRefs row.name refs row.refs = subst (λ (c : List ℕ). IsRefs row.name c row.refs) same_refs is.is_refs in
    bad row.refs (subst (λ (m : VersionName). IsRefs m refs row.refs) one here)

-- without a full name a line is bad
pub bad-name : (path line name guid txg creation refs : List ℕ) → columns line ≡ name ∷ guid ∷ txg ∷ creation ∷ refs ∷ [] → ((n : VersionName) → IsVersionName path name n → ⊥) → (row : VersionRow) → IsVersionLine path line row → ⊥
bad-name path line name guid txg creation refs spelled bad row is =
    let same : is.name ∷ is.guid ∷ is.txg ∷ is.creation ∷ is.refs ∷ [] ≡ name ∷ guid ∷ txg ∷ creation ∷ refs ∷ [] = sym is.spelled ∙ spelled in
    let same_name : is.name ≡ name = cc in
    bad row.name (subst (λ (c : List ℕ). IsVersionName path c row.name) same_name is.is_name)

-- what a `?` hands on of a bad part
pub handed-on : {X Y : Type 0} (P : X → Type 0) (Q : Y → Type 0) (e : LineFault) (r : Result Y LineFault) → ReadsOr P (Err e) → IsErrAnd r (λ f. f ≡ e) → (((x : X) → P x → ⊥) → (y : Y) → Q y → ⊥) → ReadsOr Q r
handed-on P Q e (Ok y) finds err more = absurd err
handed-on P Q fault.Bad (Err f) finds err more = rw err (more finds)
handed-on P Q fault.NoMemory (Err f) finds err more = rw err tt

-- the two cases of an option apart
pub match-parts : {X : Type 0} (P : Type 0) (Q : X → Type 0) (r : Option X) → MatchOption r P Q → IfSome r Q × IfNone r P
match-parts P Q None m = (tt, m)
match-parts P Q (Some x) m = (m, tt)

-- full names of one dataset's versions are the same where the names are
pub full_name-one : (path : List ℕ) (a b : VersionName) → full_name path a ≡ full_name path b → a ≡ b
full_name-one path (Snap n) (Snap m) e = ap Snap (tail-same 64 64 n m (append_cancel_left path (64 ∷ n) (64 ∷ m) e))
full_name-one path (Snap n) (Mark m) e = absurd (at-no-hash (head-same 64 35 n m (append_cancel_left path (64 ∷ n) (35 ∷ m) e)))
full_name-one path (Mark n) (Snap m) e = absurd (at-no-hash (sym (head-same 35 64 n m (append_cancel_left path (35 ∷ n) (64 ∷ m) e))))
full_name-one path (Mark n) (Mark m) e = ap Mark (tail-same 35 35 n m (append_cancel_left path (35 ∷ n) (35 ∷ m) e))

-- a line spells one tag at most
pub IsHoldLine-one : (path name line : List ℕ) (a b : List ℕ) → IsHoldLine path name line a → IsHoldLine path name line b → a ≡ b
IsHoldLine-one path name line a b p q =
    let spelled : p.full ∷ p.column ∷ p.date ∷ [] ≡ q.full ∷ q.column ∷ q.date ∷ [] = sym p.spelled ∙ q.spelled in
    let same : p.column ≡ q.column = cc in
    sym p.is_tag.0 ∙ same ∙ q.is_tag.0
