use Rattle.std.proofs.Common.{◌≡◌, ◌==◌, ◌&&◌, ◌||◌, ℕ, suc, ◌+◌, ◌<◌, ◌≤◌, ◌%◌, ◌^◌, Bool, true, false, not, nat_lt, nat_eq, List, [], ◌∷◌, ◌++◌, Option, Some, None, IfSome, All, length, map, take, append_assoc, get_or, slice_index, refl, arith, ap, ◌∙◌, sym, subst, lit≤}
use Rattle.std.specs.Prelude.{codes, if◌then◌else◌}
use Rattle.std.specs.Cmp.Lexicographic.{pointwise}
use Rattle.std.specs.Fmt.{decimal}
use Rattle.std.specs.List.{AllByRecursion, AllZip, flat_map}
use Rattle.std.proofs.lemmas.Bool.Decides.{nat_tests}
use Rattle.std.proofs.lemmas.Fmt.{decimal_by_steps}
use Rattle.std.proofs.lemmas.List.Elements.{All-from_recursion, recursion_from_All, All-more}
use Rattle.std.proofs.lemmas.List.{take_all, take_more, flat_map_more}
use Rattle.std.proofs.lemmas.List.Splits.{slice_split_none, slice_split_at}
use Rattle.zr_names.specs.Names.{IsName, is_name_byte, path_is_bad, name_is_bad, tag_is_bad, token_is_bad, slash_is_bad, begins_component, is_dots}
use Rattle.zr_names.specs.declared.names.TheConstants.{PATH_LIMIT, NAME_LIMIT, TOKEN_LIMIT}
use Rattle.zr_command.specs.Names.{is_mark}
use Rattle.zr_command.specs.declared.version.SetRow.{SetRow}
use Rattle.zr_command.specs.declared.version.VersionName.{VersionName}
use Rattle.zr_command.specs.declared.version.VersionName.TheVariants.{Snap, Mark}
use Rattle.zr_command.specs.declared.version.VersionRow.{VersionRow}
use Rattle.zr_listing.specs.Columns.{columns, full_name, IsSetLine, IsVersionLine, IsHoldLine, IsToken, IsSuffix, IsRefs}
use Rattle.zr_listing.specs.Lines.{lines_of, Lines}
use Rattle.zr_listing.specs.Order.{bare_name}
use Rattle.zr_listing.specs.Printing.{ended, with_tabs, set_line, flag_text, token_text, refs_text, version_line, hold_line, IsSetRow, IsVersionRow}

-- no byte is a control character
abbrev pub ArePlain : List ℕ → Type 0
ArePlain text = AllByRecursion (λ b. 32 ≤ b) text

plain-append : (xs ys : List ℕ) → ArePlain xs → ArePlain ys → ArePlain (xs ++ ys)
plain-append [] ys p q = q
plain-append (x ∷ xs) ys p q = (p.0, plain-append xs ys p.1 q)

-- what holds of the byte at each place
from-places : (P : ℕ → Type 0) (xs : List ℕ) → ((k : ℕ) → k < length xs → P (slice_index xs k)) → AllByRecursion P xs
from-places P [] h = tt
from-places P (x ∷ xs) h =
    let first : P x = h 0 (omega arith) in
    (first, from-places P xs (λ k inside. h (suc k) (omega arith)))

plain-from : (xs : List ℕ) → ((k : ℕ) → k < length xs → 32 ≤ slice_index xs k) → ArePlain xs
plain-from xs h = from-places (λ b. 32 ≤ b) xs h

-- a text lacks the byte
abbrev pub Lacks : ℕ → List ℕ → Type 0
Lacks byte text = AllByRecursion (λ b. (b == byte) ≡ false) text

pub lacks-append : (byte : ℕ) (xs ys : List ℕ) → Lacks byte xs → Lacks byte ys → Lacks byte (xs ++ ys)
lacks-append byte [] ys p q = q
lacks-append byte (x ∷ xs) ys p q = (p.0, lacks-append byte xs ys p.1 q)

unlike : (b byte : ℕ) → 32 ≤ b → byte < 32 → (b == byte) ≡ false
unlike b byte low small = grind (arith, nat_tests)

plain-lacks : (byte : ℕ) (text : List ℕ) → byte < 32 → ArePlain text → Lacks byte text
plain-lacks byte [] small p = tt
plain-lacks byte (x ∷ xs) small p = (unlike x byte p.0 small, plain-lacks byte xs small p.1)

-- columns without tabs are the columns of their line
columns-joined : (column : List ℕ) (others : List (List ℕ)) → Lacks 9 column → AllByRecursion (λ c. Lacks 9 c) others → columns (with_tabs (column ∷ others)) ≡ column ∷ others
columns-joined column [] first rest =
    slice_split_none (λ b. b == 9) column (All-from_recursion (λ b. (b == 9) ≡ false) column first)
columns-joined column (next ∷ others) first rest =
    slice_split_at (λ b. b == 9) column 9 (with_tabs (next ∷ others)) (All-from_recursion (λ b. (b == 9) ≡ false) column first) refl
    ∙ ap (λ l. column ∷ l) (columns-joined next others rest.0 rest.1)

lacks-joined : (column : List ℕ) (others : List (List ℕ)) → Lacks 10 column → AllByRecursion (λ c. Lacks 10 c) others → Lacks 10 (with_tabs (column ∷ others))
lacks-joined column [] first rest = first
lacks-joined column (next ∷ others) first rest =
    lacks-append 10 column (9 ∷ with_tabs (next ∷ others)) first (refl, lacks-joined next others rest.0 rest.1)

all-lack : (byte : ℕ) (texts : List (List ℕ)) → byte < 32 → AllByRecursion (λ t. ArePlain t) texts → AllByRecursion (λ t. Lacks byte t) texts
all-lack byte [] small h = tt
all-lack byte (t ∷ ts) small h = (plain-lacks byte t small h.0, all-lack byte ts small h.1)

or-left : (x y : Bool) → (not x || y) ≡ false → x ≡ true
or-left true y e = refl
or-left false y e = cc

name_byte-plain : (b : ℕ) → is_name_byte b ≡ true → 32 ≤ b
name_byte-plain b e = grind (arith, nat_tests)

path_byte-cases : (slash bad name rest : Bool) (b : ℕ) → (slash ≡ true → 32 ≤ b) → (name ≡ true → 32 ≤ b) → (if slash then bad else (not name || rest)) ≡ false → 32 ≤ b
path_byte-cases true bad name rest b one two e = one refl
path_byte-cases false bad name rest b one two e = two (or-left name rest e)

path-plain : (text : List ℕ) → IsName path_is_bad PATH_LIMIT text → ArePlain text
path-plain text name = plain-from text (λ k inside.
    let b = slice_index text k in
    let slash : (b == 47) ≡ true → 32 ≤ b = λ h. grind (arith, nat_tests) in
    path_byte-cases (b == 47) (slash_is_bad text k) (is_name_byte b) (begins_component text k && is_dots text k) b slash (name_byte-plain b) (name.no_place_bad k inside))

not-not : (b : Bool) → not b ≡ false → b ≡ true
not-not true e = refl
not-not false e = cc

name-plain : (text : List ℕ) → IsName name_is_bad NAME_LIMIT text → ArePlain text
name-plain text name = plain-from text (λ k inside. name_byte-plain (slice_index text k) (not-not (is_name_byte (slice_index text k)) (name.no_place_bad k inside)))

token_byte-plain : (b n c : ℕ) → (nat_lt b 32 || nat_lt 126 b || ((n == 1) && (c == 45))) ≡ false → 32 ≤ b
token_byte-plain b n c e = grind (arith, nat_tests)

token-plain : (text : List ℕ) → IsName token_is_bad TOKEN_LIMIT text → ArePlain text
token-plain text name = plain-from text (λ k inside. token_byte-plain (slice_index text k) (length text) (slice_index text 0) (name.no_place_bad k inside))

decimal-plain : (n : ℕ) → n < 2 ^ 64 → ArePlain (decimal n)
decimal-plain = decimal_by_steps (λ n ds. ArePlain ds) (λ n small. (omega arith, tt)) (λ n ds large h. plain-append ds ((48 + n % 10) ∷ []) h (omega arith, tt))

flag-plain : (flag : Bool) → ArePlain (flag_text flag)
flag-plain true = (lit≤ tt, (lit≤ tt, tt))
flag-plain false = (lit≤ tt, tt)

token_text-plain : (token : Option (List ℕ)) → IfSome token (IsName token_is_bad TOKEN_LIMIT) → ArePlain (token_text token)
token_text-plain None h = (lit≤ tt, tt)
token_text-plain (Some token) h = token-plain token h

token_text-spells : (token : Option (List ℕ)) → IfSome token (IsName token_is_bad TOKEN_LIMIT) → IsToken (token_text token) token
token_text-spells None h = refl
token_text-spells (Some token) h = (refl, h)

flag-spells : (flag : Bool) → (0 < length (flag_text flag)) × (flag ≡ pointwise nat_eq (flag_text flag) (codes "on"))
flag-spells true = (lit≤ tt, refl)
flag-spells false = (lit≤ tt, refl)

-- a printed row is a line of a listing, without a newline
pub record Spelled {Row : Type 0} (spells : List ℕ → Row → Type 0) (line : List ℕ) (row : Row) : Type 0 where
  pub spelled : spells line row
  pub lacks : Lacks 10 line

pub set_line-spelled : (row : SetRow) → IsSetRow row → Spelled IsSetLine (set_line row) row
set_line-spelled row valid =
    let flag = flag_text row.placeholder in
    let token = token_text row.token in
    let path_plain = path-plain row.path valid.path in
    let others_plain : AllByRecursion (λ t. ArePlain t) (flag ∷ token ∷ []) = (flag-plain row.placeholder, (token_text-plain row.token valid.token, tt)) in
    let flags = flag-spells row.placeholder in
    record {
      spelled = record {
        path = row.path;
        flag = flag;
        token = token;
        spelled = columns-joined row.path (flag ∷ token ∷ []) (plain-lacks 9 row.path (omega arith) path_plain) (all-lack 9 (flag ∷ token ∷ []) (omega arith) others_plain);
        is_path = (refl, valid.path);
        not_empty = flags.0;
        placeholder = flags.1;
        is_token = token_text-spells row.token valid.token;
      };
      lacks = lacks-joined row.path (flag ∷ token ∷ []) (plain-lacks 10 row.path (omega arith) path_plain) (all-lack 10 (flag ∷ token ∷ []) (omega arith) others_plain);
    }

-- the suffix of a full name
suffix_of : VersionName → List ℕ
suffix_of (Snap name) = 64 ∷ name
suffix_of (Mark name) = 35 ∷ name

suffix-plain : (name : VersionName) → IsName name_is_bad NAME_LIMIT (bare_name name) → ArePlain (suffix_of name)
unfolding suffix_of
suffix-plain (Snap name) h = (lit≤ tt, name-plain name h)
suffix-plain (Mark name) h = (lit≤ tt, name-plain name h)

suffix-spells : (name : VersionName) → IsName name_is_bad NAME_LIMIT (bare_name name) → IsSuffix (suffix_of name) name
unfolding suffix_of
suffix-spells (Snap name) h = (refl, h)
suffix-spells (Mark name) h = (refl, h)

full_name-suffix : (path : List ℕ) (name : VersionName) → full_name path name ≡ path ++ suffix_of name
unfolding suffix_of
full_name-suffix path (Snap name) = refl
full_name-suffix path (Mark name) = refl

refs-plain : (name : VersionName) (refs : ℕ) → refs < 2 ^ 64 → ArePlain (refs_text name refs)
refs-plain (Snap name) refs small = decimal-plain refs small
refs-plain (Mark name) refs small = (lit≤ tt, tt)

refs-spells : (name : VersionName) (refs : ℕ) → refs < 2 ^ 64 → (is_mark name ≡ true → refs ≡ 0) → IsRefs name (refs_text name refs) refs
refs-spells (Snap name) refs small free = (refl, small)
refs-spells (Mark name) refs small free = (refl, free refl)

pub version_line-spelled : (path : List ℕ) (row : VersionRow) → IsName path_is_bad PATH_LIMIT path → IsVersionRow row → (is_mark row.name ≡ true → row.refs ≡ 0) → Spelled (IsVersionLine path) (version_line path row) row
version_line-spelled path row named valid free =
    let full = full_name path row.name in
    let whole = full_name-suffix path row.name in
    let numbers = decimal row.guid.0 ∷ decimal row.txg ∷ decimal row.creation ∷ refs_text row.name row.refs ∷ [] in
    let full_plain : ArePlain full = rw whole (plain-append path (suffix_of row.name) (path-plain path named) (suffix-plain row.name valid.name)) in
    let numbers_plain : AllByRecursion (λ t. ArePlain t) numbers = (decimal-plain row.guid.0 valid.guid, (decimal-plain row.txg valid.txg, (decimal-plain row.creation valid.creation, (refs-plain row.name row.refs valid.refs, tt)))) in
    record {
      spelled = record {
        name = full;
        guid = decimal row.guid.0;
        txg = decimal row.txg;
        creation = decimal row.creation;
        refs = refs_text row.name row.refs;
        spelled = columns-joined full numbers (plain-lacks 9 full (omega arith) full_plain) (all-lack 9 numbers (omega arith) numbers_plain);
        is_name = record { suffix = suffix_of row.name; full = whole; is_suffix = suffix-spells row.name valid.name };
        is_guid = (refl, valid.guid);
        is_txg = (refl, valid.txg);
        is_creation = (refl, valid.creation);
        is_refs = refs-spells row.name row.refs valid.refs free;
      };
      lacks = lacks-joined full numbers (plain-lacks 10 full (omega arith) full_plain) (all-lack 10 numbers (omega arith) numbers_plain);
    }

or-false : (x y : Bool) → (x || y) ≡ false → (x ≡ false) × (y ≡ false)
or-false false y e = (refl, e)
or-false true y e = cc

tag-lacks_tab : (tag : List ℕ) → IsName tag_is_bad NAME_LIMIT tag → Lacks 9 tag
tag-lacks_tab tag name = from-places (λ b. (b == 9) ≡ false) tag (λ k inside.
    (or-false (slice_index tag k == 9) (slice_index tag k == 10) (name.no_place_bad k inside)).0)

tag-lacks_newline : (tag : List ℕ) → IsName tag_is_bad NAME_LIMIT tag → Lacks 10 tag
tag-lacks_newline tag name = from-places (λ b. (b == 10) ≡ false) tag (λ k inside.
    (or-false (slice_index tag k == 9) (slice_index tag k == 10) (name.no_place_bad k inside)).1)

pub hold_line-spelled : (path snap tag : List ℕ) → IsName path_is_bad PATH_LIMIT path → IsName name_is_bad NAME_LIMIT snap → IsName tag_is_bad NAME_LIMIT tag → Spelled (IsHoldLine path snap) (hold_line path snap tag) tag
hold_line-spelled path snap tag path_named snap_named tag_named =
    let full = path ++ 64 ∷ snap in
    let full_plain : ArePlain full = plain-append path (64 ∷ snap) (path-plain path path_named) (lit≤ tt, name-plain snap snap_named) in
    record {
      spelled = record {
        full = full;
        column = tag;
        date = codes "0";
        spelled = columns-joined full (tag ∷ codes "0" ∷ []) (plain-lacks 9 full (omega arith) full_plain) (tag-lacks_tab tag tag_named, ((refl, tt), tt));
        is_full = refl;
        is_tag = (refl, tag_named);
        not_empty = lit≤ tt;
      };
      lacks = lacks-joined full (tag ∷ codes "0" ∷ []) (plain-lacks 10 full (omega arith) full_plain) (tag-lacks_newline tag tag_named, ((refl, tt), tt));
    }

-- printed rows are a listing of them
printed-lines : {Row : Type 0} (spells : List ℕ → Row → Type 0) (line : Row → List ℕ) (rows : List Row) → AllByRecursion (λ row. Spelled spells (line row) row) rows → (lines_of (flat_map (λ row. ended (line row)) rows) ≡ map line rows ++ [] ∷ []) × AllZip spells (map line rows) rows
printed-lines spells line [] all = (refl, tt)
printed-lines spells line (row ∷ rows) all =
    let rest = printed-lines spells line rows all.1 in
    let text = flat_map (λ r. ended (line r)) rows in
    let cut = slice_split_at (λ b. b == 10) (line row) 10 text (All-from_recursion (λ b. (b == 10) ≡ false) (line row) all.0.lacks) refl in
    let regrouped : ended (line row) ++ text ≡ line row ++ 10 ∷ text = append_assoc (line row) (10 ∷ []) text in
    (ap lines_of regrouped ∙ cut ∙ ap (λ l. line row ∷ l) rest.0, (all.0.spelled, rest.1))

pub printed : {Row : Type 0} (spells : List ℕ → Row → Type 0) (line : Row → List ℕ) (rows : List Row) → All (λ row. Spelled spells (line row) row) rows → Lines spells (flat_map (λ row. ended (line row)) rows) rows
printed spells line rows all =
    let lines = printed-lines spells line rows (recursion_from_All (λ row. Spelled spells (line row) row) rows all) in
    record { lines = map line rows; ended = lines.0; each = lines.1 }

-- one more row is printed
pub printed-more : {Row : Type 0} (line : Row → List ℕ) (rows : List Row) (i : ℕ) (row : Row) (old new : List ℕ) → i < length rows → row ≡ get_or rows i row → old ≡ flat_map (λ r. ended (line r)) (take i rows) → new ≡ old ++ ended (line row) → new ≡ flat_map (λ r. ended (line r)) (take (i + 1) rows)
printed-more line rows i row old new inside is before now =
    let front = take i rows in
    let grown : take (i + 1) rows ≡ front ++ row ∷ [] = take_more rows i row inside ∙ ap (λ r. front ++ r ∷ []) (sym is) in
    now ∙ ap (λ l. l ++ ended (line row)) before ∙ flat_map_more (λ r. ended (line r)) [] front row ∙ ap (flat_map (λ r. ended (line r))) (sym grown)

pub valid-more : {Row : Type 0} (P : Row → Type 0) (rows : List Row) (i : ℕ) (row : Row) → i < length rows → row ≡ get_or rows i row → All P (take i rows) → P row → All P (take (i + 1) rows)
valid-more P rows i row inside is before now = All-more P rows i row inside before (subst P is now)

-- all rows are printed, and valid
pub all-printed : {Row : Type 0} (spells : List ℕ → Row → Type 0) (line : Row → List ℕ) (rows : List Row) (i : ℕ) (out : List ℕ) → length rows ≤ i → out ≡ flat_map (λ r. ended (line r)) (take i rows) → All (λ row. Spelled spells (line row) row) rows → Lines spells out rows
all-printed {Row} spells line rows i out past is all =
    let whole : out ≡ flat_map (λ r. ended (line r)) rows = is ∙ ap (flat_map (λ r. ended (line r))) (take_all i rows past) in
    subst (λ (text : List ℕ). Lines spells text rows) (sym whole) (printed spells line rows all)

pub all-valid : {Row : Type 0} (P : Row → Type 0) (rows : List Row) (i : ℕ) → length rows ≤ i → All P (take i rows) → All P rows
all-valid {Row} P rows i past all = subst (λ (l : List Row). All P l) (take_all i rows past) all
