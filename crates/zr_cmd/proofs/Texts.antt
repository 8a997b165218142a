use Rattle.std.proofs.Common.{◌≡◌, ◌==◌, ◌&&◌, ◌||◌, ℕ, zero, suc, ◌<◌, Bool, true, false, not, List, [], ◌∷◌, ◌++◌, length, nat_lt, slice_index, refl, arith, lit<}
use Rattle.std.specs.Prelude.{if◌then◌else◌}
use Rattle.std.specs.List.{AllByRecursion, join_with_byte, list_all}
use Rattle.std.proofs.lemmas.Bool.Decides.{nat_tests}
use Rattle.std.proofs.lemmas.Str.{IsUtf8-from_ascii, IsAscii-append}
use Rattle.std.specs.Str.{IsUtf8, IsAscii}
use Rattle.zr_names.specs.Marks.{tag_front, tag_text}
use Rattle.zr_names.specs.Names.{begins_component, is_dots, is_name_byte, IsName, name_is_bad, slash_is_bad}
use Rattle.zr_names.specs.declared.marks.TagKind.{TagKind}
use Rattle.zr_names.specs.declared.marks.TagKind.TheVariants.{Step, Last}
use Rattle.zr_cmd.specs.Forms.{is_sign}
use Rattle.zr_command.specs.declared.command.Cmd.{Cmd}
use Rattle.zr_command.specs.declared.command.Cmd.TheVariants as cmd
use Rattle.zr_cmd.specs.Words.{AreNamed, IsGroup, IsJob, IsNamed, IsPath, IsVersion, argv_words, words_of, IsToken}
use Rattle.zr_cmd.specs.declared.argv.Argv.TheVariants as argv
use Rattle.zr_cmd.specs.declared.forms.ZfsCall.TheVariants as call

-- the bytes of names and paths: ASCII, and no sign
abbrev pub ArePlain : List ℕ → Type 0
ArePlain text = AllByRecursion (λ b. (b < 128) × (is_sign b ≡ false)) text

plain-from : (xs : List ℕ) → ((k : ℕ) → k < length xs → (slice_index xs k < 128) × (is_sign (slice_index xs k) ≡ false)) → ArePlain xs
plain-from [] h = tt
plain-from (x ∷ xs) h =
    let first : (x < 128) × (is_sign x ≡ false) = h 0 (omega arith) in
    (first, plain-from xs (λ k inside. h (suc k) (omega arith)))

or-left : (x y : Bool) → (not x || y) ≡ false → x ≡ true
or-left true y e = refl
or-left false y e = cc

name_byte-plain : (b : ℕ) → is_name_byte b ≡ true → (b < 128) × (is_sign b ≡ false)
name_byte-plain b e = (grind (arith, nat_tests), grind (arith, nat_tests))

slash-plain : (b : ℕ) → (b == 47) ≡ true → (b < 128) × (is_sign b ≡ false)
slash-plain b e = (grind (arith, nat_tests), grind (arith, nat_tests))

path_byte-cases : (slash bad name rest : Bool) (P : Type 0) → (slash ≡ true → P) → (name ≡ true → P) → (if slash then bad else (not name || rest)) ≡ false → P
path_byte-cases true bad name rest P one two e = one refl
path_byte-cases false bad name rest P one two e = two (or-left name rest e)

pub path-plain : (text : List ℕ) → IsPath text → ArePlain text
path-plain text name = plain-from text (λ k inside.
    let b = slice_index text k in
    path_byte-cases (b == 47) (slash_is_bad text k) (is_name_byte b) (begins_component text k && is_dots text k) ((b < 128) × (is_sign b ≡ false)) (slash-plain b) (name_byte-plain b) (name.no_place_bad k inside))

not-not : (b : Bool) → not b ≡ false → b ≡ true
not-not true e = refl
not-not false e = cc

pub name-plain : (limit : ℕ) (text : List ℕ) → IsName name_is_bad limit text → ArePlain text
name-plain limit text name = plain-from text (λ k inside. name_byte-plain (slice_index text k) (not-not (is_name_byte (slice_index text k)) (name.no_place_bad k inside)))

-- a text without commas
abbrev pub NoComma : List ℕ → Type 0
NoComma text = AllByRecursion (λ b. (b == 44) ≡ false) text

no-comma-from : (xs : List ℕ) → ((k : ℕ) → k < length xs → (slice_index xs k == 44) ≡ false) → NoComma xs
no-comma-from [] h = tt
no-comma-from (x ∷ xs) h =
    let first : (x == 44) ≡ false = h 0 (omega arith) in
    (first, no-comma-from xs (λ k inside. h (suc k) (omega arith)))

name_byte-no-comma : (b : ℕ) → is_name_byte b ≡ true → (b == 44) ≡ false
name_byte-no-comma b e = grind (arith, nat_tests)

-- the name of a snapshot has none
pub no-comma : (text : List ℕ) → IsVersion text → NoComma text
no-comma text name = no-comma-from text (λ k inside. name_byte-no-comma (slice_index text k) (not-not (is_name_byte (slice_index text k)) (name.no_place_bad k inside)))

plain-ascii : (xs : List ℕ) → ArePlain xs → IsAscii xs
plain-ascii [] p i = lit< tt
plain-ascii (x ∷ xs) p zero = p.0.0
plain-ascii (x ∷ xs) p (suc i) = plain-ascii xs p.1 i

-- a path is a text
pub utf8_path : (text : List ℕ) → IsPath text → IsUtf8 text
utf8_path text name = IsUtf8-from_ascii text (plain-ascii text (path-plain text name))

one-ascii : (sign : ℕ) → sign < 128 → IsAscii (sign ∷ [])
one-ascii sign small zero = small
one-ascii sign small (suc i) = lit< tt

-- so is a full name
pub utf8_full : (path name : List ℕ) (sign limit : ℕ) → sign < 128 → IsPath path → IsName name_is_bad limit name → IsUtf8 ((path ++ sign ∷ []) ++ name)
utf8_full path name sign limit small p q =
    let at : IsAscii (sign ∷ []) = one-ascii sign small in
    IsUtf8-from_ascii ((path ++ sign ∷ []) ++ name)
    (IsAscii-append (path ++ sign ∷ []) name (IsAscii-append path (sign ∷ []) (plain-ascii path (path-plain path p)) at) (plain-ascii name (name-plain limit name q)))

both : (x y : Bool) → (x && y) ≡ true → (x ≡ true) × (y ≡ true)
both true y e = (refl, e)
both false y e = cc

bytes-ascii : (xs : List ℕ) → list_all is_name_byte xs ≡ true → IsAscii xs
bytes-ascii [] each i = lit< tt
bytes-ascii (x ∷ xs) each zero = (name_byte-plain x (both (is_name_byte x) (list_all is_name_byte xs) each).0).0
bytes-ascii (x ∷ xs) each (suc i) = bytes-ascii xs (both (is_name_byte x) (list_all is_name_byte xs) each).1 i

front-bytes : (kind : TagKind) → list_all is_name_byte (tag_front kind) ≡ true
front-bytes Step = refl
front-bytes Last = refl

names-ascii : (names : List (List ℕ)) → AllByRecursion (λ name. IsVersion name) names → IsAscii (join_with_byte 44 names)
names-ascii [] each = λ i. lit< tt
names-ascii (name ∷ []) each = plain-ascii name (name-plain 255 name each.0)
names-ascii (name ∷ next ∷ names) each =
    IsAscii-append name (44 ∷ join_with_byte 44 (next ∷ names)) (plain-ascii name (name-plain 255 name each.0)) (IsAscii-append (44 ∷ []) (join_with_byte 44 (next ∷ names)) (one-ascii 44 (lit< tt)) (names-ascii (next ∷ names) each.1))

-- and a path with the names of a group
pub utf8_group : (path : List ℕ) (names : List (List ℕ)) → IsPath path → AllByRecursion (λ name. IsVersion name) names → IsUtf8 ((path ++ 64 ∷ []) ++ join_with_byte 44 names)
utf8_group path names p each =
    let at : IsAscii (64 ∷ []) = one-ascii 64 (lit< tt) in
    IsUtf8-from_ascii ((path ++ 64 ∷ []) ++ join_with_byte 44 names)
    (IsAscii-append (path ++ 64 ∷ []) (join_with_byte 44 names) (IsAscii-append path (64 ∷ []) (plain-ascii path (path-plain path p)) at) (names-ascii names each))

-- and the tag of a job
pub utf8_tag : (kind : TagKind) (job : List ℕ) → IsJob job → IsUtf8 (tag_text kind job)
utf8_tag kind job name =
    IsUtf8-from_ascii (tag_text kind job) (IsAscii-append (tag_front kind) job (bytes-ascii (tag_front kind) (front-bytes kind)) (plain-ascii job (name-plain 64 job name)))

no-left : (x y : Bool) → (x || y) ≡ false → (x ≡ false) × (y ≡ false)
no-left true y e = cc
no-left false y e = (refl, e)

token_byte-small : (b : ℕ) (rest : Bool) → (nat_lt b 32 || nat_lt 126 b || rest) ≡ false → b < 128
token_byte-small b rest e =
    let first = no-left (nat_lt b 32 || nat_lt 126 b) rest e in
    let high : nat_lt 126 b ≡ false = (no-left (nat_lt b 32) (nat_lt 126 b) first.0).1 in
    grind (arith, nat_tests)

ascii-from : (xs : List ℕ) → ((k : ℕ) → k < length xs → slice_index xs k < 128) → IsAscii xs
ascii-from [] h i = lit< tt
ascii-from (x ∷ xs) h zero = h 0 (omega arith)
ascii-from (x ∷ xs) h (suc i) = ascii-from xs (λ k inside. h (suc k) (omega arith)) i

-- so is a resume token
pub utf8_token : (token : List ℕ) → IsToken token → IsUtf8 token
utf8_token token name =
    IsUtf8-from_ascii token (ascii-from token (λ k inside. token_byte-small (slice_index token k) ((length token == 1) && (slice_index token 0 == 45)) (name.no_place_bad k inside)))

-- a command that is one call has its words
pub one_words : (program : List ℕ) (c : Cmd) → IsNamed (call.One c) → argv_words program c ≡ argv.One (program ∷ words_of (call.One c))
one_words program cmd.Sets n = refl
one_words program (cmd.Versions path) n = refl
one_words program (cmd.Holds path name) n = refl
one_words program (cmd.Token token) n = refl
one_words program (cmd.Snapshot path name) n = refl
one_words program (cmd.Hold kind job path name) n = refl
one_words program (cmd.Release kind job path name) n = refl
one_words program (cmd.Bookmark path from mark) n = refl
one_words program (cmd.DestroySnaps path names) n = refl
one_words program (cmd.DestroyMark path mark) n = refl
one_words program (cmd.Create path) n = refl
one_words program (cmd.Transfer transfer) n = absurd n
one_words program (cmd.Abort path) n = refl

pub one_named : (c : Cmd) → IsNamed (call.One c) → AreNamed c
one_named cmd.Sets n = n
one_named (cmd.Versions path) n = n
one_named (cmd.Holds path name) n = n
one_named (cmd.Token token) n = n
one_named (cmd.Snapshot path name) n = n
one_named (cmd.Hold kind job path name) n = n
one_named (cmd.Release kind job path name) n = n
one_named (cmd.Bookmark path from mark) n = n
one_named (cmd.DestroySnaps path names) n = n
one_named (cmd.DestroyMark path mark) n = n
one_named (cmd.Create path) n = n
one_named (cmd.Transfer transfer) n = absurd n
one_named (cmd.Abort path) n = n
