use Rattle.std.proofs.Common.{◌≡◌, ◌==◌, ℕ, ◌+◌, true, false, List, [], ◌∷◌, ◌++◌, length, take, drop, refl, arith, ap, ◌∙◌, sym}
use Rattle.std.specs.List.{AllByRecursion, join_with_byte, position_or_len}
use Rattle.std.proofs.lemmas.List.Elements.{All-from_recursion}
use Rattle.std.proofs.lemmas.List.Splits.{join_with_byte-slice_split, slice_split_at, slice_split_none}
use Rattle.std.proofs.Math.Seq.{drop-append-add, take-append_seam}
use Rattle.zr_names.specs.Marks.{tag_front, tag_text}
use Rattle.zr_names.specs.declared.marks.TagKind.{TagKind}
use Rattle.zr_names.specs.declared.marks.TagKind.TheVariants.{Step, Last}
use Rattle.zr_cmd.specs.Forms.{is_sign, set_part, name_part, names_in, names_part, kind_part, IsFull, IsFullGroup, IsJobTag}
use Rattle.zr_cmd.specs.Words.{IsGroup, IsJob, IsPath, IsVersion}
use Rattle.zr_cmd.proofs.Texts.{ArePlain, NoComma, no-comma, path-plain}

-- in a full name the first sign stands behind the path
sign-place : (path name : List ℕ) (sign : ℕ) → is_sign sign ≡ true → ArePlain path → position_or_len is_sign (path ++ sign ∷ name) ≡ length path
sign-place [] name sign is plain = rw is refl
sign-place (b ∷ path) name sign is plain =
    let rest = sign-place path name sign is plain.1 in
    rw plain.0.1 (ap (λ n. 1 + n) rest ∙ omega arith)

pub set-of : (path name : List ℕ) (sign : ℕ) → is_sign sign ≡ true → IsPath path → set_part (path ++ sign ∷ name) ≡ path
set-of path name sign is named =
    ap (λ n. take n (path ++ sign ∷ name)) (sign-place path name sign is (path-plain path named)) ∙ take-append_seam path (sign ∷ name)

pub name-of : (path name : List ℕ) (sign : ℕ) → is_sign sign ≡ true → IsPath path → name_part (path ++ sign ∷ name) ≡ name
name-of path name sign is named =
    ap (λ n. drop (n + 1) (path ++ sign ∷ name)) (sign-place path name sign is (path-plain path named)) ∙ drop-append-add path (sign ∷ name) 1

-- a full name is read as one
pub full : (path name : List ℕ) (sign : ℕ) → is_sign sign ≡ true → IsPath path → IsVersion name → IsFull sign (path ++ sign ∷ name)
full path name sign is p n =
    let set = set-of path name sign is p in
    let rest = name-of path name sign is p in
    record {
      spelled = rw (set, rest) refl;
      is_path = rw set p;
      is_name = rw rest n;
    }

pub kind-of : (kind : TagKind) (job : List ℕ) → kind_part (tag_text kind job) ≡ kind
kind-of Step job = refl
kind-of Last job = refl

pub after-front : (kind : TagKind) (job : List ℕ) → drop (length (tag_front kind)) (tag_text kind job) ≡ job
after-front Step job = refl
after-front Last job = refl

-- the tag of a job is read as one
pub job-tag : (kind : TagKind) (job : List ℕ) → IsJob job → IsJobTag (tag_text kind job)
job-tag Step job named = record { spelled = refl; is_job = named }
job-tag Last job named = record { spelled = refl; is_job = named }

-- the texts between commas, joined with commas
joined : (name : List ℕ) (others : List (List ℕ)) → AllByRecursion (λ text. NoComma text) (name ∷ others) → names_in (join_with_byte 44 (name ∷ others)) ≡ name ∷ others
joined name [] lack = slice_split_none (λ b. b == 44) name (All-from_recursion (λ b. (b == 44) ≡ false) name lack.0)
joined name (next ∷ others) lack =
    slice_split_at (λ b. b == 44) name 44 (join_with_byte 44 (next ∷ others)) (All-from_recursion (λ b. (b == 44) ≡ false) name lack.0) refl
    ∙ ap (λ l. name ∷ l) (joined next others lack.1)

no-commas : (names : List (List ℕ)) → AllByRecursion (λ name. IsVersion name) names → AllByRecursion (λ text. NoComma text) names
no-commas [] each = tt
no-commas (name ∷ names) each = (no-comma name each.0, no-commas names each.1)

-- the names of a group are found in their text
pub group-names : (names : List (List ℕ)) → IsGroup names → names_in (join_with_byte 44 names) ≡ names
group-names [] g = absurd (omega (arith, g.group.some))
group-names (name ∷ names) g = joined name names (no-commas (name ∷ names) g.each)

pub names-of : (path : List ℕ) (names : List (List ℕ)) → IsPath path → IsGroup names → names_part (path ++ 64 ∷ join_with_byte 44 names) ≡ names
names-of path names p g = ap names_in (name-of path (join_with_byte 44 names) 64 refl p) ∙ group-names names g

-- a path and a group of names are read as such
pub full-group : (path : List ℕ) (names : List (List ℕ)) → IsPath path → IsGroup names → IsFullGroup (path ++ 64 ∷ join_with_byte 44 names)
full-group path names p g =
    let text = join_with_byte 44 names in
    let set = set-of path text 64 refl p in
    let rest = name-of path text 64 refl p in
    let all = names-of path names p g in
    record {
      spelled = rw (set, rest) refl;
      is_path = rw set p;
      is_group = rw all g;
    }

-- such a word is spelled by its path and its names
pub group-spelled : (word : List ℕ) → IsFullGroup word → word ≡ set_part word ++ 64 ∷ join_with_byte 44 (names_part word)
group-spelled word f = f.spelled ∙ ap (λ text. set_part word ++ 64 ∷ text) (sym (join_with_byte-slice_split 44 (name_part word)))
