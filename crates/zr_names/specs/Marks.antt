use Rattle.std.specs.Prelude.{◌≡◌, ◌≢◌, ℕ, ◌<◌, ◌^◌, List, ◌++◌, codes, drop, if◌then◌else◌, take, ⊤}
use Rattle.std.specs.Str.{bytes_eq}
use Rattle.zr_names.specs.Hex.{hex_number, hex_text}
use Rattle.zr_names.specs.declared.marks.TagKind.{TagKind}
use Rattle.zr_names.specs.declared.marks.TagKind.TheVariants.{Step, Last}
use Rattle.zr_names.specs.declared.marks.MarkKind.{MarkKind}
use Rattle.zr_names.specs.declared.marks.MarkKind.TheVariants.{Cursor, Tentative, OldCursor, Other}

-- what a job's tags of a kind begin with
abbrev pub tag_front : TagKind → List ℕ
tag_front Step = codes "zrepl_STEP_J_"
tag_front Last = codes "zrepl_last_received_J_"

-- the tag of a job
abbrev pub tag_text : TagKind → List ℕ → List ℕ
tag_text kind job = tag_front kind ++ job

-- what follows the front in the name of a job's bookmark: the guid in 16 digits, and the job
abbrev pub guid_and_job : ℕ → List ℕ → List ℕ
guid_and_job guid job = hex_text 16 guid ++ (codes "_J_" ++ job)

-- the name of a job's replication cursor
abbrev pub cursor_text : ℕ → List ℕ → List ℕ
cursor_text guid job = codes "zrepl_CURSOR_G_" ++ guid_and_job guid job

-- the name of a job's tentative cursor
abbrev pub tentative_text : ℕ → List ℕ → List ℕ
tentative_text guid job = codes "zrepl_CURSORTENTATIVE_G_" ++ guid_and_job guid job

-- the name of the cursor of earlier versions, which names no job
abbrev pub old_cursor_text : List ℕ
old_cursor_text = codes "zrepl_replication_cursor"

-- a name is neither that of a cursor of the job nor that of the old cursor
pub record IsOther (name job : List ℕ) : Type 0 where
  pub no_cursor : (guid : ℕ) → name ≢ cursor_text guid job
  pub no_tentative : (guid : ℕ) → name ≢ tentative_text guid job
  pub not_old : name ≢ old_cursor_text

-- what the name of a bookmark is to a job
abbrev pub IsMark : List ℕ → List ℕ → MarkKind → Type 0
IsMark name job (Cursor guid) = name ≡ cursor_text guid.0 job
IsMark name job (Tentative guid) = name ≡ tentative_text guid.0 job
IsMark name job OldCursor = name ≡ old_cursor_text
IsMark name job Other = IsOther name job

-- the guid of a mark is one of 64 bits
abbrev pub HasGuid : MarkKind → Type 0
HasGuid (Cursor guid) = guid.0 < 2 ^ 64
HasGuid (Tentative guid) = guid.0 < 2 ^ 64
HasGuid OldCursor = ⊤
HasGuid Other = ⊤

-- the guid that the 16 digits from a place on write
abbrev pub guid_at : ℕ → List ℕ → ℕ
guid_at place name = hex_number (take 16 (drop place name))

-- the one kind that a name has: a cursor's or a tentative cursor's where it is spelled as that of the guid in it
unfoldable pub mark_kind : List ℕ → List ℕ → MarkKind
mark_kind name job =
    if bytes_eq name (cursor_text (guid_at 15 name) job)
    then Cursor (record { 0 = guid_at 15 name })
    else (if bytes_eq name (tentative_text (guid_at 24 name) job)
    then Tentative (record { 0 = guid_at 24 name })
    else (if bytes_eq name old_cursor_text then OldCursor else Other))
