use Rattle.std.specs.Prelude.{◌≡◌, ◌==◌, ◌||◌, ℕ, Bool, true, false, List, [], ◌∷◌, ◌++◌, codes, drop, length, map, nat_eq, slice_index_or, if◌then◌else◌}
use Rattle.std.specs.List.{after_first, before_first, slice_split, starts_with}
use Rattle.zr_names.specs.Marks.{tag_front, tag_text}
use Rattle.zr_names.specs.declared.marks.TagKind.{TagKind}
use Rattle.zr_names.specs.declared.marks.TagKind.TheVariants.{Step, Last}
use Rattle.zr_command.specs.declared.command.Cmd.TheVariants as cmd
use Rattle.zr_command.specs.declared.version.VersionName.TheVariants as version
use Rattle.zr_cmd.specs.Words.{IsGroup, IsJob, IsPath, IsToken, IsVersion, sets_words, versions_words}
use Rattle.zr_cmd.specs.declared.forms.ZfsCall.{ZfsCall}
use Rattle.zr_cmd.specs.declared.forms.ZfsCall.TheVariants as call
use Rattle.zr_cmd.specs.declared.forms.Form.{Form}
use Rattle.zr_cmd.specs.declared.forms.Form.TheVariants as form
use Rattle.zr_cmd.specs.declared.forms.Part.{Part}
use Rattle.zr_cmd.specs.declared.forms.Part.TheVariants as part

-- `@` or `#`, which end the path in the full name of a snapshot or a bookmark
abbrev pub is_sign : ℕ → Bool
is_sign b = (b == 64) || (b == 35)

-- the texts between commas
abbrev pub names_in : List ℕ → List (List ℕ)
names_in text = slice_split (λ b. b == 44) text

-- the path in a full name
abbrev pub set_part : List ℕ → List ℕ
set_part word = before_first is_sign word

-- the name behind the path
abbrev pub name_part : List ℕ → List ℕ
name_part word = after_first is_sign word

-- the names behind the path, parted by commas
abbrev pub names_part : List ℕ → List (List ℕ)
names_part word = names_in (name_part word)

-- the kind of a job's tag
abbrev pub kind_part : List ℕ → TagKind
kind_part word = if starts_with nat_eq word (codes "zrepl_STEP_J_") then Step else Last

-- the job of a tag
abbrev pub job_part : List ℕ → List ℕ
job_part word = drop (length (tag_front (kind_part word))) word

-- the word is a full name with this sign
pub record IsFull (sign : ℕ) (word : List ℕ) : Type 0 where
  pub spelled : word ≡ set_part word ++ sign ∷ name_part word
  pub is_path : IsPath (set_part word)
  pub is_name : IsVersion (name_part word)

-- the word is a path, an `@` and the names of a group
pub record IsFullGroup (word : List ℕ) : Type 0 where
  pub spelled : word ≡ set_part word ++ 64 ∷ name_part word
  pub is_path : IsPath (set_part word)
  pub is_group : IsGroup (names_part word)

-- the word is the tag of a job
pub record IsJobTag (word : List ℕ) : Type 0 where
  pub spelled : word ≡ tag_text (kind_part word) (job_part word)
  pub is_job : IsJob (job_part word)

-- what one word of a form is
pub data Pattern : Type 0 where
  fixed : List ℕ → Pattern
  a_path : Pattern
  a_snap : Pattern
  a_group : Pattern
  a_mark : Pattern
  same_snap : Pattern
  same_mark : Pattern
  a_tag : Pattern
  a_token : Pattern

-- the word is as the pattern has it, behind the word before
abbrev pub Suits : Pattern → List ℕ → List ℕ → Type 0
Suits (fixed text) before word = word ≡ text
Suits a_path before word = IsPath word
Suits a_snap before word = IsFull 64 word
Suits a_group before word = IsFullGroup word
Suits a_mark before word = IsFull 35 word
Suits same_snap before word = IsFull 64 word × (set_part word ≡ set_part before)
Suits same_mark before word = IsFull 35 word × (set_part word ≡ set_part before)
Suits a_tag before word = IsJobTag word
Suits a_token before word = IsToken word

-- the words of each form
abbrev pub patterns_of : Form → List Pattern
patterns_of form.Sets = map fixed sets_words
patterns_of form.Versions = map fixed versions_words ++ a_path ∷ []
patterns_of form.Holds = fixed (codes "holds") ∷ fixed (codes "-H") ∷ a_snap ∷ []
patterns_of form.Token = fixed (codes "send") ∷ fixed (codes "-nvt") ∷ a_token ∷ []
patterns_of form.Snapshot = fixed (codes "snapshot") ∷ a_snap ∷ []
patterns_of form.Hold = fixed (codes "hold") ∷ a_tag ∷ a_snap ∷ []
patterns_of form.Release = fixed (codes "release") ∷ a_tag ∷ a_snap ∷ []
patterns_of form.BookmarkSnap = fixed (codes "bookmark") ∷ a_snap ∷ same_mark ∷ []
patterns_of form.BookmarkMark = fixed (codes "bookmark") ∷ a_mark ∷ same_mark ∷ []
patterns_of form.DestroySnaps = fixed (codes "destroy") ∷ a_group ∷ []
patterns_of form.DestroyMark = fixed (codes "destroy") ∷ a_mark ∷ []
patterns_of form.Create =
    fixed (codes "create") ∷ fixed (codes "-o") ∷ fixed (codes "zrepl:placeholder=on") ∷ fixed (codes "-o")
    ∷ fixed (codes "mountpoint=none") ∷ a_path ∷ []
patterns_of form.SendFull = fixed (codes "send") ∷ a_snap ∷ []
patterns_of form.SendFrom = fixed (codes "send") ∷ fixed (codes "-i") ∷ a_mark ∷ same_snap ∷ []
patterns_of form.SendToken = fixed (codes "send") ∷ fixed (codes "-t") ∷ a_token ∷ []
patterns_of form.Receive = fixed (codes "receive") ∷ fixed (codes "-s") ∷ fixed (codes "-u") ∷ a_path ∷ []
patterns_of form.ReceiveForced =
    fixed (codes "receive") ∷ fixed (codes "-s") ∷ fixed (codes "-u") ∷ fixed (codes "-F") ∷ a_path ∷ []
patterns_of form.Abort = fixed (codes "receive") ∷ fixed (codes "-A") ∷ a_path ∷ []

-- what a part of the table stands for
abbrev pub pattern_of : Part → Pattern
pattern_of (part.Fixed text) = fixed text.now
pattern_of part.Path = a_path
pattern_of part.Snap = a_snap
pattern_of part.Group = a_group
pattern_of part.Mark = a_mark
pattern_of part.SnapOfSame = same_snap
pattern_of part.MarkOfSame = same_mark
pattern_of part.Tag = a_tag
pattern_of part.Token = a_token

abbrev pub word_at : List (List ℕ) → ℕ → List ℕ
word_at words place = slice_index_or words place []

-- the call of this form with the names that stand in the words
abbrev pub read_as : Form → List (List ℕ) → ZfsCall
read_as form.Sets words = call.One cmd.Sets
read_as form.Versions words = call.One (cmd.Versions (word_at words 11))
read_as form.Holds words = call.One (cmd.Holds (set_part (word_at words 2)) (name_part (word_at words 2)))
read_as form.Token words = call.One (cmd.Token (word_at words 2))
read_as form.Snapshot words = call.One (cmd.Snapshot (set_part (word_at words 1)) (name_part (word_at words 1)))
read_as form.Hold words =
    call.One (cmd.Hold (kind_part (word_at words 1)) (job_part (word_at words 1)) (set_part (word_at words 2)) (name_part (word_at words 2)))
read_as form.Release words =
    call.One (cmd.Release (kind_part (word_at words 1)) (job_part (word_at words 1)) (set_part (word_at words 2)) (name_part (word_at words 2)))
read_as form.BookmarkSnap words =
    call.One (cmd.Bookmark (set_part (word_at words 1)) (version.Snap (name_part (word_at words 1))) (name_part (word_at words 2)))
read_as form.BookmarkMark words =
    call.One (cmd.Bookmark (set_part (word_at words 1)) (version.Mark (name_part (word_at words 1))) (name_part (word_at words 2)))
read_as form.DestroySnaps words = call.One (cmd.DestroySnaps (set_part (word_at words 1)) (names_part (word_at words 1)))
read_as form.DestroyMark words = call.One (cmd.DestroyMark (set_part (word_at words 1)) (name_part (word_at words 1)))
read_as form.Create words = call.One (cmd.Create (word_at words 5))
read_as form.SendFull words = call.SendFull (set_part (word_at words 1)) (name_part (word_at words 1))
read_as form.SendFrom words = call.SendFrom (set_part (word_at words 2)) (name_part (word_at words 2)) (name_part (word_at words 3))
read_as form.SendToken words = call.SendToken (word_at words 2)
read_as form.Receive words = call.Receive (word_at words 3) false
read_as form.ReceiveForced words = call.Receive (word_at words 4) true
read_as form.Abort words = call.One (cmd.Abort (word_at words 2))
