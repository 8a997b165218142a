use Rattle.std.specs.Prelude.{◌≡◌, ◌<◌, ◌≤◌, ℕ, Bool, true, false, List, [], ◌∷◌, ◌++◌, Result, Ok, Err, codes, length, take, ⊤}
use Rattle.std.specs.List.{AllByRecursion, join_with_byte}
use Rattle.zr_names.specs.Marks.{tag_text}
use Rattle.zr_names.specs.Names.{IsName, path_is_bad, name_is_bad, token_is_bad}
use Rattle.zr_names.specs.declared.names.TheConstants.{PATH_LIMIT, NAME_LIMIT, JOB_LIMIT, TOKEN_LIMIT}
use Rattle.zr_command.specs.Group.{AreNames}
use Rattle.zr_command.specs.declared.command.Base.{Base}
use Rattle.zr_command.specs.declared.command.Base.TheVariants as base
use Rattle.zr_command.specs.declared.command.Cmd.{Cmd}
use Rattle.zr_command.specs.declared.command.Cmd.TheVariants as cmd
use Rattle.zr_command.specs.declared.command.Transfer.{Transfer}
use Rattle.zr_command.specs.declared.version.VersionName.{VersionName}
use Rattle.zr_command.specs.declared.version.VersionName.TheVariants as version
use Rattle.zr_cmd.specs.declared.argv.Argv.{Argv}
use Rattle.zr_cmd.specs.declared.argv.Argv.TheVariants as argv
use Rattle.zr_cmd.specs.declared.argv.ArgvFault.{ArgvFault}
use Rattle.zr_cmd.specs.declared.argv.ArgvFault.TheVariants.{UnknownCommand, BadWord, NoMemory}
use Rattle.zr_cmd.specs.declared.forms.ZfsCall.{ZfsCall}
use Rattle.zr_cmd.specs.declared.forms.ZfsCall.TheVariants as call

-- the words that list all datasets
unfoldable pub sets_words : List (List ℕ)
sets_words =
    codes "list" ∷ codes "-H" ∷ codes "-p" ∷ codes "-t" ∷ codes "filesystem,volume"
    ∷ codes "-o" ∷ codes "name,zrepl:placeholder,receive_resume_token" ∷ []

-- the words that list the versions of a dataset, whose path follows
unfoldable pub versions_words : List (List ℕ)
versions_words =
    codes "list" ∷ codes "-H" ∷ codes "-p" ∷ codes "-d" ∷ codes "1" ∷ codes "-t" ∷ codes "snapshot,bookmark"
    ∷ codes "-s" ∷ codes "createtxg" ∷ codes "-o" ∷ codes "name,guid,createtxg,creation,userrefs" ∷ []

-- the full name of a snapshot, with an `@`
abbrev pub snap_word : List ℕ → List ℕ → List ℕ
snap_word path name = path ++ 64 ∷ name

-- the path, an `@` and the names of a group, parted by commas
abbrev pub group_word : List ℕ → List (List ℕ) → List ℕ
group_word path names = path ++ 64 ∷ join_with_byte 44 names

-- the full name of a bookmark, with a `#`
abbrev pub mark_word : List ℕ → List ℕ → List ℕ
mark_word path name = path ++ 35 ∷ name

-- the full name of either
abbrev pub version_word : List ℕ → VersionName → List ℕ
version_word path (version.Snap name) = snap_word path name
version_word path (version.Mark name) = mark_word path name

-- what stands between `receive` and the path
abbrev pub receive_flags : Bool → List (List ℕ)
receive_flags false = codes "-s" ∷ codes "-u" ∷ []
receive_flags true = codes "-s" ∷ codes "-u" ∷ codes "-F" ∷ []

-- the words of each call, after the program's name; a whole transfer is two calls
abbrev pub words_of : ZfsCall → List (List ℕ)
words_of (call.One cmd.Sets) = sets_words
words_of (call.One (cmd.Versions path)) = versions_words ++ path ∷ []
words_of (call.One (cmd.Holds path name)) = codes "holds" ∷ codes "-H" ∷ snap_word path name ∷ []
words_of (call.One (cmd.Token token)) = codes "send" ∷ codes "-nvt" ∷ token ∷ []
words_of (call.One (cmd.Snapshot path name)) = codes "snapshot" ∷ snap_word path name ∷ []
words_of (call.One (cmd.Hold kind job path name)) = codes "hold" ∷ tag_text kind job ∷ snap_word path name ∷ []
words_of (call.One (cmd.Release kind job path name)) = codes "release" ∷ tag_text kind job ∷ snap_word path name ∷ []
words_of (call.One (cmd.Bookmark path from mark)) = codes "bookmark" ∷ version_word path from ∷ mark_word path mark ∷ []
words_of (call.One (cmd.DestroySnaps path names)) = codes "destroy" ∷ group_word path names ∷ []
words_of (call.One (cmd.DestroyMark path mark)) = codes "destroy" ∷ mark_word path mark ∷ []
words_of (call.One (cmd.Create path)) =
    codes "create" ∷ codes "-o" ∷ codes "zrepl:placeholder=on" ∷ codes "-o" ∷ codes "mountpoint=none" ∷ path ∷ []
words_of (call.One (cmd.Transfer transfer)) = []
words_of (call.One (cmd.Abort path)) = codes "receive" ∷ codes "-A" ∷ path ∷ []
words_of (call.SendFull path name) = codes "send" ∷ snap_word path name ∷ []
words_of (call.SendFrom path mark name) = codes "send" ∷ codes "-i" ∷ mark_word path mark ∷ snap_word path name ∷ []
words_of (call.SendToken token) = codes "send" ∷ codes "-t" ∷ token ∷ []
words_of (call.Receive path force) = codes "receive" ∷ receive_flags force ++ path ∷ []

abbrev pub IsPath : List ℕ → Type 0
IsPath text = IsName path_is_bad PATH_LIMIT text

-- the name of a snapshot or a bookmark
abbrev pub IsVersion : List ℕ → Type 0
IsVersion text = IsName name_is_bad NAME_LIMIT text

-- names of snapshots that one command names together
pub record IsGroup (names : List (List ℕ)) : Type 0 where
  pub each : AllByRecursion (λ name. IsVersion name) names
  pub group : AreNames names

abbrev pub IsJob : List ℕ → Type 0
IsJob text = IsName name_is_bad JOB_LIMIT text

abbrev pub IsToken : List ℕ → Type 0
IsToken text = IsName token_is_bad TOKEN_LIMIT text

abbrev pub IsVersionName : VersionName → Type 0
IsVersionName (version.Snap name) = IsVersion name
IsVersionName (version.Mark name) = IsVersion name

-- it is a call, and the names in it are names
abbrev pub IsNamed : ZfsCall → Type 0
IsNamed (call.One cmd.Sets) = ⊤
IsNamed (call.One (cmd.Versions path)) = IsPath path
IsNamed (call.One (cmd.Holds path name)) = IsPath path × IsVersion name
IsNamed (call.One (cmd.Token token)) = IsToken token
IsNamed (call.One (cmd.Snapshot path name)) = IsPath path × IsVersion name
IsNamed (call.One (cmd.Hold kind job path name)) = IsJob job × IsPath path × IsVersion name
IsNamed (call.One (cmd.Release kind job path name)) = IsJob job × IsPath path × IsVersion name
IsNamed (call.One (cmd.Bookmark path from mark)) = IsPath path × IsVersionName from × IsVersion mark
IsNamed (call.One (cmd.DestroySnaps path names)) = IsPath path × IsGroup names
IsNamed (call.One (cmd.DestroyMark path mark)) = IsPath path × IsVersion mark
IsNamed (call.One (cmd.Create path)) = IsPath path
IsNamed (call.One (cmd.Transfer transfer)) = ⊥
IsNamed (call.One (cmd.Abort path)) = IsPath path
IsNamed (call.SendFull path name) = IsPath path × IsVersion name
IsNamed (call.SendFrom path mark name) = IsPath path × IsVersion mark × IsVersion name
IsNamed (call.SendToken token) = IsToken token
IsNamed (call.Receive path force) = IsPath path

abbrev pub send_from : Transfer → Base → ZfsCall
send_from transfer base.Full = call.SendFull transfer.source transfer.to
send_from transfer (base.From mark guid) = call.SendFrom transfer.source mark transfer.to
send_from transfer (base.Resume token from) = call.SendToken token

-- the sending end of a transfer
abbrev pub send_of : Transfer → ZfsCall
send_of transfer = send_from transfer transfer.base

-- the receiving end of a transfer
abbrev pub receive_of : Transfer → ZfsCall
receive_of transfer = call.Receive transfer.target transfer.force

-- the children that a command starts, each by the program's name and its words
abbrev pub argv_words : List ℕ → Cmd → Argv
argv_words program (cmd.Transfer transfer) =
    argv.Pipe (program ∷ words_of (send_of transfer)) (program ∷ words_of (receive_of transfer))
argv_words program command = argv.One (program ∷ words_of (call.One command))

-- the names in each call of a command are names
abbrev pub AreNamed : Cmd → Type 0
AreNamed (cmd.Transfer transfer) = IsNamed (send_of transfer) × IsNamed (receive_of transfer)
AreNamed command = IsNamed (call.One command)

-- the words are those of the call
pub record Spells (words : List (List ℕ)) (given : ZfsCall) : Type 0 where
  pub same : words ≡ words_of given
  pub named : IsNamed given

-- the words begin those of some call
pub record Begins (words : List (List ℕ)) : Type 0 where
  pub given : ZfsCall
  pub more : List (List ℕ)
  pub named : IsNamed given
  pub longer : words_of given ≡ words ++ more

-- so many words, and no more, begin those of some call
pub record IsLongest (words : List (List ℕ)) (count : ℕ) : Type 0 where
  pub within : count ≤ length words
  pub begins : Begins (take count words)
  pub longest : (k : ℕ) → count < k → k ≤ length words → Begins (take k words) → ⊥

-- the first word is missing, or begins those of no call
abbrev pub IsUnknown : List (List ℕ) → Type 0
IsUnknown [] = ⊤
IsUnknown (word ∷ words) = Begins (word ∷ []) → ⊥

-- how words are read: as the call whose words they are, or else with the number of words that begin those of some call
abbrev pub Reads : List (List ℕ) → Result ZfsCall ArgvFault → Type 0
Reads words (Ok given) = Spells words given
Reads words (Err UnknownCommand) = IsUnknown words
Reads words (Err (BadWord count)) =
    (IsUnknown words → ⊥) × ((given : ZfsCall) → Spells words given → ⊥) × IsLongest words count
Reads words (Err NoMemory) = ⊤
