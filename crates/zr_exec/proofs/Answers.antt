use Rattle.std.proofs.Common.{◌≡◌, ℕ, false, List, [], ◌∷◌, Ok, Option, Some, None, IsPermutation, refl, ap, ◌∙◌, sym, subst, inl, inr, drop}
use Rattle.zr_listing.proofs.Rows.{full_name-one}
use Rattle.zr_listing.proofs.Sorting.{differ-permutation, version-list}
use Rattle.zr_listing.specs.Columns.{full_name, IsHoldLine, IsSetLine, IsVersionLine}
use Rattle.zr_listing.specs.Lines.{NamesDiffer}
use Rattle.zr_listing.specs.Listing.{IsHoldListing, IsSetListing, IsVersionListing}
use Rattle.std.proofs.lemmas.List.Sorted.{IsPermutation-sym, IsPermutation-trans}
use Rattle.zr_cmd.specs.Words.{AreNamed, argv_words, IsNamed, Spells, words_of}
use Rattle.zr_cmd.specs.declared.argv.Argv.TheVariants as argv
use Rattle.zr_cmd.specs.declared.forms.ZfsCall.TheVariants as call
use Rattle.zr_world.specs.Answering.{Answers, Acts, appended, is_no_memory, Logs}
use Rattle.zr_world.specs.Effect.{Effect}
use Rattle.zr_world.specs.declared.effects.Extent.TheVariants as extent
use Rattle.zr_command.specs.Plain.{plain}
use Rattle.zr_command.specs.declared.command.Answer.{Answer}
use Rattle.zr_command.specs.declared.command.Answer.TheVariants as answer
use Rattle.zr_command.specs.declared.command.Cmd.{Cmd}
use Rattle.zr_command.specs.declared.command.Cmd.TheVariants as cmd
use Rattle.zr_command.specs.declared.command.Entry.TheVariants as entry
use Rattle.zr_command.specs.declared.command.Reply.{Reply}
use Rattle.zr_command.specs.declared.command.Reply.TheVariants as reply
use Rattle.zr_world.specs.declared.pools.Pools.{Pools}
use Rattle.zr_command.specs.declared.version.SetRow.{SetRow}
use Rattle.zr_command.specs.declared.version.VersionRow.{VersionRow}
use Rattle.zr_exec.specs.declared.spawn.Line.{Line}
use Rattle.zr_exec.specs.declared.spawn.RunExit.{RunExit}
use Rattle.zr_exec.specs.declared.spawn.RunExit.TheVariants as exit
use Rattle.zr_exec.specs.Answering.{IsAnswer, IsCutAt, IsFailedStatus, IsFailure, IsGarbledAt}
use Rattle.zr_exec.specs.Columns.{hold_of, set_row_of, version_row_of}
use Rattle.zr_exec.specs.Entries.{answer_anyhow, answer_in, answer_of, cut_answer, entries_of, entries_of_call, rows_answer, token_answer, token_answer_anyhow, versions_reply}
use Rattle.zr_exec.specs.Listed.{Listed, listed_by}
use Rattle.zr_exec.specs.Listed as listed
use Rattle.zr_exec.specs.Recording.{call_line, RecordsChild, with_lines}
use Rattle.zr_exec.specs.Rows.{in_order}
use Rattle.zr_exec.specs.Serving.{Does, IsReply, IsReplyAnyhow, Serves}
use Rattle.zr_exec.specs.Commands.{words_behind}
use Rattle.zr_exec.proofs.Commands.{behind_itself, command_by-started, plain_named, StartsOne}
use Rattle.zr_exec.proofs.HoldLines.{hold_of-spelled, IsHoldLine-read}
use Rattle.zr_exec.proofs.Orders.{in_order-same, in_order-sorted}
use Rattle.zr_exec.proofs.RowLists.{ReadsLines, rows_in-bad, rows_in-whole}
use Rattle.zr_exec.proofs.SetLines.{IsSetLine-read, set_row_of-spelled}
use Rattle.zr_exec.proofs.TokenContents.{info_in-bad, info_in-whole}
use Rattle.zr_exec.proofs.Told.{begin_told}
use Rattle.zr_exec.proofs.Unique.{order_unique}
use Rattle.zr_exec.proofs.VersionLines.{IsVersionLine-read, version_row_of-spelled}

-- what a child did before memory was refused
pub does_short : (command : Cmd) (before after : Pools) (ended : RunExit) (bytes : List ℕ) → Does command before after ended bytes → Does command before after exit.NoMemory bytes
does_short command before after exit.Done bytes does = (extent.Whole, Ok does.0, does.1)
does_short command before after exit.Nonzero bytes does = does.some
does_short command before after exit.Failed bytes does = does
does_short command before after exit.TooLong bytes does = does
does_short command before after exit.NoMemory bytes does = does

sets-read : ReadsLines IsSetLine set_row_of
sets-read = record { spelled = set_row_of-spelled; read = IsSetLine-read }

versions-read : (path : List ℕ) → ReadsLines (IsVersionLine path) (version_row_of path)
versions-read path = record { spelled = version_row_of-spelled path; read = IsVersionLine-read path }

sets-answered : (bytes : List ℕ) (rows : List SetRow) → IsSetListing bytes rows → answer_in listed.sets bytes ≡ answer.Done (reply.Sets rows)
sets-answered bytes rows is =
    ap (rows_answer reply.Sets) (rows_in-whole IsSetLine set_row_of (λ (row : SetRow). row.path) sets-read bytes rows is.lines is.paths_differ)

versions-answered : (path bytes : List ℕ) (rows : List VersionRow) → IsVersionListing path bytes rows → answer_in (listed.versions path) bytes ≡ answer.Done (reply.Versions rows)
versions-answered path bytes rows is =
    let full : VersionRow → List ℕ = λ row. full_name path row.name in
    let apart : NamesDiffer full rows = λ i j d less inside e. is.in_order.names_differ i j d less inside (full_name-one path _ _ e) in
    let differ : NamesDiffer full is.listed = differ-permutation full rows is.listed (IsPermutation-sym is.listed rows is.same_rows) apart in
    let read = rows_in-whole (IsVersionLine path) (version_row_of path) full (versions-read path) bytes is.listed is.lines differ in
    let ordered = version-list full (λ a b e. ap (full_name path) e) (in_order is.listed) (in_order-sorted is.listed) (differ-permutation full is.listed (in_order is.listed) (in_order-same is.listed) differ) in
    let same : IsPermutation (in_order is.listed) rows = IsPermutation-trans (in_order is.listed) is.listed rows (IsPermutation-sym is.listed (in_order is.listed) (in_order-same is.listed)) is.same_rows in
    let one : in_order is.listed ≡ rows = order_unique (in_order is.listed) rows ordered.in_order is.in_order.in_order same in
    ap (rows_answer versions_reply) read ∙ ap (λ (xs : List VersionRow). answer.Done (reply.Versions xs)) one

holds-read : (path name : List ℕ) → ReadsLines (IsHoldLine path name) (hold_of path name)
holds-read path name = record { spelled = hold_of-spelled path name; read = IsHoldLine-read path name }

holds-answered : (path name bytes : List ℕ) (tags : List (List ℕ)) → IsHoldListing path name bytes tags → answer_in (listed.holds path name) bytes ≡ answer.Done (reply.Holds tags)
holds-answered path name bytes tags is =
    ap (rows_answer reply.Holds) (rows_in-whole (IsHoldLine path name) (hold_of path name) (λ (tag : List ℕ). tag) (holds-read path name) bytes tags is.lines is.tags_differ)

reply-answered : (what : Listed) (bytes : List ℕ) (given : Reply) → IsReply what bytes given → answer_in what bytes ≡ answer.Done given
reply-answered listed.sets bytes reply.Nothing is = absurd is
reply-answered listed.sets bytes (reply.Sets rows) is = sets-answered bytes rows is
reply-answered listed.sets bytes (reply.Versions rows) is = absurd is
reply-answered listed.sets bytes (reply.Holds tags) is = absurd is
reply-answered listed.sets bytes (reply.Token info) is = absurd is
reply-answered (listed.versions path) bytes reply.Nothing is = absurd is
reply-answered (listed.versions path) bytes (reply.Sets rows) is = absurd is
reply-answered (listed.versions path) bytes (reply.Versions rows) is = versions-answered path bytes rows is
reply-answered (listed.versions path) bytes (reply.Holds tags) is = absurd is
reply-answered (listed.versions path) bytes (reply.Token info) is = absurd is
reply-answered (listed.holds path name) bytes reply.Nothing is = absurd is
reply-answered (listed.holds path name) bytes (reply.Sets rows) is = absurd is
reply-answered (listed.holds path name) bytes (reply.Versions rows) is = absurd is
reply-answered (listed.holds path name) bytes (reply.Holds tags) is = holds-answered path name bytes tags is
reply-answered (listed.holds path name) bytes (reply.Token info) is = absurd is
reply-answered listed.token bytes reply.Nothing is = absurd is
reply-answered listed.token bytes (reply.Sets rows) is = absurd is
reply-answered listed.token bytes (reply.Versions rows) is = absurd is
reply-answered listed.token bytes (reply.Holds tags) is = absurd is
reply-answered listed.token bytes (reply.Token info) is = ap token_answer (info_in-whole bytes info is)
reply-answered listed.nothing bytes reply.Nothing is = refl
reply-answered listed.nothing bytes (reply.Sets rows) is = absurd is
reply-answered listed.nothing bytes (reply.Versions rows) is = absurd is
reply-answered listed.nothing bytes (reply.Holds tags) is = absurd is
reply-answered listed.nothing bytes (reply.Token info) is = absurd is

anyhow-answered : (what : Listed) (bytes : List ℕ) (given : Reply) → IsReplyAnyhow what bytes given → answer_anyhow what bytes ≡ answer.Done given
anyhow-answered listed.sets bytes given is = absurd is
anyhow-answered (listed.versions path) bytes given is = absurd is
anyhow-answered (listed.holds path name) bytes given is = absurd is
anyhow-answered listed.token bytes reply.Nothing is = absurd is
anyhow-answered listed.token bytes (reply.Sets rows) is = absurd is
anyhow-answered listed.token bytes (reply.Versions rows) is = absurd is
anyhow-answered listed.token bytes (reply.Holds tags) is = absurd is
anyhow-answered listed.token bytes (reply.Token info) is = ap token_answer_anyhow (info_in-whole bytes info is)
anyhow-answered listed.nothing bytes given is = absurd is

garbled-answered : (what : Listed) (bytes : List ℕ) (n : ℕ) → IsGarbledAt what bytes n → answer_in what bytes ≡ answer.Garbled n
garbled-answered listed.sets bytes n is =
    ap (rows_answer reply.Sets) (rows_in-bad IsSetLine set_row_of (λ (row : SetRow). row.path) sets-read bytes n is)
garbled-answered (listed.versions path) bytes n is =
    ap (rows_answer versions_reply) (rows_in-bad (IsVersionLine path) (version_row_of path) (λ (row : VersionRow). full_name path row.name) (versions-read path) bytes n is)
garbled-answered (listed.holds path name) bytes n is =
    ap (rows_answer reply.Holds) (rows_in-bad (IsHoldLine path name) (hold_of path name) (λ (tag : List ℕ). tag) (holds-read path name) bytes n is)
garbled-answered listed.token bytes n is = ap token_answer (info_in-bad bytes n is)
garbled-answered listed.nothing bytes n is = absurd is

cut-answered : (what : Listed) (bytes : List ℕ) (n : ℕ) → IsCutAt what bytes n → cut_answer what bytes ≡ answer.Garbled n
cut-answered listed.sets bytes n is = ap answer.Garbled (sym is)
cut-answered (listed.versions path) bytes n is = ap answer.Garbled (sym is)
cut-answered (listed.holds path name) bytes n is = ap answer.Garbled (sym is)
cut-answered listed.token bytes n is = ap answer.Garbled (sym is)
cut-answered listed.nothing bytes n is = absurd is

status-answered : (what : Listed) (bytes : List ℕ) → IsFailedStatus what bytes → answer_anyhow what bytes ≡ answer.Failed
status-answered listed.sets bytes is = refl
status-answered (listed.versions path) bytes is = refl
status-answered (listed.holds path name) bytes is = refl
status-answered listed.token bytes is = ap token_answer_anyhow (info_in-bad bytes is.0 is.1)
status-answered listed.nothing bytes is = refl

failure-answered : (what : Listed) (ended : RunExit) (bytes : List ℕ) → IsFailure what ended bytes → answer_of what ended bytes ≡ answer.Failed
failure-answered what exit.Nonzero bytes is = status-answered what bytes is
failure-answered what exit.Failed bytes is = refl
failure-answered listed.nothing exit.TooLong bytes is = refl
failure-answered listed.sets exit.TooLong bytes is = absurd is
failure-answered (listed.versions path) exit.TooLong bytes is = absurd is
failure-answered (listed.holds path name) exit.TooLong bytes is = absurd is
failure-answered listed.token exit.TooLong bytes is = absurd is
failure-answered listed.sets exit.Done bytes is = absurd is
failure-answered (listed.versions path) exit.Done bytes is = absurd is
failure-answered (listed.holds path name) exit.Done bytes is = absurd is
failure-answered listed.token exit.Done bytes is = absurd is
failure-answered listed.nothing exit.Done bytes is = absurd is
failure-answered listed.sets exit.NoMemory bytes is = absurd is
failure-answered (listed.versions path) exit.NoMemory bytes is = absurd is
failure-answered (listed.holds path name) exit.NoMemory bytes is = absurd is
failure-answered listed.token exit.NoMemory bytes is = absurd is
failure-answered listed.nothing exit.NoMemory bytes is = absurd is

-- the answer that the rule allows is the one that it gives, where memory was not refused
pub answered : (what : Listed) (ended : RunExit) (bytes : List ℕ) (given : Answer) → IsAnswer what ended bytes given → is_no_memory given ≡ false → answer_of what ended bytes ≡ given
answered what exit.Done bytes (answer.Done given) is some = reply-answered what bytes given is
answered what exit.Done bytes (answer.Garbled n) is some = garbled-answered what bytes n is
answered what exit.TooLong bytes (answer.Garbled n) is some = cut-answered what bytes n is
answered what exit.Done bytes answer.Failed is some = failure-answered what exit.Done bytes is
answered what exit.Nonzero bytes answer.Failed is some = failure-answered what exit.Nonzero bytes is
answered what exit.Failed bytes answer.Failed is some = failure-answered what exit.Failed bytes is
answered what exit.TooLong bytes answer.Failed is some = failure-answered what exit.TooLong bytes is
answered what exit.NoMemory bytes answer.Failed is some = failure-answered what exit.NoMemory bytes is
answered what exit.Nonzero bytes (answer.Done given) is some = anyhow-answered what bytes given is
answered what exit.Nonzero bytes (answer.Garbled n) is some = absurd is
answered what exit.Failed bytes (answer.Done given) is some = absurd is
answered what exit.Failed bytes (answer.Garbled n) is some = absurd is
answered what exit.TooLong bytes (answer.Done given) is some = absurd is
answered what exit.NoMemory bytes (answer.Done given) is some = absurd is
answered what exit.NoMemory bytes (answer.Garbled n) is some = absurd is
answered what ended bytes answer.NoMemory is some = cc

-- what runs of a command leave in the record of a runner whose children are those of this program
module _ (program : List ℕ) where
  -- the line of a call of a command is read as the command with the answer of its exit and bytes
  call-read : (old new : Option (List Line)) (all : List (List ℕ)) (command : Cmd) (ended : RunExit) (bytes : List ℕ) → StartsOne program all command → new ≡ with_lines old (call_line all ended bytes ∷ []) → entries_of program new ≡ appended (entries_of program old) (entry.Call command (answer_of (listed_by command) ended bytes) ∷ [])
  call-read old new all command ended bytes starts now =
      ap (entries_of program) now
      ∙ begin_told program old (call_line all ended bytes)
      ∙ ap (λ found. appended (entries_of program old) (entries_of_call found (record { words = all; exit = ended; written = bytes }))) (command_by-started program all command starts)

  told-as : (old new : Option (List Line)) (all : List (List ℕ)) (command : Cmd) (ended : RunExit) (bytes : List ℕ) (given : Answer) → StartsOne program all command → new ≡ with_lines old (call_line all ended bytes ∷ []) → IsAnswer (listed_by command) ended bytes given → is_no_memory given ≡ false → entries_of program new ≡ appended (entries_of program old) (entry.Call command given ∷ [])
  told-as old new all command ended bytes given starts now is some =
      call-read old new all command ended bytes starts now ∙ ap (λ a. appended (entries_of program old) (entry.Call command a ∷ [])) (answered (listed_by command) ended bytes given is some)

  told : (old new : Option (List Line)) (all : List (List ℕ)) (command : Cmd) (ended : RunExit) (bytes : List ℕ) (given : Answer) → StartsOne program all command → new ≡ with_lines old (call_line all ended bytes ∷ []) → IsAnswer (listed_by command) ended bytes given → Logs (entries_of program old) (entries_of program new) command given
  told old new all command ended bytes answer.NoMemory starts now is =
      inr (answer_of (listed_by command) ended bytes, call-read old new all command ended bytes starts now)
  told old new all command ended bytes (answer.Done r) starts now is =
      told-as old new all command ended bytes (answer.Done r) starts now is refl
  told old new all command ended bytes answer.Failed starts now is =
      told-as old new all command ended bytes answer.Failed starts now is refl
  told old new all command ended bytes (answer.Garbled n) starts now is =
      told-as old new all command ended bytes (answer.Garbled n) starts now is refl

  no-failure : (what : Listed) (bytes : List ℕ) → IsFailure what exit.NoMemory bytes → ⊥
  no-failure listed.sets bytes is = is
  no-failure (listed.versions path) bytes is = is
  no-failure (listed.holds path name) bytes is = is
  no-failure listed.token bytes is = is
  no-failure listed.nothing bytes is = is

  short-told : (old new : Option (List Line)) (all : List (List ℕ)) (command : Cmd) (bytes : List ℕ) (given : Answer) → StartsOne program all command → RecordsChild old new all exit.NoMemory bytes → IsAnswer (listed_by command) exit.NoMemory bytes given → Logs (entries_of program old) (entries_of program new) command given
  short-told old new all command bytes answer.NoMemory starts records is = elim records [
    | inl same ↦ inl (ap (entries_of program) same)
    | inr kept ↦ inr (answer_of (listed_by command) kept.0 kept.1, call-read old new all command kept.0 kept.1 starts kept.2)
  ]
  short-told old new all command bytes (answer.Done r) starts records is = absurd is
  short-told old new all command bytes answer.Failed starts records is = absurd (no-failure (listed_by command) bytes is)
  short-told old new all command bytes (answer.Garbled n) starts records is = absurd is

  logs : (old new : Option (List Line)) (all : List (List ℕ)) (command : Cmd) (ended : RunExit) (bytes : List ℕ) (given : Answer) → StartsOne program all command → RecordsChild old new all ended bytes → IsAnswer (listed_by command) ended bytes given → Logs (entries_of program old) (entries_of program new) command given
  logs old new all command exit.Done bytes given starts records is = told old new all command exit.Done bytes given starts records is
  logs old new all command exit.Nonzero bytes given starts records is = told old new all command exit.Nonzero bytes given starts records is
  logs old new all command exit.Failed bytes given starts records is = told old new all command exit.Failed bytes given starts records is
  logs old new all command exit.TooLong bytes given starts records is = told old new all command exit.TooLong bytes given starts records is
  logs old new all command exit.NoMemory bytes given starts records is = short-told old new all command bytes given starts records is

one-word : (program : List ℕ) (words : List (List ℕ)) (command : Cmd) → argv.One words ≡ argv.One (program ∷ words_of (call.One command)) → IsNamed (call.One command) → StartsOne program words command
one-word program words command same named =
    let whole : words ≡ program ∷ words_of (call.One command) = cc in
    record {
      by = subst (λ (ws : List (List ℕ)). words_behind program ws ≡ Some (drop 1 ws)) (sym whole) (behind_itself program (words_of (call.One command)));
      spelled = record { same = ap (drop 1) whole; named = named };
    }

named-words : (program : List ℕ) (command : Cmd) (words : List (List ℕ)) → argv.One words ≡ argv_words program command → AreNamed command → StartsOne program words command
named-words program cmd.Sets words same named = one-word program words cmd.Sets same named
named-words program (cmd.Versions path) words same named = one-word program words (cmd.Versions path) same named
named-words program (cmd.Holds path name) words same named = one-word program words (cmd.Holds path name) same named
named-words program (cmd.Token token) words same named = one-word program words (cmd.Token token) same named
named-words program (cmd.Snapshot path name) words same named = one-word program words (cmd.Snapshot path name) same named
named-words program (cmd.Hold kind job path name) words same named = one-word program words (cmd.Hold kind job path name) same named
named-words program (cmd.Release kind job path name) words same named = one-word program words (cmd.Release kind job path name) same named
named-words program (cmd.Bookmark path from mark) words same named = one-word program words (cmd.Bookmark path from mark) same named
named-words program (cmd.DestroySnaps path names) words same named = one-word program words (cmd.DestroySnaps path names) same named
named-words program (cmd.DestroyMark path mark) words same named = one-word program words (cmd.DestroyMark path mark) same named
named-words program (cmd.Create path) words same named = one-word program words (cmd.Create path) same named
named-words program (cmd.Abort path) words same named = one-word program words (cmd.Abort path) same named
named-words program (cmd.Transfer transfer) words same named = cc

-- the words start a child of the program for the command
pub one_started : (all : List (List ℕ)) (named_by program : List ℕ) (command : Cmd) (words : List (List ℕ)) → named_by ≡ program → all ≡ words → argv.One words ≡ argv_words named_by command → AreNamed command → StartsOne program all command
one_started all named_by program command words own passed same named =
    subst (λ (p : List ℕ). StartsOne p all command) own
    (subst (λ (ws : List (List ℕ)). StartsOne named_by ws command) (sym passed) (named-words named_by command words same named))

-- what a run of a command leaves in the record, read as commands and answers
pub run_logs : (program asked : List ℕ) (first old new : Option (List Line)) (all : List (List ℕ)) (command : Cmd) (ended : RunExit) (bytes : List ℕ) (given : Answer) → program ≡ asked → old ≡ first → StartsOne program all command → RecordsChild old new all ended bytes → IsAnswer (listed_by command) ended bytes given → Logs (entries_of asked first) (entries_of program new) (plain command) given
run_logs program asked first old new all command ended bytes given own begun starts records is =
    subst (λ (p : List ℕ). Logs (entries_of p first) (entries_of program new) (plain command) given) own
    (subst (λ (t : Option (List Line)). Logs (entries_of program t) (entries_of program new) (plain command) given) begun
    (subst (λ (c : Cmd). Logs (entries_of program old) (entries_of program new) c given) (sym (plain_named command starts.spelled.named))
    (logs program old new all command ended bytes given starts records is)))

-- bytes give one reply at most
pub one-reply : (what : Listed) (bytes : List ℕ) (one other : Reply) → IsReply what bytes one → IsReply what bytes other → one ≡ other
one-reply what bytes one other p q =
    let a = reply-answered what bytes one p in
    let b = reply-answered what bytes other q in
    cc

some-extent : (command : Cmd) (before after : Pools) (ended : RunExit) (bytes : List ℕ) (given : Answer) → Does command before after ended bytes → IsAnswer (listed_by command) ended bytes given → Answers command before after given
some-extent command before after exit.Done bytes (answer.Done given) does is =
    subst (λ (r : Reply). Effect [] before command extent.Whole after (Ok r)) (one-reply (listed_by command) bytes does.0 given does.2 is) does.1
some-extent command before after exit.Nonzero bytes (answer.Done given) does is = does.replied given is
some-extent command before after exit.Failed bytes (answer.Done given) does is = absurd is
some-extent command before after exit.TooLong bytes (answer.Done given) does is = absurd is
some-extent command before after exit.NoMemory bytes (answer.Done given) does is = absurd is
some-extent command before after ended bytes answer.Failed does is = does_short command before after ended bytes does
some-extent command before after ended bytes (answer.Garbled n) does is = does_short command before after ended bytes does
some-extent command before after ended bytes answer.NoMemory does is = does_short command before after ended bytes does

acts : (old new : Option Pools) (words : List (List ℕ)) (command : Cmd) (ended : RunExit) (bytes : List ℕ) (given : Answer) → Spells words (call.One command) → Serves words old new ended bytes → IsAnswer (listed_by command) ended bytes given → Acts command old new given
acts None None words command ended bytes given spelled serves is = tt
acts None (Some after) words command ended bytes given spelled serves is = absurd serves
acts (Some before) None words command ended bytes given spelled serves is = absurd serves
acts (Some before) (Some after) words command ended bytes given spelled serves is =
    inl (some-extent command before after ended bytes given (serves.command command spelled) is)

-- what a run of a command does to the pools
pub run_acts : (first old new : Option Pools) (words : List (List ℕ)) (command : Cmd) (ended : RunExit) (bytes : List ℕ) (given : Answer) → old ≡ first → Spells words (call.One command) → Serves words old new ended bytes → IsAnswer (listed_by command) ended bytes given → Acts command first new given
run_acts first old new words command ended bytes given begun spelled serves is =
    subst (λ (p : Option Pools). Acts command p new given) begun
    (acts old new words command ended bytes given spelled serves is)
