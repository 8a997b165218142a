use Rattle.std.proofs.Common.{◌≡◌, ℕ, List, [], ◌∷◌, Option, Some, None, refl, ap, ◌∙◌, sym, subst, inl, inr, drop}
use Rattle.zr_cmd.specs.Words.{AreNamed, argv_words, receive_of, send_of, words_of}
use Rattle.zr_cmd.specs.declared.argv.Argv.TheVariants as argv
use Rattle.zr_world.specs.Answering.{Acts, AnswersWords, appended, IsGiven, Logs}
use Rattle.zr_world.specs.Effect.{MayCome}
use Rattle.zr_world.proofs.Applied.{nothing-comes}
use Rattle.zr_command.specs.Plain.{plain, plain_transfer}
use Rattle.zr_command.specs.declared.command.Answer.{Answer}
use Rattle.zr_command.specs.declared.command.Answer.TheVariants as answer
use Rattle.zr_command.specs.declared.command.Cmd.{Cmd}
use Rattle.zr_command.specs.declared.command.Cmd.TheVariants as cmd
use Rattle.zr_command.specs.declared.command.Entry.TheVariants as entry
use Rattle.zr_command.specs.declared.command.Transfer.{Transfer}
use Rattle.zr_world.specs.declared.pools.Pools.{Pools}
use Rattle.zr_exec.specs.declared.spawn.Line.{Line}
use Rattle.zr_exec.specs.declared.spawn.PipeExit.{PipeExit}
use Rattle.zr_exec.specs.declared.spawn.PipeExit.TheVariants as piped
use Rattle.zr_exec.specs.Answering.{pipe_answer}
use Rattle.zr_exec.specs.Entries.{entries_of, entries_of_pipe}
use Rattle.zr_exec.specs.Recording.{pipe_line, RecordsPipe, with_lines}
use Rattle.zr_exec.specs.Serving.{DoesPipe, PipeGives, ServesPipe, SpellsPipe}
use Rattle.zr_exec.specs.Commands.{words_behind}
use Rattle.zr_exec.proofs.Commands.{behind_itself, one_transfer, StartsEnds, transfer_by-started}
use Rattle.zr_exec.proofs.Told.{begin_told}

-- the line of a pipe of a transfer is read as the transfer, without guids, with the answer of its exit
pipe-read : (program : List ℕ) (old new : Option (List Line)) (send receive : List (List ℕ)) (transfer : Transfer) (exit : PipeExit) → StartsEnds program send receive transfer → new ≡ with_lines old (pipe_line send receive exit ∷ []) → entries_of program new ≡ appended (entries_of program old) (entry.Call (cmd.Transfer (plain_transfer transfer)) (pipe_answer exit) ∷ [])
pipe-read program old new send receive transfer exit starts now =
    ap (entries_of program) now
    ∙ begin_told program old (pipe_line send receive exit)
    ∙ ap (λ found. appended (entries_of program old) (entries_of_pipe found (record { send = send; receive = receive; exit = exit }))) (transfer_by-started program send receive transfer starts)

logs : (program : List ℕ) (old new : Option (List Line)) (send receive : List (List ℕ)) (transfer : Transfer) (exit : PipeExit) → StartsEnds program send receive transfer → RecordsPipe old new send receive exit → Logs (entries_of program old) (entries_of program new) (cmd.Transfer (plain_transfer transfer)) (pipe_answer exit)
logs program old new send receive transfer piped.Done starts records = pipe-read program old new send receive transfer piped.Done starts records
logs program old new send receive transfer piped.Failed starts records = pipe-read program old new send receive transfer piped.Failed starts records
logs program old new send receive transfer piped.NoMemory starts records = elim records [
  | inl same ↦ inl (ap (entries_of program) same)
  | inr kept ↦ inr (pipe_answer kept.0, pipe-read program old new send receive transfer kept.0 starts kept.1)
]

given : (send receive : List (List ℕ)) (before : Pools) (asked transfer : Transfer) → SpellsPipe send receive asked → PipeGives send receive before transfer → IsGiven before (cmd.Transfer asked) (cmd.Transfer transfer)
given send receive before asked transfer spelled gives = record {
  same_words = ap cmd.Transfer (one_transfer send receive transfer asked gives.spelled spelled);
  stands = gives.stands;
}

-- a command that was not done may have had no extent
none-came : (before after : Pools) (command : Cmd) → after ≡ before → MayCome [] before command after
none-came before after command same = subst (MayCome [] before command) (sym same) (nothing-comes before command)

does : (send receive : List (List ℕ)) (before after : Pools) (asked : Transfer) (exit : PipeExit) → SpellsPipe send receive asked → DoesPipe send receive before after exit → AnswersWords (cmd.Transfer asked) before after (pipe_answer exit)
does send receive before after asked piped.Done spelled came =
    inr (cmd.Transfer came.0, given send receive before asked came.0 spelled came.1, came.2)
does send receive before after asked piped.Failed spelled came = elim came [
  | inl same ↦ inl (none-came before after (cmd.Transfer asked) same)
  | inr some ↦ inr (cmd.Transfer some.0, given send receive before asked some.0 spelled some.1, some.2)
]
does send receive before after asked piped.NoMemory spelled came = elim came [
  | inl same ↦ inl (none-came before after (cmd.Transfer asked) same)
  | inr some ↦ inr (cmd.Transfer some.0, given send receive before asked some.0 spelled some.1, some.2)
]

acts : (old new : Option Pools) (send receive : List (List ℕ)) (asked : Transfer) (exit : PipeExit) → SpellsPipe send receive asked → ServesPipe send receive old new exit → Acts (cmd.Transfer asked) old new (pipe_answer exit)
acts None None send receive asked exit spelled serves = tt
acts None (Some after) send receive asked exit spelled serves = absurd serves
acts (Some before) None send receive asked exit spelled serves = absurd serves
acts (Some before) (Some after) send receive asked exit spelled serves = does send receive before after asked exit spelled serves

-- the command whose two children of this program these words start
pub record Starts (program : List ℕ) (send receive : List (List ℕ)) (command : Cmd) : Type 0 where
  pub transfer : Transfer
  pub same : command ≡ cmd.Transfer transfer
  pub ends : StartsEnds program send receive transfer

behind-own : (program : List ℕ) (words other : List (List ℕ)) → words ≡ program ∷ other → words_behind program words ≡ Some (drop 1 words)
behind-own program words other same =
    subst (λ (ws : List (List ℕ)). words_behind program ws ≡ Some (drop 1 ws)) (sym same) (behind_itself program other)

tail-same : (program : List ℕ) (words other : List (List ℕ)) → words ≡ program ∷ other → drop 1 words ≡ other
tail-same program words other same = ap (drop 1) same

named-ends : (program : List ℕ) (command : Cmd) (send receive : List (List ℕ)) → argv.Pipe send receive ≡ argv_words program command → AreNamed command → Starts program send receive command
named-ends program cmd.Sets send receive same named = cc
named-ends program (cmd.Versions path) send receive same named = cc
named-ends program (cmd.Holds path name) send receive same named = cc
named-ends program (cmd.Token token) send receive same named = cc
named-ends program (cmd.Snapshot path name) send receive same named = cc
named-ends program (cmd.Hold kind job path name) send receive same named = cc
named-ends program (cmd.Release kind job path name) send receive same named = cc
named-ends program (cmd.Bookmark path from mark) send receive same named = cc
named-ends program (cmd.DestroySnaps path names) send receive same named = cc
named-ends program (cmd.DestroyMark path mark) send receive same named = cc
named-ends program (cmd.Create path) send receive same named = cc
named-ends program (cmd.Abort path) send receive same named = cc
named-ends program (cmd.Transfer transfer) send receive same named =
    let first : send ≡ program ∷ words_of (send_of transfer) = cc in
    let second : receive ≡ program ∷ words_of (receive_of transfer) = cc in
    record {
      transfer = transfer;
      same = refl;
      ends = record {
        send_by = behind-own program send (words_of (send_of transfer)) first;
        receive_by = behind-own program receive (words_of (receive_of transfer)) second;
        spelled = record {
          sends = record { same = tail-same program send (words_of (send_of transfer)) first; named = named.0 };
          receives = record { same = tail-same program receive (words_of (receive_of transfer)) second; named = named.1 };
        };
      };
    }

-- the words are those of the two children of the command
pub starts : (all_send all_receive : List (List ℕ)) (named_by program : List ℕ) (command : Cmd) (send receive : List (List ℕ)) → named_by ≡ program → all_send ≡ send → all_receive ≡ receive → argv.Pipe send receive ≡ argv_words named_by command → AreNamed command → Starts program all_send all_receive command
starts all_send all_receive named_by program command send receive own one other same named =
    subst (λ (p : List ℕ). Starts p all_send all_receive command) own
    (subst (λ (ws : List (List ℕ)). Starts named_by ws all_receive command) (sym one)
    (subst (λ (ws : List (List ℕ)). Starts named_by send ws command) (sym other)
    (named-ends named_by command send receive same named)))

-- what a pipe of a command leaves in the record, read as commands and answers
pub pipe_logs : (program asked : List ℕ) (first old new : Option (List Line)) (send receive : List (List ℕ)) (command : Cmd) (exit : PipeExit) (given : Answer) → program ≡ asked → given ≡ pipe_answer exit → old ≡ first → Starts program send receive command → RecordsPipe old new send receive exit → Logs (entries_of asked first) (entries_of program new) (plain command) given
pipe_logs program asked first old new send receive command exit given own is begun start records =
    subst (λ (a : Answer). Logs (entries_of asked first) (entries_of program new) (plain command) a) (sym is)
    (subst (λ (p : List ℕ). Logs (entries_of p first) (entries_of program new) (plain command) (pipe_answer exit)) own
    (subst (λ (t : Option (List Line)). Logs (entries_of program t) (entries_of program new) (plain command) (pipe_answer exit)) begun
    (subst (λ (c : Cmd). Logs (entries_of program old) (entries_of program new) (plain c) (pipe_answer exit)) (sym start.same)
    (logs program old new send receive start.transfer exit start.ends records))))

-- what a pipe of a command does to the pools
pub pipe_acts : (program : List ℕ) (first old new : Option Pools) (send receive : List (List ℕ)) (command : Cmd) (exit : PipeExit) → old ≡ first → Starts program send receive command → ServesPipe (drop 1 send) (drop 1 receive) old new exit → Acts command first new (pipe_answer exit)
pipe_acts program first old new send receive command exit begun start serves =
    subst (λ (p : Option Pools). Acts command p new (pipe_answer exit)) begun
    (subst (λ (c : Cmd). Acts c old new (pipe_answer exit)) (sym start.same)
    (acts old new (drop 1 send) (drop 1 receive) start.transfer exit start.ends.spelled serves))

-- where memory is refused before a child starts, nothing comes
pub idle_acts : (command : Cmd) (pools : Option Pools) → Acts command pools pools answer.NoMemory
idle_acts command None = tt
idle_acts command (Some before) = inl (nothing-comes before command)
