use Rattle.std.specs.Prelude.{ℕ, ◌+◌, List, [], ◌∷◌, Option, Some, None, Result, Ok, Err, flat_map, option_map}
use Rattle.zr_exec.specs.declared.spawn.Call.{Call}
use Rattle.zr_exec.specs.declared.spawn.Line.{Line}
use Rattle.zr_exec.specs.declared.spawn.Line.TheVariants as line
use Rattle.zr_exec.specs.declared.spawn.Piped.{Piped}
use Rattle.zr_exec.specs.declared.spawn.RunExit.{RunExit}
use Rattle.zr_exec.specs.declared.spawn.RunExit.TheVariants as exit
use Rattle.zr_exec.specs.Answering.{newlines, pipe_answer}
use Rattle.zr_exec.specs.Columns.{hold_of, set_row_of, version_row_of}
use Rattle.zr_exec.specs.Commands.{command_by, transfer_by}
use Rattle.zr_exec.specs.Listed.{Listed, listed_by}
use Rattle.zr_exec.specs.Listed as listed
use Rattle.zr_exec.specs.Rows.{in_order, rows_in}
use Rattle.zr_exec.specs.TokenContents.{info_in}
use Rattle.zr_listing.specs.Columns.{full_name}
use Rattle.zr_listing.specs.Lines.{lines_of}
use Rattle.zr_command.specs.declared.command.Answer.{Answer}
use Rattle.zr_command.specs.declared.command.Answer.TheVariants as answer
use Rattle.zr_command.specs.declared.command.Cmd.{Cmd}
use Rattle.zr_command.specs.declared.command.Cmd.TheVariants as cmd
use Rattle.zr_command.specs.declared.command.Entry.{Entry}
use Rattle.zr_command.specs.declared.command.Entry.TheVariants as entry
use Rattle.zr_command.specs.declared.command.Reply.{Reply}
use Rattle.zr_command.specs.declared.command.Reply.TheVariants as reply
use Rattle.zr_command.specs.declared.command.Transfer.{Transfer}
use Rattle.zr_command.specs.declared.version.TokenInfo.{TokenInfo}
use Rattle.zr_command.specs.declared.version.VersionRow.{VersionRow}

-- the answer by the rows of a listing, or by its first bad line
abbrev pub rows_answer : {Row : Type 0} → (List Row → Reply) → Result (List Row) ℕ → Answer
rows_answer listing (Ok rows) = answer.Done (listing rows)
rows_answer listing (Err line) = answer.Garbled line

abbrev pub versions_reply : List VersionRow → Reply
versions_reply rows = reply.Versions (in_order rows)

-- the answer by the contents of a token, or by their first bad line
abbrev pub token_answer : Result TokenInfo ℕ → Answer
token_answer (Ok info) = answer.Done (reply.Token info)
token_answer (Err line) = answer.Garbled line

-- and where the child ended with another status
abbrev pub token_answer_anyhow : Result TokenInfo ℕ → Answer
token_answer_anyhow (Ok info) = answer.Done (reply.Token info)
token_answer_anyhow (Err line) = answer.Failed

-- what the bytes of a child that ended well answer
abbrev pub answer_in : Listed → List ℕ → Answer
answer_in listed.sets bytes = rows_answer reply.Sets (rows_in set_row_of (λ row. row.path) [] (lines_of bytes))
answer_in (listed.versions path) bytes =
    rows_answer versions_reply
    (rows_in (version_row_of path) (λ row. full_name path row.name) [] (lines_of bytes))
answer_in (listed.holds path name) bytes =
    rows_answer reply.Holds (rows_in (hold_of path name) (λ tag. tag) [] (lines_of bytes))
answer_in listed.token bytes = token_answer (info_in [] (lines_of bytes))
answer_in listed.nothing bytes = answer.Done reply.Nothing

-- what the bytes of a child that ended by itself with another status answer
abbrev pub answer_anyhow : Listed → List ℕ → Answer
answer_anyhow listed.token bytes = token_answer_anyhow (info_in [] (lines_of bytes))
answer_anyhow what bytes = answer.Failed

-- what the bytes of a child that wrote too much answer
abbrev pub cut_answer : Listed → List ℕ → Answer
cut_answer listed.nothing bytes = answer.Failed
cut_answer what bytes = answer.Garbled (newlines bytes + 1)

-- the answer to a command by its child's end and bytes
abbrev pub answer_of : Listed → RunExit → List ℕ → Answer
answer_of what exit.Done bytes = answer_in what bytes
answer_of what exit.Nonzero bytes = answer_anyhow what bytes
answer_of what exit.TooLong bytes = cut_answer what bytes
answer_of what exit.NoMemory bytes = answer.NoMemory
answer_of what ended bytes = answer.Failed

-- a call is that of the command whose words it has; a child of other words, or of another program, is a stray
abbrev pub entries_of_call : Option Cmd → Call → List Entry
entries_of_call None call = entry.Stray ∷ []
entries_of_call (Some command) call =
    entry.Call command (answer_of (listed_by command) call.exit call.written) ∷ []

-- a pipe is the transfer whose words it has, as these tell it; children of other words, or of another program, are strays
abbrev pub entries_of_pipe : Option Transfer → Piped → List Entry
entries_of_pipe None pipe = entry.Stray ∷ []
entries_of_pipe (Some transfer) pipe = entry.Call (cmd.Transfer transfer) (pipe_answer pipe.exit) ∷ []

abbrev pub entries_of_line : List ℕ → Line → List Entry
entries_of_line program (line.Begin unit run) = entry.Begin unit run ∷ []
entries_of_line program (line.Call call) = entries_of_call (command_by program call.words) call
entries_of_line program (line.Pipe pipe) = entries_of_pipe (transfer_by program pipe.send pipe.receive) pipe

-- the record of a runner of children, read as commands of this program and their answers; the program stands first
abbrev pub entries_of : List ℕ → Option (List Line) → Option (List Entry)
entries_of program told = option_map (λ lines. entry.Program program ∷ flat_map (entries_of_line program) lines) told
