use Rattle.std.specs.Prelude.{◌≡◌, ◌==◌, ℕ, ◌+◌, List, count_by, ⊤}
use Rattle.zr_exec.specs.declared.spawn.PipeExit.{PipeExit}
use Rattle.zr_exec.specs.declared.spawn.PipeExit.TheVariants as piped
use Rattle.zr_exec.specs.declared.spawn.RunExit.{RunExit}
use Rattle.zr_exec.specs.declared.spawn.RunExit.TheVariants as exit
use Rattle.zr_exec.specs.Listed.{Listed}
use Rattle.zr_exec.specs.Listed as listed
use Rattle.zr_exec.specs.Serving.{IsReply, IsReplyAnyhow}
use Rattle.zr_listing.specs.Columns.{full_name, IsHoldLine, IsSetLine, IsVersionLine}
use Rattle.zr_listing.specs.Lines.{IsFirstBad}
use Rattle.zr_listing.specs.TokenFault.{IsFirstBadTokenLine}
use Rattle.zr_listing.specs.declared.faults.ListFault.{ListFault}
use Rattle.zr_listing.specs.declared.faults.ListFault.TheVariants as fault
use Rattle.zr_command.specs.declared.command.Answer.{Answer}
use Rattle.zr_command.specs.declared.command.Answer.TheVariants as answer
use Rattle.zr_command.specs.declared.command.Reply.TheVariants as reply

abbrev pub newlines : List ℕ → ℕ
newlines bytes = count_by (λ b. b == 10) bytes

-- the bytes are not the listing that was asked for, and this is their first bad line
abbrev pub IsGarbledAt : Listed → List ℕ → ℕ → Type 0
IsGarbledAt listed.sets bytes line = IsFirstBad IsSetLine (λ row. row.path) bytes line
IsGarbledAt (listed.versions path) bytes line =
    IsFirstBad (IsVersionLine path) (λ row. full_name path row.name) bytes line
IsGarbledAt (listed.holds path name) bytes line = IsFirstBad (IsHoldLine path name) (λ tag. tag) bytes line
IsGarbledAt listed.token bytes line = IsFirstBadTokenLine bytes line
IsGarbledAt listed.nothing bytes line = ⊥

-- a listing that was too long is garbled behind its last whole line
abbrev pub IsCutAt : Listed → List ℕ → ℕ → Type 0
IsCutAt listed.nothing bytes line = ⊥
IsCutAt what bytes line = line ≡ newlines bytes + 1

-- what a listing's fault is to a command
abbrev pub refusal_of : ListFault → Answer
refusal_of (fault.Garbled line) = answer.Garbled line
refusal_of fault.NoMemory = answer.NoMemory

-- another status than 0 is a failure of the command, but for contents of a token, which have to be bad too
abbrev pub IsFailedStatus : Listed → List ℕ → Type 0
IsFailedStatus listed.token bytes = (line : ℕ) × IsGarbledAt listed.token bytes line
IsFailedStatus what bytes = ⊤

-- an end that is a failure of the command; what is too long is one where nothing is listed
abbrev pub IsFailure : Listed → RunExit → List ℕ → Type 0
IsFailure what exit.Nonzero bytes = IsFailedStatus what bytes
IsFailure what exit.Failed bytes = ⊤
IsFailure listed.nothing exit.TooLong bytes = ⊤
IsFailure what given bytes = ⊥

-- how a command is answered by a child's end and bytes: a reply or a garbled listing by its bytes, where it ended well;
-- contents of a token reply also with another status; a listing that is too long is garbled; every other end is a failure;
-- memory may be refused at any end
abbrev pub IsAnswer : Listed → RunExit → List ℕ → Answer → Type 0
IsAnswer what exit.Done bytes (answer.Done given) = IsReply what bytes given
IsAnswer what exit.Nonzero bytes (answer.Done given) = IsReplyAnyhow what bytes given
IsAnswer what exit.Done bytes (answer.Garbled line) = IsGarbledAt what bytes line
IsAnswer what exit.TooLong bytes (answer.Garbled line) = IsCutAt what bytes line
IsAnswer what ended bytes answer.Failed = IsFailure what ended bytes
IsAnswer what ended bytes answer.NoMemory = ⊤
IsAnswer what ended bytes given = ⊥

-- the answer to a transfer by its pipe's end
abbrev pub pipe_answer : PipeExit → Answer
pipe_answer piped.Done = answer.Done reply.Nothing
pipe_answer piped.Failed = answer.Failed
pipe_answer piped.NoMemory = answer.NoMemory
