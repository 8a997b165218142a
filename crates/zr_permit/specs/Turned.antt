use Rattle.std.specs.Prelude.{◌≡◌, ◌⊎◌, Bool, true, false, List, [], ◌∷◌, ◌++◌, ◌-◌, Option, length, map, option_map, slice_get}
use Rattle.zr_command.specs.declared.command.Answer.{Answer}
use Rattle.zr_command.specs.declared.command.Answer.TheVariants as answer
use Rattle.zr_command.specs.declared.command.Cmd.{Cmd}
use Rattle.zr_command.specs.declared.command.Entry.{Entry}
use Rattle.zr_command.specs.declared.command.Entry.TheVariants.{Call}
use Rattle.zr_world.specs.Answering.{appended, IsReplyTo}
use Rattle.zr_command.specs.Plain.{plain}
use Rattle.zr_permit.specs.declared.told.Told.{Told}
use Rattle.zr_permit.specs.declared.told.Told.TheVariants as told
use Rattle.zr_names.specs.declared.outcome.Outcome.{Outcome}
use Rattle.zr_names.specs.declared.outcome.Outcome.TheVariants as outcome
use Rattle.zr_permit.specs.Transcript.{Transcript, Turn}

-- what a unit is told of an answer
abbrev pub told_of : Answer → Told
told_of (answer.Done given) = told.Done
told_of answer.Failed = told.Failed
told_of (answer.Garbled line) = told.Garbled line
told_of answer.NoMemory = told.NoMemory

abbrev pub is_no_memory : Told → Bool
is_no_memory told.NoMemory = true
is_no_memory other = false

-- how the last command was answered
abbrev pub last_answer : Transcript → Option Answer
last_answer turns = option_map (λ (turn : Turn). turn.1) (slice_get turns (length turns - 1))

-- the entries of a runner's record for some turns: a command stands as its words tell it
abbrev pub calls : Transcript → List Entry
calls turns = map (λ (turn : Turn). Call (plain turn.0) turn.1) turns

-- one command was given and answered: it stands last in the transcript
pub record HasTurned (before after : Transcript) (command : Cmd) (given : Told) : Type 0 where
  pub got : Answer
  pub told_is : given ≡ told_of got
  pub turns_are : after ≡ before ++ (command, got) ∷ []
  pub shape : IsReplyTo command got

-- after a run the command was answered; where memory was refused first, no child was started
abbrev pub Turns : Transcript → Transcript → Cmd → Told → Type 0
Turns before after command told.NoMemory =
    (after ≡ before) ⊎ (after ≡ before ++ (command, answer.NoMemory) ∷ [])
Turns before after command given = HasTurned before after command given

-- a runner's record begins with a base and goes on with the calls of a transcript
abbrev pub IsRecordOf : Option (List Entry) → Option (List Entry) → Transcript → Type 0
IsRecordOf base now turns = now ≡ appended base (calls turns)

-- a record that has the calls of some turns, and at its end perhaps one of a further command, with any answer
abbrev pub RecordsCut : Option (List Entry) → Option (List Entry) → Transcript → Cmd → Type 0
RecordsCut base now turns command =
    IsRecordOf base now turns ⊎ ((got : Answer) × IsRecordOf base now (turns ++ (command, got) ∷ []))

-- after a run the record goes on with the calls of the new transcript. Where memory was refused, either no child was started,
-- and record and transcript are as before; or the one call was answered and stands last, with want of memory for its
-- answer, and in the record its call may be missing or stand with another answer
abbrev pub IsRecordAfter : Option (List Entry) → Option (List Entry) → Transcript → Transcript → Cmd → Told → Type 0
IsRecordAfter base now before after command told.NoMemory =
    ((after ≡ before) × IsRecordOf base now before)
    ⊎ ((after ≡ before ++ (command, answer.NoMemory) ∷ []) × RecordsCut base now before command)
IsRecordAfter base now before after command given = IsRecordOf base now after

-- a record that has the calls of a transcript whose last one was answered by want of memory: its call may be missing, or
-- stand with another answer
pub record RecordsShort (base now : Option (List Entry)) (turns : Transcript) : Type 0 where
  pub before : Transcript
  pub command : Cmd
  pub turns_are : turns ≡ before ++ (command, answer.NoMemory) ∷ []
  pub cut : RecordsCut base now before command

-- the record once the unit has its outcome
abbrev pub IsRecordOfUnit : Option (List Entry) → Option (List Entry) → Transcript → Outcome → Type 0
IsRecordOfUnit base now turns outcome.NoMemory = IsRecordOf base now turns ⊎ RecordsShort base now turns
IsRecordOfUnit base now turns other = IsRecordOf base now turns
