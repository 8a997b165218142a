use Rattle.std.specs.Prelude.{ℕ, List, [], ◌∷◌, Option, Some, None, if◌then◌else◌}
use Rattle.std.specs.Option.{option_and_then}
use Rattle.zr_cmd.specs.Calls.{call_of}
use Rattle.zr_cmd.specs.declared.forms.ZfsCall.{ZfsCall}
use Rattle.zr_cmd.specs.declared.forms.ZfsCall.TheVariants as call
use Rattle.zr_command.specs.declared.command.Base.TheVariants as base
use Rattle.zr_command.specs.declared.command.Cmd.{Cmd}
use Rattle.zr_command.specs.declared.command.Transfer.{Transfer}
use Rattle.zr_command.specs.Names.{same_text}
use Rattle.zr_command.specs.Plain.{no_guid, no_name}

-- the command that is one call
abbrev pub command_in : Option ZfsCall → Option Cmd
command_in (Some (call.One command)) = Some command
command_in given = None

-- the command whose words these are
abbrev pub command_of : List (List ℕ) → Option Cmd
command_of words = command_in (call_of words)

-- the transfer whose sending and receiving ends these calls are; they name no guids, and those of a resume neither the
-- source nor the snapshot
abbrev pub transfer_in : Option ZfsCall → Option ZfsCall → Option Transfer
transfer_in (Some (call.SendFull source to)) (Some (call.Receive target force)) =
    Some (record { source = source; to = to; guid = no_guid; base = base.Full; target = target; force = force })
transfer_in (Some (call.SendFrom source mark to)) (Some (call.Receive target force)) =
    Some (record {
      source = source;
      to = to;
      guid = no_guid;
      base = base.From mark no_guid;
      target = target;
      force = force;
    })
transfer_in (Some (call.SendToken token)) (Some (call.Receive target force)) =
    Some (record {
      source = no_name;
      to = no_name;
      guid = no_guid;
      base = base.Resume token None;
      target = target;
      force = force;
    })
transfer_in send receive = None

-- the transfer whose words these are
abbrev pub transfer_of : List (List ℕ) → List (List ℕ) → Option Transfer
transfer_of send receive = transfer_in (call_of send) (call_of receive)

-- the words behind the program's name, where it is this program that was started
abbrev pub words_behind : List ℕ → List (List ℕ) → Option (List (List ℕ))
words_behind program [] = None
words_behind program (name ∷ words) = if same_text name program then Some words else None

-- the command that a child of this program with these words is
abbrev pub command_by : List ℕ → List (List ℕ) → Option Cmd
command_by program words = option_and_then command_of (words_behind program words)

abbrev pub transfer_behind : Option (List (List ℕ)) → Option (List (List ℕ)) → Option Transfer
transfer_behind (Some send) (Some receive) = transfer_of send receive
transfer_behind send receive = None

-- the transfer that two children of this program with these words are
abbrev pub transfer_by : List ℕ → List (List ℕ) → List (List ℕ) → Option Transfer
transfer_by program send receive = transfer_behind (words_behind program send) (words_behind program receive)
