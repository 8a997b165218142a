use Rattle.std.proofs.Common.{◌≡◌, ℕ, Bool, true, false, List, Option, Some, None, Err, inl, inr, refl}
use Rattle.zr_cmd.proofs.Calls.{read-back}
use Rattle.zr_cmd.specs.Words.{Reads, send_from, send_of, Spells}
use Rattle.zr_cmd.specs.declared.argv.ArgvFault.{ArgvFault}
use Rattle.zr_cmd.specs.declared.argv.ArgvFault.TheVariants as fault
use Rattle.zr_cmd.specs.declared.forms.ZfsCall.{ZfsCall}
use Rattle.zr_cmd.specs.declared.forms.ZfsCall.TheVariants as call
use Rattle.zr_command.specs.declared.command.Base.{Base}
use Rattle.zr_command.specs.declared.command.Base.TheVariants as base
use Rattle.zr_command.specs.declared.command.Cmd.{Cmd}
use Rattle.zr_command.specs.declared.command.Transfer.{Transfer}
use Rattle.zr_exec.specs.Commands.{command_in}
use Rattle.zr_exec.proofs.Commands.{one_call}
use Rattle.zr_model.specs.Piping.{FindsOne, is_unspelled}

abbrev is_end : ZfsCall → Bool
is_end (call.SendFull path name) = true
is_end (call.SendFrom path mark name) = true
is_end (call.SendToken token) = true
is_end other = false

-- words that spell one end of a transfer spell no command
one-alone : (words : List (List ℕ)) (end : ZfsCall) (command : Cmd) → command_in (Some end) ≡ None → Spells words end → Spells words (call.One command) → ⊥
one-alone words end command none p q = let same = one_call words end (call.One command) p q in cc

-- words that are refused, but for want of memory, spell no call
pub unread : (words : List (List ℕ)) (why : ArgvFault) (given : ZfsCall) → is_unspelled why ≡ true → Reads words (Err why) → Spells words given → ⊥
unread words fault.UnknownCommand given is reads spelled = elim (read-back words given (Err fault.UnknownCommand) reads spelled) [
  | inl same ↦ cc
  | inr same ↦ cc
]
unread words (fault.BadWord count) given is reads spelled = reads.1 given spelled
unread words fault.NoMemory given is reads spelled = cc

sends-none : (sent : ZfsCall) (transfer : Transfer) (from : Base) → is_end sent ≡ false → sent ≡ send_from transfer from → ⊥
sends-none sent transfer base.Full none same = cc
sends-none sent transfer (base.From mark guid) none same = cc
sends-none sent transfer (base.Resume token from) none same = cc

-- no command is the sending end of a transfer
pub one_sends_none : (command : Cmd) (transfer : Transfer) → call.One command ≡ send_of transfer → ⊥
one_sends_none command transfer = sends-none (call.One command) transfer transfer.base refl

-- no receiving end is a sending end
pub receive_sends_none : (path : List ℕ) (force : Bool) (transfer : Transfer) → call.Receive path force ≡ send_of transfer → ⊥
receive_sends_none path force transfer = sends-none (call.Receive path force) transfer transfer.base refl

-- the command that a call is, by what words spell
pub found_command : (words : List (List ℕ)) (found : Option ZfsCall) → FindsOne (Spells words) found → FindsOne (λ (given : Cmd). Spells words (call.One given)) (command_in found)
found_command words None none = λ other spelled. none (call.One other) spelled
found_command words (Some (call.One command)) spelled = spelled
found_command words (Some (call.SendFull path name)) spelled = λ other one. absurd (one-alone words (call.SendFull path name) other refl spelled one)
found_command words (Some (call.SendFrom path mark name)) spelled = λ other one. absurd (one-alone words (call.SendFrom path mark name) other refl spelled one)
found_command words (Some (call.SendToken token)) spelled = λ other one. absurd (one-alone words (call.SendToken token) other refl spelled one)
found_command words (Some (call.Receive path force)) spelled = λ other one. absurd (one-alone words (call.Receive path force) other refl spelled one)
