use Rattle.std.proofs.Common.{◌≡◌, ℕ, Bool, if◌then◌else◌, List, ◌∷◌, Option, Some, None, drop, refl, ap, ◌∙◌, sym, subst}
use Rattle.zr_cmd.proofs.Calls.{found, found-spelled, one-call}
use Rattle.zr_cmd.specs.Calls.{call_of}
use Rattle.zr_cmd.specs.Words.{IsNamed, receive_of, send_from, send_of, Spells, words_of}
use Rattle.zr_cmd.specs.declared.forms.ZfsCall.{ZfsCall}
use Rattle.zr_cmd.specs.declared.forms.ZfsCall.TheVariants as call
use Rattle.zr_command.specs.declared.command.Base.{Base}
use Rattle.zr_command.specs.declared.command.Base.TheVariants as base
use Rattle.zr_command.specs.declared.command.Cmd.{Cmd}
use Rattle.zr_command.specs.declared.command.Cmd.TheVariants as cmd
use Rattle.zr_command.specs.declared.command.Transfer.{Transfer}
use Rattle.zr_command.specs.Plain.{plain, plain_from, plain_transfer}
use Rattle.std.specs.Option.{option_and_then}
use Rattle.zr_exec.specs.Commands.{command_by, command_in, command_of, transfer_behind, transfer_by, transfer_in, transfer_of, words_behind}
use Rattle.zr_exec.specs.Serving.{SpellsPipe}
use Rattle.zr_exec.proofs.Names.{same_itself}

read : (words : List (List ℕ)) (given : ZfsCall) → Spells words given → call_of words ≡ Some given
read words given spelled = ap call_of spelled.same ∙ found given spelled.named

-- words that spell a command are read as it
pub command_of-spelled : (words : List (List ℕ)) (command : Cmd) → Spells words (call.One command) → command_of words ≡ Some command
command_of-spelled words command spelled = ap command_in (read words (call.One command) spelled)

-- words spell one call at most
pub one_call : (words : List (List ℕ)) (one other : ZfsCall) → Spells words one → Spells words other → one ≡ other
one_call words one other p q = one-call one other p.named q.named (sym p.same ∙ q.same)

-- words spell one command at most
pub one_command : (words : List (List ℕ)) (one other : Cmd) → Spells words (call.One one) → Spells words (call.One other) → one ≡ other
one_command words one other p q =
    let a = command_of-spelled words one p in
    let b = command_of-spelled words other q in
    cc

-- words that are read as a command are its words
pub words_of-read : (words : List (List ℕ)) (command : Cmd) → command_of words ≡ Some command → words ≡ words_of (call.One command)
words_of-read words command is = choose (call_of words) refl is where
  choose : (given : Option ZfsCall) → call_of words ≡ given → command_in given ≡ Some command → words ≡ words_of (call.One command)
  choose None e is = cc
  choose (Some (call.One one)) e is =
      let same : one ≡ command = cc in
      subst (λ (c : Cmd). words ≡ words_of (call.One c)) same (sym (found-spelled words (call.One one) e))
  choose (Some (call.SendFull path name)) e is = cc
  choose (Some (call.SendFrom path mark name)) e is = cc
  choose (Some (call.SendToken token)) e is = cc
  choose (Some (call.Receive path force)) e is = cc

ends : (transfer : Transfer) (from : Base) → transfer_in (Some (send_from transfer from)) (Some (receive_of transfer)) ≡ Some (plain_from transfer from)
ends transfer base.Full = refl
ends transfer (base.From mark guid) = refl
ends transfer (base.Resume token from) = refl

-- words that spell the ends of a transfer are read as it, without guids
pub transfer_of-spelled : (send receive : List (List ℕ)) (transfer : Transfer) → SpellsPipe send receive transfer → transfer_of send receive ≡ Some (plain_transfer transfer)
transfer_of-spelled send receive transfer spelled =
    ap (λ s. transfer_in s (call_of receive)) (read send (send_of transfer) spelled.sends)
    ∙ ap (transfer_in (Some (send_of transfer))) (read receive (receive_of transfer) spelled.receives)
    ∙ ends transfer transfer.base

-- words spell the ends of one transfer at most, but for its guids
pub one_transfer : (send receive : List (List ℕ)) (one other : Transfer) → SpellsPipe send receive one → SpellsPipe send receive other → plain_transfer one ≡ plain_transfer other
one_transfer send receive one other p q =
    let a = transfer_of-spelled send receive one p in
    let b = transfer_of-spelled send receive other q in
    some-same (plain_transfer one) (plain_transfer other) (sym a ∙ b) where
      some-same : (x y : Transfer) → Some x ≡ Some y → x ≡ y
      some-same x y e = cc

-- a command that is one call names no guids
pub plain_named : (command : Cmd) → IsNamed (call.One command) → plain command ≡ command
plain_named cmd.Sets named = refl
plain_named (cmd.Versions path) named = refl
plain_named (cmd.Holds path name) named = refl
plain_named (cmd.Token token) named = refl
plain_named (cmd.Snapshot path name) named = refl
plain_named (cmd.Hold kind job path name) named = refl
plain_named (cmd.Release kind job path name) named = refl
plain_named (cmd.Bookmark path from mark) named = refl
plain_named (cmd.DestroySnaps path names) named = refl
plain_named (cmd.DestroyMark path mark) named = refl
plain_named (cmd.Create path) named = refl
plain_named (cmd.Abort path) named = refl
plain_named (cmd.Transfer transfer) named = absurd named

-- the words start a child of this program for the command
pub record StartsOne (program : List ℕ) (all : List (List ℕ)) (command : Cmd) : Type 0 where
  pub by : words_behind program all ≡ Some (drop 1 all)
  pub spelled : Spells (drop 1 all) (call.One command)

-- the words start two children of this program, the ends of the transfer
pub record StartsEnds (program : List ℕ) (send receive : List (List ℕ)) (transfer : Transfer) : Type 0 where
  pub send_by : words_behind program send ≡ Some (drop 1 send)
  pub receive_by : words_behind program receive ≡ Some (drop 1 receive)
  pub spelled : SpellsPipe (drop 1 send) (drop 1 receive) transfer

-- behind a program's own name stand the other words
pub behind_itself : (program : List ℕ) (words : List (List ℕ)) → words_behind program (program ∷ words) ≡ Some words
behind_itself program words = ap (λ (b : Bool). if b then Some words else None) (same_itself program)

-- what is started for a command is read as it
pub command_by-started : (program : List ℕ) (all : List (List ℕ)) (command : Cmd) → StartsOne program all command → command_by program all ≡ Some command
command_by-started program all command starts =
    ap (option_and_then command_of) starts.by ∙ command_of-spelled (drop 1 all) command starts.spelled

-- what is started for a transfer is read as it, without guids
pub transfer_by-started : (program : List ℕ) (send receive : List (List ℕ)) (transfer : Transfer) → StartsEnds program send receive transfer → transfer_by program send receive ≡ Some (plain_transfer transfer)
transfer_by-started program send receive transfer starts =
    ap (λ s. transfer_behind s (words_behind program receive)) starts.send_by
    ∙ ap (transfer_behind (Some (drop 1 send))) starts.receive_by
    ∙ transfer_of-spelled (drop 1 send) (drop 1 receive) transfer starts.spelled
