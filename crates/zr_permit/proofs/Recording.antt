use Rattle.std.proofs.Common.{◌≡◌, ◌∙◌, List, [], ◌∷◌, ◌++◌, Option, Some, None, ap, inl, inr, refl, sym, append_assoc}
use Rattle.zr_command.specs.declared.command.Answer.{Answer}
use Rattle.zr_command.specs.declared.command.Answer.TheVariants as answer
use Rattle.zr_command.specs.declared.command.Cmd.{Cmd}
use Rattle.zr_command.specs.declared.command.Entry.{Entry}
use Rattle.zr_command.specs.declared.command.Entry.TheVariants.{Call}
use Rattle.zr_world.specs.Answering.{appended, Logs}
use Rattle.zr_command.specs.Plain.{plain}
use Rattle.zr_permit.specs.Transcript.{Transcript}
use Rattle.zr_permit.specs.Turned.{calls, IsRecordOf, IsRecordAfter, told_of}

calls-more : (turns : Transcript) (command : Cmd) (given : Answer) → calls (turns ++ (command, given) ∷ []) ≡ calls turns ++ Call (plain command) given ∷ []
calls-more [] command given = refl
calls-more (turn ∷ turns) command given = ap (λ es. Call (plain turn.0) turn.1 ∷ es) (calls-more turns command given)

-- one call more in a record
records-more : (base before now : Option (List Entry)) (turns : Transcript) (command : Cmd) (given : Answer) → IsRecordOf base before turns → now ≡ appended before (Call (plain command) given ∷ []) → IsRecordOf base now (turns ++ (command, given) ∷ [])
records-more None before now turns command given records more =
    more ∙ ap (λ b. appended b (Call (plain command) given ∷ [])) records
records-more (Some entries) before now turns command given records more =
    more ∙ ap (λ b. appended b (Call (plain command) given ∷ [])) records
    ∙ ap Some (append_assoc entries (calls turns) (Call (plain command) given ∷ []))
    ∙ ap (λ es. Some (entries ++ es)) (sym (calls-more turns command given))

-- an allowed call, as it was logged
pub records-run : (base before now : Option (List Entry)) (turns : Transcript) (command : Cmd) (given : Answer) → Logs before now (plain command) given → IsRecordOf base before turns → IsRecordAfter base now turns (turns ++ (command, given) ∷ []) command (told_of given)
records-run base before now turns command (answer.Done reply) logs records =
    records-more base before now turns command (answer.Done reply) records logs
records-run base before now turns command answer.Failed logs records =
    records-more base before now turns command answer.Failed records logs
records-run base before now turns command (answer.Garbled line) logs records =
    records-more base before now turns command (answer.Garbled line) records logs
records-run base before now turns command answer.NoMemory logs records =
    elim logs [
      | inl same ↦ inr (refl, inl (same ∙ records))
      | inr logged ↦ inr (refl, inr (logged.0, records-more base before now turns command logged.0 records logged.1))
    ]
