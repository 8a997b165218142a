use Rattle.std.proofs.Common.{◌≡◌, [], ◌∷◌, ◌++◌, subst, sym, append_assoc, append-nil}
use Rattle.zr_names.specs.declared.unit.Unit.{Unit}
use Rattle.zr_command.specs.declared.command.Answer.{Answer}
use Rattle.zr_command.specs.declared.command.Cmd.{Cmd}
use Rattle.zr_jobset.specs.Sets.{Jobs}
use Rattle.std.specs.List.{All}
use Rattle.zr_permit.specs.Transcript.{Allowed, GoesOn, LegalAfter, Legal, Transcript}

legal_after-more : (jobs : Jobs) (unit : Unit) (past turns : Transcript) (command : Cmd) (given : Answer) → LegalAfter jobs unit past turns → Allowed jobs unit (past ++ turns) command → LegalAfter jobs unit past (turns ++ (command, given) ∷ [])
legal_after-more jobs unit past [] command given legal allowed =
    let allows : Transcript → Type 0 = λ ts. Allowed jobs unit ts command in
    (subst allows (append-nil past) allowed, tt)
legal_after-more jobs unit past (turn ∷ turns) command given legal allowed =
    let allows : Transcript → Type 0 = λ ts. Allowed jobs unit ts command in
    let same : past ++ turn ∷ turns ≡ (past ++ turn ∷ []) ++ turns = sym (append_assoc past (turn ∷ []) turns) in
    (legal.0, legal_after-more jobs unit (past ++ turn ∷ []) turns command given legal.1 (subst allows same allowed))

-- a legal transcript stays legal with an allowed command, however it is answered
pub legal-more : (jobs : Jobs) (unit : Unit) (turns : Transcript) (command : Cmd) (given : Answer) → Legal jobs unit turns → Allowed jobs unit turns command → Legal jobs unit (turns ++ (command, given) ∷ [])
legal-more jobs unit turns command given legal allowed =
    legal_after-more jobs unit [] turns command given legal allowed

-- what stands before the last turn of a legal transcript is legal, and each of its turns lets the unit go on
legal_after-front : (jobs : Jobs) (unit : Unit) (past turns : Transcript) (command : Cmd) (given : Answer) → LegalAfter jobs unit past (turns ++ (command, given) ∷ []) → LegalAfter jobs unit past turns × Allowed jobs unit (past ++ turns) command
legal_after-front jobs unit past [] command given legal =
    let allows : Transcript → Type 0 = λ ts. Allowed jobs unit ts command in
    (tt, subst allows (sym (append-nil past)) legal.0)
legal_after-front jobs unit past (turn ∷ turns) command given legal =
    let allows : Transcript → Type 0 = λ ts. Allowed jobs unit ts command in
    let rest = legal_after-front jobs unit (past ++ turn ∷ []) turns command given legal.1 in
    ((legal.0, rest.0), subst allows (append_assoc past (turn ∷ []) turns) rest.1)

pub legal-front : (jobs : Jobs) (unit : Unit) (turns : Transcript) (command : Cmd) (given : Answer) → Legal jobs unit (turns ++ (command, given) ∷ []) → Legal jobs unit turns × All (λ turn. GoesOn unit.work turn.0 turn.1) turns
legal-front jobs unit turns command given legal =
    let parts = legal_after-front jobs unit [] turns command given legal in
    (parts.0, parts.1.goes_on)

-- a legal transcript stays legal where its last command is answered otherwise
pub legal-answered : (jobs : Jobs) (unit : Unit) (turns : Transcript) (command : Cmd) (given other : Answer) → Legal jobs unit (turns ++ (command, given) ∷ []) → Legal jobs unit (turns ++ (command, other) ∷ [])
legal-answered jobs unit turns command given other legal =
    let parts = legal_after-front jobs unit [] turns command given legal in
    legal-more jobs unit turns command other parts.0 parts.1
