-- When a turn is the end.
use Rattle.std.proofs.Common.{◌≡◌, ◌==◌, ◌<◌, Bool, true, false, cond, List, [], None, ap, ap₂, arith, length, refl, sym, ◌∙◌, inr, ⊎_elim}
use Rattle.std.proofs.lemmas.Bool.{eqb-true, false≢true}
use Rattle.std.proofs.lemmas.List.{nil_from_length}
use Rattle.zr_ledger.specs.Kept.{IsKept}
use Rattle.zr_ledger.specs.Out.{Out}
use Rattle.zr_ledger.specs.Ready.{first_ready}
use Rattle.zr_ledger.specs.Turns.{IsOver, Place, away, finished, here, idle, is_spent}
use Rattle.zr_ledger.specs.declared.state.State.{State}
use Rattle.zr_ledger.specs.declared.ticket.Turn.{Turn}
use Rattle.zr_ledger.specs.declared.ticket.Turn.TheVariants.{Ended, Wait}
use Rattle.zr_ledger.proofs.Starting.{none-waits}

none-out : (none : Bool) (outs : List Out) → (length outs == 0) ≡ none → cond none Ended Wait ≡ Ended → outs ≡ []
none-out true outs is answer = nil_from_length outs (eqb-true (length outs) 0 is)
none-out false outs is answer = cc

-- of the answers where nothing is ready one is the end
idle-ended : (clock : Place) (outs : List Out) → idle clock outs ≡ Ended → (clock ≡ finished) × (outs ≡ [])
idle-ended here outs answer = cc
idle-ended away outs answer = cc
idle-ended finished outs answer = (refl, none-out (length outs == 0) outs refl answer)

pub over-by : (s : State) (clock : Place) (answer : Turn) → IsKept s → first_ready s.limits s.waiting s.outs ≡ None → answer ≡ idle clock s.outs → answer ≡ Ended → IsOver s clock
over-by s clock answer keeps unready is ended =
    let both = idle-ended clock s.outs (sym is ∙ ended) in
    inr (both.0, none-waits s keeps both.1 unready, both.1)

pub ended-by : (s : State) (clock : Place) (answer : Turn) → is_spent s ≡ false → answer ≡ idle clock s.outs → IsOver s clock → answer ≡ Ended
ended-by s clock answer left is over =
    ⊎_elim
    (λ (spent : is_spent s ≡ true). absurd (false≢true (sym left ∙ spent)))
    (λ (end : (clock ≡ finished) × (s.waiting ≡ []) × (s.outs ≡ [])). is ∙ ap₂ idle end.0 end.2)
    over

pub waits-for-none : (s : State) → IsKept s → first_ready s.limits s.waiting s.outs ≡ None → s.outs ≡ [] → 0 < length s.waiting → ⊥
waits-for-none s keeps unready none some =
    let empty = ap length (none-waits s keeps none unready) in absurd (omega arith)
