use Rattle.std.proofs.Common.{◌∙◌, ap, sym, subst, List, ℕ, not, find}
use Rattle.zr_command.specs.Names.{same_text}
use Rattle.zr_replicate.specs.Settlement.{IsOtherName}
use Rattle.zr_replicate.proofs.Marking.{no-other-name, other-name}
use Rattle.zr_replicate.proofs.settlement.other_last.Goals as goal

pub returns-in_ok-same-in-Some : goal.returns-in_ok-same-in-Some
returns-in_ok-same-in-Some c =
    let held = c.args.known.now.target.held in
    let own = c.args.newest.now.name in
    let found = ap (find (λ (other : List ℕ). not (same_text other own))) (sym c.as_slice.ensures) ∙ sym c.in-Some.ensures in
    subst (λ (name : List ℕ). IsOtherName held own name) (sym c.in_ok-same-in-Some.ensures) (other-name held own c.in-Some.name.now found)

pub returns-in-None : goal.returns-in-None
returns-in-None c =
    let own = c.args.newest.now.name in
    no-other-name c.args.known.now.target.held own (ap (find (λ (other : List ℕ). not (same_text other own))) (sym c.as_slice.ensures) ∙ sym c.in-None.ensures)
