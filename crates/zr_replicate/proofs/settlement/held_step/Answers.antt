use Rattle.std.proofs.Common.{◌∙◌, ap, sym, subst, List, ℕ, true, ◌≡◌, slice_get}
use Rattle.zr_known.specs.Known.{is_among}
use Rattle.zr_replicate.proofs.Lists.{none-first}
use Rattle.zr_replicate.proofs.Marking.{first-among}
use Rattle.zr_replicate.proofs.settlement.held_step.Goals as goal

pub returns-in_ok-same-in-Some : goal.returns-in_ok-same-in-Some
returns-in_ok-same-in-Some c =
    let held = c.args.known.now.source.held in
    let first = ap (λ (names : List (List ℕ)). slice_get names 0) (sym c.as_slice.ensures) ∙ sym c.in-Some.ensures in
    subst (λ (name : List ℕ). is_among held name ≡ true) (sym c.in_ok-same-in-Some.ensures) (first-among held c.in-Some.name.now first)

pub returns-in-None : goal.returns-in-None
returns-in-None c =
    none-first c.args.known.now.source.held (ap (λ (names : List (List ℕ)). slice_get names 0) (sym c.as_slice.ensures) ∙ sym c.in-None.ensures)
