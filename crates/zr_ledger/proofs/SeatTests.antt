-- The test that two seats are one.
use Rattle.std.proofs.Common.{◌≡◌, ◌==◌, ℕ, true, false, List, refl, sym, ◌∙◌, subst}
use Rattle.std.proofs.lemmas.Bool.{and_from, eq-eqb, false≢true}
use Rattle.std.specs.Cmp.Lexicographic.{nat_list_eq_equiv}
use Rattle.zr_ledger.specs.Seats.{Seat, making, pairing, same_seat, same_text, scanning, snapping}

pub same_text-itself : (text : List ℕ) → same_text text text ≡ true
same_text-itself text = nat_list_eq_equiv.refl text

pub same_seat-itself : (seat : Seat) → same_seat seat seat ≡ true
same_seat-itself (scanning job) = eq-eqb job job refl
same_seat-itself (making job) = eq-eqb job job refl
same_seat-itself (snapping path prefix) =
    and_from (same_text path path) (same_text prefix prefix) (same_text-itself path) (same_text-itself prefix)
same_seat-itself (pairing job path) =
    and_from (job == job) (same_text path path) (eq-eqb job job refl) (same_text-itself path)

-- seats that fail the test differ
pub apart : (one other : Seat) → same_seat one other ≡ false → other ≡ one → ⊥
apart one other fails same =
    false≢true (sym fails ∙ subst (λ (seat : Seat). same_seat one seat ≡ true) (sym same) (same_seat-itself one))
