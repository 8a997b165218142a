-- The tests of seats and tickets pass exactly where the two are one.
use Rattle.std.proofs.Common.{◌≡◌, ◌==◌, ◌&&◌, ℕ, true, Decides, List, ap, ap₂, refl, subst, ◌∙◌}
use Rattle.std.specs.Cmp.Lexicographic.{bytes_decides}
use Rattle.std.proofs.lemmas.Bool.{and_from, and_parts, eq-eqb, eqb-true, false≢true}
use Rattle.zr_names.specs.declared.unit.Unit.{Unit}
use Rattle.zr_names.specs.declared.unit.Work.{Work}
use Rattle.zr_names.specs.declared.unit.Work.TheVariants.{Scan, Parents, Snap, Replicate, PruneSource, PruneTarget}
use Rattle.zr_ledger.specs.Out.{Out}
use Rattle.zr_ledger.specs.Ready.{is_ticket}
use Rattle.zr_ledger.specs.Seats.{Seat, making, pairing, same_key, same_kind, same_seat, same_text, same_unit, scanning, seat_at, seat_of, snapping}
use Rattle.zr_ledger.proofs.Numbers.{same_kind-itself}
use Rattle.zr_ledger.proofs.SeatTests.{same_seat-itself}

same-text : (a b : List ℕ) → same_text a b ≡ true → a ≡ b
same-text a b is = (bytes_decides a b).0 is

one-seat : (a b : Seat) → same_seat a b ≡ true → a ≡ b
one-seat (scanning a) (scanning b) is = ap scanning (eqb-true a b is)
one-seat (making a) (making b) is = ap making (eqb-true a b is)
one-seat (snapping a prefix) (snapping b other) is =
    let both = and_parts (same_text a b) (same_text prefix other) is in
    ap₂ snapping (same-text a b both.0) (same-text prefix other both.1)
one-seat (pairing a path) (pairing b other) is =
    let both = and_parts (a == b) (same_text path other) is in
    ap₂ pairing (eqb-true a b both.0) (same-text path other both.1)
one-seat a b is = absurd (false≢true is)

pub seats-apart : (a b : Seat) → Decides (same_seat a b) (a ≡ b)
seats-apart a b = (one-seat a b, λ same. subst (λ (seat : Seat). same_seat a seat ≡ true) same (same_seat-itself a))

one-work : (job other : ℕ) (a b : Work) → (same_kind a b && same_seat (seat_at job a) (seat_at other b)) ≡ true → a ≡ b
one-work job other Scan Scan is = refl
one-work job other Parents Parents is = refl
one-work job other (Snap a prefix) (Snap b next) is =
    let both = and_parts (same_text a b) (same_text prefix next) is in
    ap₂ Snap (same-text a b both.0) (same-text prefix next both.1)
one-work job other (Replicate a) (Replicate b) is = ap Replicate (same-text a b (and_parts (job == other) (same_text a b) is).1)
one-work job other (PruneSource a) (PruneSource b) is = ap PruneSource (same-text a b (and_parts (job == other) (same_text a b) is).1)
one-work job other (PruneTarget a) (PruneTarget b) is = ap PruneTarget (same-text a b (and_parts (job == other) (same_text a b) is).1)
one-work job other a b is = absurd (false≢true is)

one-unit : (a b : Unit) → same_unit a b ≡ true → a ≡ b
one-unit a b is =
    let parts = and_parts ((a.job == b.job) && (a.moment == b.moment)) (same_key a b) is in
    let numbers = and_parts (a.job == b.job) (a.moment == b.moment) parts.0 in
    let whole : ℕ → ℕ → Work → Unit = λ job moment work. record { job = job; moment = moment; work = work } in
    ap₂ (λ (job moment : ℕ). whole job moment a.work) (eqb-true a.job b.job numbers.0) (eqb-true a.moment b.moment numbers.1)
    ∙ ap (whole b.job b.moment) (one-work a.job b.job a.work b.work parts.1)

unit-itself : (unit : Unit) → same_unit unit unit ≡ true
unit-itself unit =
    and_from ((unit.job == unit.job) && (unit.moment == unit.moment)) (same_key unit unit)
    (and_from (unit.job == unit.job) (unit.moment == unit.moment) (eq-eqb unit.job unit.job refl) (eq-eqb unit.moment unit.moment refl))
    (and_from (same_kind unit.work unit.work) (same_seat (seat_of unit) (seat_of unit)) (same_kind-itself unit.work) (same_seat-itself (seat_of unit)))

one-ticket : (a b : Out) → is_ticket a b ≡ true → a ≡ b
one-ticket a b is =
    let both = and_parts (a.run == b.run) (same_unit a.unit b.unit) is in
    let whole : Unit → ℕ → Out = λ unit run. record { unit = unit; run = run } in
    ap₂ whole (one-unit a.unit b.unit both.1) (eqb-true a.run b.run both.0)

pub tickets-apart : (a b : Out) → Decides (is_ticket a b) (a ≡ b)
tickets-apart a b = (
  one-ticket a b,
  λ same. subst (λ (out : Out). is_ticket a out ≡ true) same
      (and_from (a.run == a.run) (same_unit a.unit a.unit) (eq-eqb a.run a.run refl) (unit-itself a.unit)),
)
