-- Each step keeps what is true of the state of every ledger.
use Rattle.std.proofs.Common.{◌≡◌, ◌≢◌, ◌==◌, ◌&&◌, not, ◌+◌, ◌<◌, ℕ, Bool, true, false, cond, List, [], ◌∷◌, ◌++◌, Some, All, AllPairs, count_by, get_or, length, remove, slice_get, slice_index, refl, sym, ap, ◌∙◌, subst, arith, ltb}
use Rattle.std.proofs.lemmas.Bool.{and_parts, eqb-true, false≢true, ltb-true, not-true}
use Rattle.std.proofs.lemmas.List.Elements.{All-get_or, All-head, All-nil, All-push, All-tail}
use Rattle.std.proofs.lemmas.List.Quantifiers.{all_pairs_push, all_pairs_remove, position-Some}
use Rattle.std.proofs.lemmas.Option.{get_or_from_slice_get}
use Rattle.zr_names.specs.Totals.{plus}
use Rattle.zr_names.specs.declared.outcome.Outcome.{Outcome}
use Rattle.zr_names.specs.declared.unit.Unit.{Unit}
use Rattle.zr_names.specs.declared.unit.Work.{Work}
use Rattle.zr_names.specs.declared.unit.Work.TheVariants.{Scan, Parents, Snap, Replicate, PruneSource, PruneTarget}
use Rattle.zr_ledger.specs.Kept.{AllowsSome, HasLimit, IsWithinLimits, IsKept}
use Rattle.zr_ledger.specs.Out.{Out}
use Rattle.zr_ledger.specs.Ready.{count_out, first_ready, is_free, is_live, is_out, is_ready, is_within}
use Rattle.zr_ledger.specs.Seats.{has_key, is_ancestor_of, is_replicate, is_replicate_of, is_scan, is_snap_of, same_kind, same_seat, seat_of}
use Rattle.zr_ledger.specs.Steps.{ended, is_new, joined, joined_all, joins, nothing, number_of, raised, recalled, started, with_run}
use Rattle.zr_ledger.specs.declared.limits.Limits.{Limits}
use Rattle.zr_ledger.specs.declared.state.State.{State}
use Rattle.zr_ledger.proofs.Numbers.{after_add, after_take, number_of-none, number_of-raised}
use Rattle.zr_ledger.proofs.SeatTests.{apart}
use Rattle.zr_ledger.proofs.Steady.{All-remove, count_by-push, count_by-remove, fails_at, within_push, within_remove}

abbrev Apart : Out → Out → Type 0
Apart a b = seat_of a.unit ≢ seat_of b.unit

-- a unit whose seat is not out may join those that are out
seats-push : (outs : List Out) (out : Out) → is_out (λ other. same_seat (seat_of out.unit) (seat_of other)) outs ≡ false → AllPairs Apart outs → AllPairs Apart (outs ++ out ∷ [])
seats-push outs out free seats =
    all_pairs_push Apart outs out seats (λ k d within.
    apart (seat_of out.unit) (seat_of (get_or outs k d).unit)
    (fails_at (λ (other : Out). same_seat (seat_of out.unit) (seat_of other.unit)) outs k d free within))

first : (a b c d e : Bool) → (a && b && c && d && e) ≡ true → a ≡ true
first true b c d e all = refl
first false b c d e all = all

-- a replication that is free is within the limits
free-within : (limits : Limits) (waiting : List Unit) (outs : List Out) (job : ℕ) (work : Work) → is_replicate work ≡ true → is_free limits waiting outs job work ≡ true → is_within limits outs job ≡ true
free-within limits waiting outs job Scan is free = absurd (false≢true is)
free-within limits waiting outs job Parents is free = absurd (false≢true is)
free-within limits waiting outs job (Snap path prefix) is free = absurd (false≢true is)
free-within limits waiting outs job (PruneSource path) is free = absurd (false≢true is)
free-within limits waiting outs job (PruneTarget path) is free = absurd (false≢true is)
free-within limits waiting outs job (Replicate path) is free =
    first (is_within limits outs job)
    (not (is_live (λ (unit : Unit). is_scan unit.work) waiting outs))
    (not (is_live (has_key job Parents) waiting outs))
    (not (is_live (λ (unit : Unit). is_snap_of path unit.work) waiting outs))
    (not (is_live (is_ancestor_of job path) waiting outs)) free

-- so fewer are out than each of the two allows
free-below : (limits : Limits) (waiting : List Unit) (outs : List Out) (job : ℕ) (work : Work) → is_free limits waiting outs job work ≡ true → is_replicate work ≡ true → (count_out (is_replicate_of job) outs < slice_index limits.steps job) × (count_out (λ (unit : Unit). is_replicate unit.work) outs < limits.replicators)
free-below limits waiting outs job work free is =
    let both = and_parts (ltb (count_out (is_replicate_of job) outs) (slice_index limits.steps job)) (ltb (count_out (λ (unit : Unit). is_replicate unit.work) outs) limits.replicators) (free-within limits waiting outs job work is free) in (
      ltb-true (count_out (is_replicate_of job) outs) (slice_index limits.steps job) both.0,
      ltb-true (count_out (λ (unit : Unit). is_replicate unit.work) outs) limits.replicators both.1,
    )

-- the same of a job's own
free-of : (limits : Limits) (waiting : List Unit) (outs : List Out) (unit : Unit) (job : ℕ) → is_free limits waiting outs unit.job unit.work ≡ true → is_replicate_of job unit ≡ true → count_out (is_replicate_of job) outs < slice_index limits.steps job
free-of limits waiting outs unit job free is =
    let both = and_parts (unit.job == job) (is_replicate unit.work) is in
    subst (λ (j : ℕ). count_out (is_replicate_of j) outs < slice_index limits.steps j)
    (eqb-true unit.job job both.0)
    (free-below limits waiting outs unit.job unit.work free both.1).0

-- the limits hold once a unit that is free has joined those that are out
limits-push : (limits : Limits) (waiting : List Unit) (outs : List Out) (out : Out) → is_free limits waiting outs out.unit.job out.unit.work ≡ true → IsWithinLimits limits outs → IsWithinLimits limits (outs ++ out ∷ [])
limits-push limits waiting outs out free so = record {
  steps = λ job has. within_push (λ (other : Out). is_replicate_of job other.unit) outs out (slice_index limits.steps job) (so.steps job has) (free-of limits waiting outs out.unit job free);
  replicators = within_push (λ (other : Out). is_replicate other.unit.work) outs out limits.replicators so.replicators (λ is. (free-below limits waiting outs out.unit.job out.unit.work free is).1);
}

limits-remove : (limits : Limits) (outs : List Out) (place : ℕ) (out : Out) → place < length outs → IsWithinLimits limits outs → IsWithinLimits limits (remove outs place)
limits-remove limits outs place out within so = record {
  steps = λ job has. within_remove (λ (other : Out). is_replicate_of job other.unit) outs place out (slice_index limits.steps job) within (so.steps job has);
  replicators = within_remove (λ (other : Out). is_replicate other.unit.work) outs place out limits.replicators within so.replicators;
}

-- of each kind, once the unit at a place is taken
numbers-taken : (s : State) (place : ℕ) (unit : Unit) (work : Work) → IsKept s → place < length s.waiting → get_or s.waiting place unit ≡ unit → number_of work s.counts.accepted ≡ plus (number_of work (raised unit.work s.counts.taken)) (count_by (λ (other : Unit). same_kind work other.work) (remove s.waiting place))
numbers-taken s place unit work keeps within is =
    let left : count_by (λ (other : Unit). same_kind work other.work) (remove s.waiting place) + cond (same_kind work unit.work) 1 0 ≡ count_by (λ (other : Unit). same_kind work other.work) s.waiting =
    subst (λ (x : Unit). count_by (λ (other : Unit). same_kind work other.work) (remove s.waiting place) + cond (same_kind work x.work) 1 0 ≡ count_by (λ (other : Unit). same_kind work other.work) s.waiting) is
    (count_by-remove (λ (other : Unit). same_kind work other.work) s.waiting place unit within) in
    after_take (same_kind work unit.work) (number_of work s.counts.accepted) (number_of work s.counts.taken)
    (count_by (λ (other : Unit). same_kind work other.work) s.waiting)
    (count_by (λ (other : Unit). same_kind work other.work) (remove s.waiting place)) (keeps.numbers work) left
    ∙ ap (λ (n : ℕ). plus n (count_by (λ (other : Unit). same_kind work other.work) (remove s.waiting place))) (sym (number_of-raised work unit.work s.counts.taken))

-- and once one more is accepted
numbers-added : (s : State) (unit : Unit) (work : Work) → IsKept s → number_of work (raised unit.work s.counts.accepted) ≡ plus (number_of work s.counts.taken) (count_by (λ (other : Unit). same_kind work other.work) (s.waiting ++ unit ∷ []))
numbers-added s unit work keeps =
    number_of-raised work unit.work s.counts.accepted
    ∙ after_add (same_kind work unit.work) (number_of work s.counts.accepted) (number_of work s.counts.taken)
    (count_by (λ (other : Unit). same_kind work other.work) s.waiting)
    (count_by (λ (other : Unit). same_kind work other.work) (s.waiting ++ unit ∷ [])) (keeps.numbers work)
    (count_by-push (λ (other : Unit). same_kind work other.work) s.waiting unit)

keeps-ready : (s : State) (place : ℕ) (out : Out) → IsKept s → place < length s.waiting → get_or s.waiting place out.unit ≡ out.unit → out.run ≡ s.counts.given + 1 → is_ready s.limits s.waiting s.outs out.unit ≡ true → IsKept (record s { waiting = remove s.waiting place; outs = s.outs ++ out ∷ []; counts = with_run out.unit.work s.counts })
keeps-ready s place out keeps within is run ready =
    let both = and_parts (not (is_out (λ other. same_seat (seat_of out.unit) (seat_of other)) s.outs)) (is_free s.limits s.waiting s.outs out.unit.job out.unit.work) ready in
    record {
      allows = keeps.allows;
      waiting = All-remove (HasLimit s.limits) s.waiting place keeps.waiting;
      outs = All-push (λ (other : Out). HasLimit s.limits other.unit) s.outs out keeps.outs
          (subst (HasLimit s.limits) is (All-get_or (HasLimit s.limits) s.waiting place out.unit within keeps.waiting));
      seats = seats-push s.outs out (not-true (is_out (λ other. same_seat (seat_of out.unit) (seat_of other)) s.outs) both.0) keeps.seats;
      limits = limits-push s.limits s.waiting s.outs out both.1 keeps.limits;
      numbers = λ work. numbers-taken s place out.unit work keeps within is;
    }

-- the first unit that is ready starts
pub keeps-started : (s : State) (place : ℕ) (unit : Unit) → IsKept s → first_ready s.limits s.waiting s.outs ≡ Some place → slice_get s.waiting place ≡ Some unit → IsKept (started place unit s)
keeps-started s place unit keeps found at =
    let is = get_or_from_slice_get s.waiting place unit unit at in
    let first = position-Some (is_ready s.limits s.waiting s.outs) s.waiting place unit found in
    keeps-ready s place (record { unit = unit; run = s.counts.given + 1 }) keeps first.0 is refl
    (subst (λ (x : Unit). is_ready s.limits s.waiting s.outs x ≡ true) is first.1)

-- the unit at a place ends
pub keeps-ended : (s : State) (place : ℕ) (out : Out) (outcome : Outcome) → IsKept s → place < length s.outs → IsKept (ended place outcome s)
keeps-ended s place out outcome keeps within = record {
  allows = keeps.allows;
  waiting = keeps.waiting;
  outs = All-remove (λ (other : Out). HasLimit s.limits other.unit) s.outs place keeps.outs;
  seats = all_pairs_remove Apart s.outs place within keeps.seats;
  limits = limits-remove s.limits s.outs place out within keeps.limits;
  numbers = keeps.numbers;
}

keeps-joins : (is : Bool) (s : State) (unit : Unit) → IsKept s → HasLimit s.limits unit → IsKept (joins is unit s)
keeps-joins true s unit keeps has = record {
  allows = keeps.allows;
  waiting = All-push (HasLimit s.limits) s.waiting unit keeps.waiting has;
  outs = keeps.outs;
  seats = keeps.seats;
  limits = keeps.limits;
  numbers = λ work. numbers-added s unit work keeps;
}
keeps-joins false s unit keeps has = record {
  allows = keeps.allows;
  waiting = keeps.waiting;
  outs = keeps.outs;
  seats = keeps.seats;
  limits = keeps.limits;
  numbers = keeps.numbers;
}

-- a unit is added
pub keeps-joined : (s : State) (unit : Unit) → IsKept s → HasLimit s.limits unit → IsKept (joined s unit)
keeps-joined s unit keeps has = keeps-joins (is_new s unit) s unit keeps has

joins-limits : (is : Bool) (s : State) (unit : Unit) → (joins is unit s).limits ≡ s.limits
joins-limits true s unit = refl
joins-limits false s unit = refl

-- units are added
pub keeps-joined_all : (s : State) (units : List Unit) → IsKept s → All (HasLimit s.limits) units → IsKept (joined_all s units)
keeps-joined_all s [] keeps all = keeps
keeps-joined_all s (unit ∷ units) keeps all =
    keeps-joined_all (joined s unit) units (keeps-joined s unit keeps (All-head (HasLimit s.limits) unit units all))
    (subst (λ (limits : Limits). All (HasLimit limits) units) (sym (joins-limits (is_new s unit) s unit)) (All-tail (HasLimit s.limits) unit units all))

-- none is out
pub keeps-recalled : (s : State) → IsKept s → IsKept (recalled s)
keeps-recalled s keeps = record {
  allows = keeps.allows;
  waiting = keeps.waiting;
  outs = All-nil (λ (other : Out). HasLimit s.limits other.unit);
  seats = λ i j d below within. absurd (omega arith);
  limits = record { steps = λ job has. omega arith; replicators = omega arith };
  numbers = keeps.numbers;
}

-- nothing is there
pub keeps-nothing : (limits : Limits) → AllowsSome limits → IsKept (nothing limits)
keeps-nothing limits allows = record {
  allows = allows;
  waiting = All-nil (HasLimit limits);
  outs = All-nil (λ (other : Out). HasLimit limits other.unit);
  seats = λ i j d below within. absurd (omega arith);
  limits = record { steps = λ job has. omega arith; replicators = omega arith };
  numbers = λ work. let none = number_of-none work in rw none refl;
}
