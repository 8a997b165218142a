-- When a unit that waits may start.
use Rattle.std.specs.Prelude.{◌==◌, ◌&&◌, ◌||◌, ℕ, Bool, true, not, List, Option, count_by, nat_lt, position, slice_index}
use Rattle.std.specs.List.{list_any}
use Rattle.zr_names.specs.declared.unit.Unit.{Unit}
use Rattle.zr_names.specs.declared.unit.Work.{Work}
use Rattle.zr_names.specs.declared.unit.Work.TheVariants.{Scan, Parents, Snap, Replicate, PruneSource, PruneTarget}
use Rattle.zr_ledger.specs.Out.{Out}
use Rattle.zr_ledger.specs.Seats.{has_key, is_ancestor_of, is_replicate, is_replicate_of, is_scan, is_snap_of, same_seat, same_unit, seat_of}
use Rattle.zr_ledger.specs.declared.limits.Limits.{Limits}

-- a unit that passes a test is out
abbrev pub is_out : (Unit → Bool) → List Out → Bool
is_out test outs = list_any (λ out. test out.unit) outs

-- how many such units are out
abbrev pub count_out : (Unit → Bool) → List Out → ℕ
count_out test outs = count_by (λ out. test out.unit) outs

-- such a unit waits or is out
abbrev pub is_live : (Unit → Bool) → List Unit → List Out → Bool
is_live test waiting outs = list_any test waiting || is_out test outs

-- what is out is what this ticket says
abbrev pub is_ticket : Out → Out → Bool
is_ticket ticket out = (ticket.run == out.run) && same_unit ticket.unit out.unit

-- fewer replications are out than the limits allow: of the job, and of all jobs
abbrev pub is_within : Limits → List Out → ℕ → Bool
is_within limits outs job =
    nat_lt (count_out (is_replicate_of job) outs) (slice_index limits.steps job)
    && nat_lt (count_out (λ unit. is_replicate unit.work) outs) limits.replicators

-- nothing that waits or is out keeps a job's work from starting
abbrev pub is_free : Limits → List Unit → List Out → ℕ → Work → Bool
is_free limits waiting outs job Scan = true
is_free limits waiting outs job (Snap path prefix) = true
is_free limits waiting outs job Parents = not (is_out (is_replicate_of job) outs)
is_free limits waiting outs job (Replicate path) =
    is_within limits outs job
    && not (is_live (λ unit. is_scan unit.work) waiting outs)
    && not (is_live (has_key job Parents) waiting outs)
    && not (is_live (λ unit. is_snap_of path unit.work) waiting outs)
    && not (is_live (is_ancestor_of job path) waiting outs)
is_free limits waiting outs job (PruneSource path) =
    not (is_live (has_key job (Replicate path)) waiting outs)
    && not (is_live (λ unit. is_snap_of path unit.work) waiting outs)
is_free limits waiting outs job (PruneTarget path) =
    not (is_live (has_key job (Replicate path)) waiting outs)

-- a unit may start: its seat is not out, and nothing keeps it
abbrev pub is_ready : Limits → List Unit → List Out → Unit → Bool
is_ready limits waiting outs unit =
    not (is_out (λ other. same_seat (seat_of unit) (seat_of other)) outs)
    && is_free limits waiting outs unit.job unit.work

-- the place of the first unit, in the order of adding, that may start
abbrev pub first_ready : Limits → List Unit → List Out → Option ℕ
first_ready limits waiting outs = position (is_ready limits waiting outs) waiting
