-- What each entry of the history does to the state, and the replay of a history.
use Rattle.std.specs.Prelude.{◌&&◌, ◌||◌, ℕ, ◌+◌, Bool, true, false, not, List, [], ◌∷◌, ◌++◌, Option, Some, None, length, nat_le, remove, slice_get}
use Rattle.zr_names.specs.Totals.{counted, plus}
use Rattle.zr_names.specs.declared.outcome.Outcome.{Outcome}
use Rattle.zr_names.specs.declared.totals.Totals.{Totals}
use Rattle.zr_names.specs.declared.unit.Unit.{Unit}
use Rattle.zr_names.specs.declared.unit.Work.{Work}
use Rattle.zr_names.specs.declared.unit.Work.TheVariants.{Scan, Parents, Snap, Replicate, PruneSource, PruneTarget}
use Rattle.zr_ledger.specs.Out.{Out}
use Rattle.zr_ledger.specs.Ready.{first_ready, is_live}
use Rattle.zr_ledger.specs.Seats.{is_snap, same_key}
use Rattle.zr_ledger.specs.declared.counts.Counts.{Counts}
use Rattle.zr_ledger.specs.declared.counts.Kinds.{Kinds}
use Rattle.zr_ledger.specs.declared.limits.Limits.{Limits}
use Rattle.zr_ledger.specs.declared.state.Entry.{Entry}
use Rattle.zr_ledger.specs.declared.state.Entry.TheVariants.{Take, Give, Add, Recall}
use Rattle.zr_ledger.specs.declared.state.State.{State}
use Rattle.zr_ledger.specs.declared.state.TheConstants.{HISTORY_LIMIT}

-- the number of a work's kind
abbrev pub number_of : Work → Kinds → ℕ
number_of Scan kinds = kinds.scan
number_of Parents kinds = kinds.parents
number_of (Snap path prefix) kinds = kinds.snap
number_of (Replicate path) kinds = kinds.replicate
number_of (PruneSource path) kinds = kinds.prune_source
number_of (PruneTarget path) kinds = kinds.prune_target

-- that number, one higher
abbrev pub raised : Work → Kinds → Kinds
raised Scan kinds = record kinds { scan = plus kinds.scan 1 }
raised Parents kinds = record kinds { parents = plus kinds.parents 1 }
raised (Snap path prefix) kinds = record kinds { snap = plus kinds.snap 1 }
raised (Replicate path) kinds = record kinds { replicate = plus kinds.replicate 1 }
raised (PruneSource path) kinds = record kinds { prune_source = plus kinds.prune_source 1 }
raised (PruneTarget path) kinds = record kinds { prune_target = plus kinds.prune_target 1 }

abbrev pub no_kinds : Kinds
no_kinds = record { scan = 0; parents = 0; snap = 0; replicate = 0; prune_source = 0; prune_target = 0 }

abbrev pub no_totals : Totals
no_totals = record {
  due = 0;
  done = 0;
  coalesced = 0;
  taken = 0;
  fresh = 0;
  steps = 0;
  uptodate = 0;
  conflicts = 0;
  destroyed = 0;
  busy = 0;
  placeholders = 0;
  toolong = 0;
  faults = 0;
  garbled = 0;
  nomemory = 0;
}

abbrev pub no_counts : Counts
no_counts = record {
  given = 0;
  totals = no_totals;
  accepted = no_kinds;
  taken = no_kinds;
  coalesced = no_kinds;
}

-- a state by its parts
abbrev pub standing : Limits → List Unit → List Out → Counts → State
standing limits waiting outs counts =
    record { limits = limits; waiting = waiting; outs = outs; counts = counts }

-- the state of a fresh ledger
abbrev pub nothing : Limits → State
nothing limits = standing limits [] [] no_counts

-- one run number more is given, to a unit of this work
abbrev pub with_run : Work → Counts → Counts
with_run work counts = record counts { given = counts.given + 1; taken = raised work counts.taken }

-- one unit has ended
abbrev pub with_end : Outcome → Counts → Counts
with_end outcome counts = record counts { totals = counted outcome counts.totals }

-- one unit more is due
abbrev pub one_due : Totals → Totals
one_due totals = record totals { due = plus totals.due 1 }

-- one unit more is due and waits
abbrev pub with_new : Work → Counts → Counts
with_new work counts =
    record counts { totals = one_due counts.totals; accepted = raised work counts.accepted }

-- one unit more is due and coalesced
abbrev pub with_coalesced : Work → Counts → Counts
with_coalesced work counts = record counts {
  totals = record (one_due counts.totals) { coalesced = plus counts.totals.coalesced 1 };
  coalesced = raised work counts.coalesced;
}

-- the unit at a place starts: it waits no more, and is out with the next run number
abbrev pub started : ℕ → Unit → State → State
started place unit s = record s {
  waiting = remove s.waiting place;
  outs = s.outs ++ record { unit = unit; run = s.counts.given + 1 } ∷ [];
  counts = with_run unit.work s.counts;
}

abbrev pub starts : ℕ → Option Unit → State → State
starts place None s = s
starts place (Some unit) s = started place unit s

abbrev pub starts_at : Option ℕ → State → State
starts_at None s = s
starts_at (Some place) s = starts place (slice_get s.waiting place) s

-- the first unit that is ready starts
abbrev pub first_taken : State → State
first_taken s = starts_at (first_ready s.limits s.waiting s.outs) s

-- the unit at a place among those that are out ends
abbrev pub ended : ℕ → Outcome → State → State
ended place outcome s = record s {
  outs = remove s.outs place;
  counts = with_end outcome s.counts;
}

-- a unit is new: its key neither waits nor is out, or it is no snapshot in a ledger that lists once
abbrev pub is_new : State → Unit → Bool
is_new s unit =
    (s.limits.once && not (is_snap unit.work)) || not (is_live (same_key unit) s.waiting s.outs)

abbrev pub joins : Bool → Unit → State → State
joins true unit s =
    record s { waiting = s.waiting ++ unit ∷ []; counts = with_new unit.work s.counts }
joins false unit s = record s { counts = with_coalesced unit.work s.counts }

-- a unit is added: it waits behind all others where it is new, and else is coalesced
abbrev pub joined : State → Unit → State
joined s unit = joins (is_new s unit) unit s

-- units are added one after the other
abbrev pub joined_all : State → List Unit → State
joined_all s [] = s
joined_all s (unit ∷ units) = joined_all (joined s unit) units

-- what is given back with an outcome ends at its place among those that are out; a stranger changes nothing
abbrev pub given_back : Option ℕ → Outcome → State → State
given_back None outcome s = s
given_back (Some place) outcome s = ended place outcome s

-- no unit is out any more
abbrev pub recalled : State → State
recalled s = record s { outs = [] }

-- the step of an entry
abbrev pub after : State → Entry → State
after s Take = first_taken s
after s (Give place outcome) = ended place outcome s
after s (Add unit) = joined s unit
after s Recall = recalled s

-- the state after a history
abbrev pub replay : State → List Entry → State
replay s [] = s
replay s (entry ∷ entries) = replay (after s entry) entries

-- a history has come to its limit
abbrev pub is_long : List Entry → Bool
is_long history = nat_le HISTORY_LIMIT (length history)

-- the base where a history of this length is followed by an add: a long one begins anew from the state
abbrev pub next_base : Bool → State → Option State
next_base true s = Some s
next_base false s = None

-- so many units, and one more where this one is not new
abbrev pub with_one : ℕ → Bool → ℕ
with_one before true = before
with_one before false = plus before 1

-- how many of the units are coalesced as they are added, counted on from a number
abbrev pub coalesced_from : ℕ → State → List Unit → ℕ
coalesced_from before s [] = before
coalesced_from before s (unit ∷ units) =
    coalesced_from (with_one before (is_new s unit)) (joined s unit) units
