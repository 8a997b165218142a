use Rattle.std.specs.Prelude.{ℕ, ◌+◌, ◌-◌, ◌^◌, min}
use Rattle.zr_names.specs.declared.outcome.Outcome.{Outcome}
use Rattle.zr_names.specs.declared.outcome.Outcome.TheVariants as outcome
use Rattle.zr_names.specs.declared.totals.Totals.{Totals}

-- a total with so many more, which stays at the greatest `u64` once there
abbrev pub plus : ℕ → ℕ → ℕ
plus total more = min (total + more) (2 ^ 64 - 1)

-- one unit more is done
abbrev pub one_done : Totals → Totals
one_done t = record t { done = plus t.done 1 }

-- the totals with one outcome more: one unit is done, and what the outcome names rises
abbrev pub counted : Outcome → Totals → Totals
counted (outcome.Scanned found too_long) t =
    record (one_done t) { toolong = plus t.toolong too_long }
counted (outcome.Parents made) t = record (one_done t) { placeholders = plus t.placeholders made }
counted outcome.Taken t = record (one_done t) { taken = plus t.taken 1 }
counted outcome.FreshEnough t = record (one_done t) { fresh = plus t.fresh 1 }
counted outcome.UpToDate t = record (one_done t) { uptodate = plus t.uptodate 1 }
counted (outcome.Replicated steps) t = record (one_done t) { steps = plus t.steps steps }
counted (outcome.Pruned destroyed busy) t =
    record (one_done t) { destroyed = plus t.destroyed destroyed; busy = plus t.busy busy }
counted (outcome.Conflict number) t = record (one_done t) { conflicts = plus t.conflicts 1 }
counted (outcome.ChildFault at) t = record (one_done t) { faults = plus t.faults 1 }
counted (outcome.Garbled at line) t = record (one_done t) { garbled = plus t.garbled 1 }
counted outcome.NoMemory t = record (one_done t) { nomemory = plus t.nomemory 1 }

-- the totals of two parts of the work together
abbrev pub summed : Totals → Totals → Totals
summed a b = record {
  due = plus a.due b.due;
  done = plus a.done b.done;
  coalesced = plus a.coalesced b.coalesced;
  taken = plus a.taken b.taken;
  fresh = plus a.fresh b.fresh;
  steps = plus a.steps b.steps;
  uptodate = plus a.uptodate b.uptodate;
  conflicts = plus a.conflicts b.conflicts;
  destroyed = plus a.destroyed b.destroyed;
  busy = plus a.busy b.busy;
  placeholders = plus a.placeholders b.placeholders;
  toolong = plus a.toolong b.toolong;
  faults = plus a.faults b.faults;
  garbled = plus a.garbled b.garbled;
  nomemory = plus a.nomemory b.nomemory;
}
