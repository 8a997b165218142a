use Rattle.std.proofs.Common.{◌≡◌, ◌++◌, drop, length, map, vec_capacity}
use Rattle.zr_ledger.specs.Queue.{HasRoomFor}
use Rattle.zr_ledger.specs.Steps.{coalesced_from, joined_all, standing}
use Rattle.zr_ledger.specs.declared.state.Entry.TheVariants.{Add}
use Rattle.zr_ledger.proofs.adding.join_all.Given as goal

-- the units so far are added, and there is room for the others
abbrev pub invariant-loop-spare : goal.invariant-loop-spare
invariant-loop-spare l = record {
  counted : l.coalesced ≡ coalesced_from 0 (standing l.fn.limits l.fn.waiting.units l.fn.outs l.fn.counts) l.yielded;
  added : standing l.limits l.waiting.units l.outs l.counts ≡ joined_all (standing l.fn.limits l.fn.waiting.units l.fn.outs l.fn.counts) l.yielded;
  told : l.history.items ≡ l.fn.history.items ++ map Add l.yielded;
  room : HasRoomFor l.waiting (drop (length l.yielded) l.fn.spares.items);
  capacity : vec_capacity l.history ≡ vec_capacity l.fn.history;
}
