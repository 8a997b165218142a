use Rattle.std.proofs.Common.{◌≡◌, ◌<◌, take}
use Rattle.zr_ledger.specs.Index.{slot_of}
use Rattle.zr_ledger.specs.declared.slots.TheConstants.{SLOTS}
use Rattle.zr_ledger.proofs.slots.slot_of.Given as goal

-- the slot of the bytes so far
abbrev pub invariant-loop-byte : goal.invariant-loop-byte
invariant-loop-byte l = (l.slot ≡ slot_of (take l.byte-index l.bytes)) × (l.slot < SLOTS)
