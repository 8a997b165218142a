-- How the units that wait are kept beside the list in the order of adding.
use Rattle.std.specs.Prelude.{◌≡◌, ◌==◌, ◌+◌, ◌*◌, ◌%◌, ◌<◌, ℕ, Bool, false, List, [], count_by, filter, fold, length, map, slice_index, slice_index_or}
use Rattle.zr_names.specs.declared.unit.Unit.{Unit}
use Rattle.zr_names.specs.declared.unit.Work.{Work}
use Rattle.zr_names.specs.declared.unit.Work.TheVariants.{Scan, Parents, Snap, Replicate, PruneSource, PruneTarget}
use Rattle.zr_ledger.specs.Queue.{Lined, is_of_job}
use Rattle.zr_ledger.specs.Seats.{is_scan}
use Rattle.zr_ledger.specs.declared.slots.TheConstants.{SLOTS}

-- the slot of a path: one of so many numbers, which most paths share with few others
abbrev pub slot_of : List ℕ → ℕ
slot_of path = fold (λ slot byte. (slot * 31 + byte) % SLOTS) 0 path

-- a snapshot of a path that has this slot
abbrev pub is_snap_in : ℕ → Work → Bool
is_snap_in slot Scan = false
is_snap_in slot Parents = false
is_snap_in slot (Snap path prefix) = slot_of path == slot
is_snap_in slot (Replicate path) = false
is_snap_in slot (PruneSource path) = false
is_snap_in slot (PruneTarget path) = false

-- how many snapshots of each slot wait
pub record CountsSnaps (snaps : List ℕ) (order : List Unit) : Type 0 where
  pub slots : length snaps ≡ SLOTS
  pub counts : (slot : ℕ) → slot < SLOTS →
      slice_index snaps slot ≡ count_by (λ unit. is_snap_in slot unit.work) order

-- the units of a job, as its line has them
abbrev pub line_at : List Lined → ℕ → List Unit
line_at lines job = slice_index_or (map (λ line. line.units) lines) job []

-- the lines hold the same units as the order, each those of its job
abbrev pub HoldsLines : List Lined → List Unit → Type 0
HoldsLines lines order = (job : ℕ) → line_at lines job ≡ filter (is_of_job job) order

-- the room in each line
abbrev pub rooms_of : List Lined → List ℕ
rooms_of lines = map (λ line. line.room) lines

-- the list of those that wait, and what stands beside it
pub record IsIndexed (order : List Unit) (lines : List Lined) (scans : ℕ) (snaps : List ℕ) : Type 0 where
  -- the lines hold the same units
  pub same : HoldsLines lines order
  pub scanning : scans ≡ count_by (λ unit. is_scan unit.work) order
  pub snapping : CountsSnaps snaps order
