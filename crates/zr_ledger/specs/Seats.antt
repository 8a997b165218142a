-- What a unit has for itself while it is out, and which units are the same work.
use Rattle.std.specs.Prelude.{◌==◌, ◌&&◌, ℕ, Bool, true, false, List, length, nat_eq, slice_index}
use Rattle.std.specs.Cmp.Lexicographic.{pointwise}
use Rattle.std.specs.List.{starts_with}
use Rattle.zr_names.specs.declared.unit.Unit.{Unit}
use Rattle.zr_names.specs.declared.unit.Work.{Work}
use Rattle.zr_names.specs.declared.unit.Work.TheVariants.{Scan, Parents, Snap, Replicate, PruneSource, PruneTarget}

-- a seat: a job's scans, a job's parents, the snapshots of a path with a prefix, or a job's pair of this source
pub data Seat : Type 0 where
  scanning : ℕ → Seat
  making : ℕ → Seat
  snapping : List ℕ → List ℕ → Seat
  pairing : ℕ → List ℕ → Seat

-- the seat of a job's work. A snapshot's is one for all jobs; a pair's is one for its replication and both prunes
abbrev pub seat_at : ℕ → Work → Seat
seat_at job Scan = scanning job
seat_at job Parents = making job
seat_at job (Snap path prefix) = snapping path prefix
seat_at job (Replicate path) = pairing job path
seat_at job (PruneSource path) = pairing job path
seat_at job (PruneTarget path) = pairing job path

abbrev pub seat_of : Unit → Seat
seat_of unit = seat_at unit.job unit.work

abbrev pub same_text : List ℕ → List ℕ → Bool
same_text a b = pointwise nat_eq a b

-- the test that two seats are one
abbrev pub same_seat : Seat → Seat → Bool
same_seat (scanning a) (scanning b) = a == b
same_seat (making a) (making b) = a == b
same_seat (snapping a prefix) (snapping b other) = same_text a b && same_text prefix other
same_seat (pairing a path) (pairing b other) = (a == b) && same_text path other
same_seat a b = false

-- two works are of one kind
abbrev pub same_kind : Work → Work → Bool
same_kind Scan Scan = true
same_kind Parents Parents = true
same_kind (Snap path prefix) (Snap other next) = true
same_kind (Replicate path) (Replicate other) = true
same_kind (PruneSource path) (PruneSource other) = true
same_kind (PruneTarget path) (PruneTarget other) = true
same_kind a b = false

-- a unit is this job's work, but for the moment: its kind and its seat, so its key, are those
abbrev pub has_key : ℕ → Work → Unit → Bool
has_key job work unit = same_kind work unit.work && same_seat (seat_at job work) (seat_of unit)

abbrev pub same_key : Unit → Unit → Bool
same_key unit = has_key unit.job unit.work

-- two units are one: their job, their moment and their work
abbrev pub same_unit : Unit → Unit → Bool
same_unit unit other =
    (unit.job == other.job) && (unit.moment == other.moment) && same_key unit other

abbrev pub is_scan : Work → Bool
is_scan Scan = true
is_scan Parents = false
is_scan (Snap path prefix) = false
is_scan (Replicate path) = false
is_scan (PruneSource path) = false
is_scan (PruneTarget path) = false

abbrev pub is_snap : Work → Bool
is_snap Scan = false
is_snap Parents = false
is_snap (Snap path prefix) = true
is_snap (Replicate path) = false
is_snap (PruneSource path) = false
is_snap (PruneTarget path) = false

-- a snapshot of a path, with any prefix
abbrev pub is_snap_of : List ℕ → Work → Bool
is_snap_of path Scan = false
is_snap_of path Parents = false
is_snap_of path (Snap own prefix) = same_text path own
is_snap_of path (Replicate own) = false
is_snap_of path (PruneSource own) = false
is_snap_of path (PruneTarget own) = false

abbrev pub is_replicate : Work → Bool
is_replicate Scan = false
is_replicate Parents = false
is_replicate (Snap path prefix) = false
is_replicate (Replicate path) = true
is_replicate (PruneSource path) = false
is_replicate (PruneTarget path) = false

-- a path lies below another: it begins with that, and a `/` follows
abbrev pub lies_below : List ℕ → List ℕ → Bool
lies_below root path = starts_with nat_eq path root && (slice_index path (length root) == 47)

-- a replication of a proper ancestor of a path
abbrev pub is_replicate_above : List ℕ → Work → Bool
is_replicate_above path Scan = false
is_replicate_above path Parents = false
is_replicate_above path (Snap own prefix) = false
is_replicate_above path (Replicate own) = lies_below own path
is_replicate_above path (PruneSource own) = false
is_replicate_above path (PruneTarget own) = false

-- the same two of one job
abbrev pub is_replicate_of : ℕ → Unit → Bool
is_replicate_of job unit = (unit.job == job) && is_replicate unit.work

abbrev pub is_ancestor_of : ℕ → List ℕ → Unit → Bool
is_ancestor_of job path unit = (unit.job == job) && is_replicate_above path unit.work
