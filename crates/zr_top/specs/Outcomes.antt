use Rattle.std.specs.Prelude.{⊤, ◌≡◌, ◌||◌, ℕ, Bool, true, false, List, Option, Some, None, All}
use Rattle.zr_names.specs.declared.outcome.Outcome.{Outcome}
use Rattle.zr_names.specs.declared.outcome.Outcome.TheVariants as outcome
use Rattle.zr_names.specs.declared.unit.Unit.{Unit}
use Rattle.zr_jobset.specs.Sets.{Jobs}
use Rattle.zr_permit.specs.Honest.{IsHonest}
use Rattle.zr_permit.specs.Result.{is_child_fault}
use Rattle.zr_permit.specs.Transcript.{Transcript}
use Rattle.zr_top.specs.declared.status.Status.{Status}
use Rattle.zr_top.specs.declared.status.Status.TheVariants as status
use Rattle.zr_top.specs.Attempts.{Attempt}
use Rattle.zr_top.specs.Status.{is_conflict_or_too_long, is_garbled, some_ended}

-- a run that was begun destroyed honestly
abbrev pub Destroys : Jobs → Unit → Option (ℕ × Transcript) → Type 0
Destroys jobs unit None = ⊤
Destroys jobs unit (Some begun) = IsHonest jobs unit begun.1

-- each snapshot that was given for destruction stood in a listing of its dataset that the same unit had
-- taken before, with no holds and kept by no rule of its job
abbrev pub AllHonest : Jobs → List Attempt → Type 0
AllHonest jobs attempts = All (λ (a : Attempt). Destroys jobs a.unit a.begun) attempts

-- the unit has finished: it was begun, and is no failed child, garbled listing or want of memory
abbrev pub is_finished : Outcome → Bool
is_finished (outcome.ChildFault at) = false
is_finished (outcome.Garbled at line) = false
is_finished outcome.NoMemory = false
is_finished other = true

abbrev pub is_fault_or_garbled : Outcome → Bool
is_fault_or_garbled ended = is_child_fault ended || is_garbled ended

-- each unit has finished, or ended so
abbrev pub FinishedOr : (Outcome → Bool) → List Attempt → Type 0
FinishedOr so attempts = All (λ (a : Attempt). is_finished a.ended || so a.ended ≡ true) attempts

-- each unit has finished
abbrev pub AllFinished : List Attempt → Type 0
AllFinished attempts = All (λ (a : Attempt). is_finished a.ended ≡ true) attempts

-- what a status says of the units that were run: 0, each has finished, and none in a conflict or with a path that is too
-- long; 4, each has finished, and one so; 5, a child's fault ended one, and each other has finished; 6, a garbled listing
-- ended one, and each other has finished or was ended by a child's fault; the other statuses come of the output, of want of
-- memory or where nothing is run
abbrev pub Means : Status → List Attempt → Type 0
Means status.Clean attempts = AllFinished attempts × (some_ended is_conflict_or_too_long attempts ≡ false)
Means status.Conflict attempts = AllFinished attempts × (some_ended is_conflict_or_too_long attempts ≡ true)
Means status.ChildFault attempts = FinishedOr is_child_fault attempts × (some_ended is_child_fault attempts ≡ true)
Means status.Garbled attempts = FinishedOr is_fault_or_garbled attempts × (some_ended is_garbled attempts ≡ true)
Means status.Unwritable attempts = ⊤
Means status.OutOfMemory attempts = ⊤
Means other attempts = ⊥
