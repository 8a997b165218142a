use Rattle.std.specs.Prelude.{◌≡◌, ◌≢◌, ◌⊎◌, ◌||◌, ℕ, Bool, true, false, List, Err, if◌then◌else◌, nat_lt}
use Rattle.std.specs.List.{list_any}
use Rattle.zr_names.specs.declared.outcome.Outcome.{Outcome}
use Rattle.zr_names.specs.declared.outcome.Outcome.TheVariants as outcome
use Rattle.zr_names.specs.declared.totals.Totals.{Totals}
use Rattle.zr_permit.specs.Result.{is_child_fault, is_out_of_memory}
use Rattle.zr_jobfile.specs.declared.JobFault.{JobFault}
use Rattle.zr_jobfile.specs.declared.JobFault.TheVariants.{NoMemory}
use Rattle.zr_jobfile.specs.JobFile.{ReadsJobs}
use Rattle.zr_top.specs.declared.status.Status.{Status}
use Rattle.zr_top.specs.declared.status.Status.TheVariants as status
use Rattle.zr_top.specs.Attempts.{Attempt}

-- the exit status
abbrev pub code_of : Status → ℕ
code_of status.Clean = 0
code_of status.Usage = 2
code_of status.JobFile = 3
code_of status.Conflict = 4
code_of status.ChildFault = 5
code_of status.Garbled = 6
code_of status.Unreadable = 7
code_of status.Unwritable = 8
code_of status.OutOfMemory = 9

-- the status of units by their totals
abbrev pub status_of : Totals → Status
status_of t =
    if nat_lt 0 t.nomemory
    then status.OutOfMemory
    else (if nat_lt 0 t.garbled
    then status.Garbled
    else (if nat_lt 0 t.faults
    then status.ChildFault
    else (if nat_lt 0 t.conflicts || nat_lt 0 t.toolong then status.Conflict else status.Clean)))

-- a listing was garbled
abbrev pub is_garbled : Outcome → Bool
is_garbled (outcome.Garbled at line) = true
is_garbled other = false

-- replication can't go on by itself, or a scan met a path that is too long to work on
abbrev pub is_conflict_or_too_long : Outcome → Bool
is_conflict_or_too_long (outcome.Conflict number) = true
is_conflict_or_too_long (outcome.Scanned found too_long) = nat_lt 0 too_long
is_conflict_or_too_long other = false

-- some unit ended so
abbrev pub some_ended : (Outcome → Bool) → List Attempt → Bool
some_ended so attempts = list_any (λ (a : Attempt). so a.ended) attempts

-- the status of units by how they ended: the first of want of memory, a garbled listing, a failed child,
-- and a conflict or a path too long
abbrev pub status_of_runs : List Attempt → Status
status_of_runs attempts =
    if some_ended is_out_of_memory attempts
    then status.OutOfMemory
    else (if some_ended is_garbled attempts
    then status.Garbled
    else (if some_ended is_child_fault attempts
    then status.ChildFault
    else (if some_ended is_conflict_or_too_long attempts then status.Conflict else status.Clean)))

-- a line was printed and this is the status, or the output or memory failed
abbrev pub Printed : Status → Status → Type 0
Printed wanted given =
    (given ≡ wanted) ⊎ (given ≡ status.Unwritable) ⊎ (given ≡ status.OutOfMemory)

-- the job file was refused, or could not be read, and the line was printed, or the output or memory failed
abbrev pub RefusedOrUnread : Status → Type 0
RefusedOrUnread given = Printed status.JobFile given ⊎ (given ≡ status.Unreadable)

-- the status is one that comes after the job file was accepted
abbrev pub is_of_run : Status → Bool
is_of_run status.Usage = false
is_of_run status.JobFile = false
is_of_run status.Unreadable = false
is_of_run other = true

-- the status is one with which no runner was touched
abbrev pub is_idle : Status → Bool
is_idle status.Usage = true
is_idle status.JobFile = true
is_idle status.Unreadable = true
is_idle other = false

-- the status is one that comes where nothing was run
abbrev pub is_unrun : Status → Bool
is_unrun status.Clean = false
is_unrun status.Conflict = false
is_unrun status.ChildFault = false
is_unrun status.Garbled = false
is_unrun other = true

-- the bytes of a job file are refused
pub record IsRefused (bytes : List ℕ) : Type 0 where
  pub fault : JobFault
  pub by_fault : ReadsJobs bytes (Err fault)
  pub not_memory : fault ≢ NoMemory
