use Rattle.std.specs.Prelude.{⊤, ◌≡◌, ◌≢◌, ◌⊎◌, ◌+◌, ℕ, Bool, true, false, List, [], ◌∷◌, ◌++◌, Option, Some, None, Result, Ok, Err, All, codes, length, map, take}
use Rattle.std.specs.Io.KnownBytes.{append_known}
use Rattle.zr_base.specs.declared.memory.NoMemory.{NoMemory}
use Rattle.zr_names.specs.declared.totals.Totals.{Totals}
use Rattle.zr_base.specs.Count.{Rose}
use Rattle.zr_world.specs.Answering.{appended}
use Rattle.zr_exec.specs.declared.spawn.Line.{Line}
use Rattle.zr_exec.specs.Entries.{entries_of}
use Rattle.zr_jobset.specs.Sets.{Jobs}
use Rattle.zr_jobfile.specs.declared.TheConstants.{FILE_LIMIT}
use Rattle.zr_jobfile.specs.declared.JobFault.{JobFault}
use Rattle.zr_jobfile.specs.declared.JobFault.TheVariants as fault
use Rattle.zr_jobfile.specs.JobFile.{ReadsJobs}
use Rattle.zr_top.specs.declared.status.Status.{Status}
use Rattle.zr_top.specs.declared.status.Status.TheVariants as status
use Rattle.zr_pipe.specs.Ends.{WroteFront}
use Rattle.zr_permit.specs.Result.{is_child_fault, is_out_of_memory}
use Rattle.zr_top.specs.Attempts.{AreNumbered, Attempt, entries, IsBalanced, IsGood, no_totals, totals_of}
use Rattle.zr_top.specs.Due.{IsDue, RanDue}
use Rattle.zr_top.specs.Outcomes.{AllHonest, Means}
use Rattle.zr_top.specs.Status.{is_unrun, Printed, some_ended, status_of_runs}
use Rattle.zr_top.specs.Totals.{totals_text}

-- the program whose children do all commands
abbrev pub zfs : List ℕ
zfs = codes "zfs"

-- what a runner tells of its begun runs and its calls
abbrev pub Told : Type 0
Told = Option (List Line)

-- the bytes that were written to the output, where it tells them
abbrev pub Written : Type 0
Written = Option (List ℕ)

-- what the runners and the output tell, before a call or after it: the runners' records, the counts of their children's
-- faults, what was written, and the count of the faults of writing
pub record View : Type 0 where
  pub records : List Told
  pub child_faults : List ℕ
  pub written : Written
  pub write_faults : ℕ

abbrev pub view : {R : Type 0} → (R → Told) → (R → ℕ) → List R → Written → ℕ → View
view told faults runners written write_faults = record {
  records = map told runners;
  child_faults = map faults runners;
  written = written;
  write_faults = write_faults;
}

-- the next moment of a clock, where it tells its moments
abbrev pub IsNext : Option (List ℕ) → Option ℕ → Type 0
IsNext None moment = ⊤
IsNext (Some []) moment = moment ≡ None
IsNext (Some (next ∷ later)) moment = moment ≡ Some next

-- all that was due at a clock's next moment was attempted with a runner
pub record RanNext (jobs : Jobs) (moments : Option (List ℕ)) (before now : Told) (totals : Totals) : Type 0 where
  pub moment : Option ℕ
  pub next : IsNext moments moment
  pub ran : RanDue jobs moment (entries_of zfs before) (entries_of zfs now) totals

-- `once` was called with a runner, or for want of memory nothing was begun
abbrev pub RanOnce : Jobs → Option (List ℕ) → Told → Told → Result Totals NoMemory → Type 0
RanOnce jobs moments before now (Err fault) = now ≡ before
RanOnce jobs moments before now (Ok totals) = RanNext jobs moments before now totals

-- the same, of the first of some runners
abbrev pub FirstNext : Jobs → Option (List ℕ) → List Told → List Told → Totals → Type 0
FirstNext jobs moments (before ∷ others) (now ∷ left) totals = RanNext jobs moments before now totals
FirstNext jobs moments before now totals = ⊥

abbrev pub FirstRan : Jobs → Option (List ℕ) → List Told → List Told → Result Totals NoMemory → Type 0
FirstRan jobs moments before now (Err fault) = now ≡ before
FirstRan jobs moments before now (Ok totals) = FirstNext jobs moments before now totals

-- the count of faults of the first of some runners rose
abbrev pub FirstRose : List ℕ → List ℕ → Type 0
FirstRose (before ∷ others) (now ∷ left) = Rose before now
FirstRose before now = ⊥

-- the first runner's record has the begun runs of these attempts more
abbrev pub FirstHas : List Told → List Told → List Attempt → Type 0
FirstHas (before ∷ others) (now ∷ left) attempts =
    entries_of zfs now ≡ appended (entries_of zfs before) (entries attempts)
FirstHas before now attempts = ⊥

-- the output or memory failed, so that the line may not be printed
abbrev pub is_silent : Status → Bool
is_silent status.Unwritable = true
is_silent status.OutOfMemory = true
is_silent other = false

-- this text is all that was printed, unless the output or memory failed
abbrev pub WroteText : Status → Written → Written → List ℕ → Type 0
WroteText given before now text = is_silent given ≡ false → now ≡ append_known before text

-- the same of a line
abbrev pub Wrote : Status → Written → Written → List ℕ → Type 0
Wrote given before now line = WroteText given before now (line ++ 10 ∷ [])

-- a front of this line is all that was written
abbrev pub WroteFrontOf : Written → Written → List ℕ → Type 0
WroteFrontOf before now line = WroteFront before now (line ++ 10 ∷ [])

-- where the count of the faults of writing did not rise, all of this text was written, or nothing
abbrev pub WroteAllOrNothing : ℕ → ℕ → Written → Written → List ℕ → Type 0
WroteAllOrNothing faults_before faults before now text =
    ¬ Rose faults_before faults → (now ≡ append_known before text) ⊎ (now ≡ before)

-- the same of a line, by what an output tells
abbrev pub WroteLineOrNothing : View → View → List ℕ → Type 0
WroteLineOrNothing before now line =
    WroteAllOrNothing before.write_faults now.write_faults before.written now.written (line ++ 10 ∷ [])

-- all that is due for these jobs was attempted with the first runner, and the totals were printed: one list of attempts
-- for all that is said
pub record RanJobs (jobs : Jobs) (moments : Option (List ℕ)) (before now : View) (given : Status) : Type 0 where
  pub moment : Option ℕ
  pub next : IsNext moments moment
  pub attempts : List Attempt
  pub due : IsDue jobs moment attempts
  pub good : All (IsGood jobs) attempts
  pub numbered : AreNumbered no_totals attempts
  pub recorded : FirstHas before.records now.records attempts
  -- what was destroyed stood in a listing of its unit before, with no holds and kept by no rule
  pub honest : AllHonest jobs attempts
  pub books : IsBalanced (totals_of attempts) (length attempts)
  -- a child's fault ends a unit only where the count of the first runner's faults rose
  pub fault_rose :
      some_ended is_child_fault attempts ≡ true → FirstRose before.child_faults now.child_faults
  -- the status is that of how the units ended, want of memory before all else, and says of each what it means
  pub memory_first : some_ended is_out_of_memory attempts ≡ true → given ≡ status.OutOfMemory
  pub status : Printed (status_of_runs attempts) given
  pub means : Means given attempts
  -- the totals were printed, and whatever failed, nothing but a front of them was written: all of them or nothing, where
  -- the output did not fail
  pub printed : Wrote given before.written now.written (totals_text (totals_of attempts))
  pub front : WroteFrontOf before.written now.written (totals_text (totals_of attempts))
  pub whole : WroteLineOrNothing before now (totals_text (totals_of attempts))

-- the line of a job file's fault
abbrev pub fault_line : JobFault → List ℕ
fault_line fault.TooManyBytes = codes "job file: TooMany Bytes"
fault_line fault.NotToml = codes "job file: NotToml"
fault_line fault.NotBuilt = codes "job file: NotBuilt"
fault_line fault.NoMemory = []

-- what is printed where a job file is not run: that it can't be read, or why it is refused
abbrev pub IsIdleLine : List ℕ → List ℕ → Type 0
IsIdleLine file line =
    (line ≡ codes "cannot read " ++ file) ⊎ ((why : JobFault) × (why ≢ fault.NoMemory) × (line ≡ fault_line why))

-- nothing was run of this file, and a front of its line at most was written: all of it or nothing, where the output did not
-- fail
pub record Unrun (file : List ℕ) (before now : View) (given : Status) : Type 0 where
  pub same : now.records ≡ before.records
  pub unrun : is_unrun given ≡ true
  pub line : List ℕ
  pub of_file : IsIdleLine file line
  pub front : WroteFrontOf before.written now.written line
  pub whole : WroteLineOrNothing before now line

-- the bytes that were read of a file are its first ones, where its content is told
abbrev pub IsFrontOf : Option (List ℕ) → List ℕ → Type 0
IsFrontOf content bytes = (whole : List ℕ) → content ≡ Some whole → bytes ≡ take (FILE_LIMIT + 1) whole

-- the jobs of these bytes were run
pub record RanBytes (bytes : List ℕ) (moments : Option (List ℕ)) (before now : View) (given : Status) : Type 0 where
  pub jobs : Jobs
  pub of_file : ReadsJobs bytes (Ok jobs)
  pub ran : RanJobs jobs moments before now given

-- the jobs of the file of this content were run
pub record RanContent (content : Option (List ℕ)) (moments : Option (List ℕ)) (before now : View) (given : Status) : Type 0 where
  pub bytes : List ℕ
  pub front : IsFrontOf content bytes
  pub ran : RanBytes bytes moments before now given

-- the jobs of the file of this content were run, or nothing was
abbrev pub RanFile : List ℕ → Option (List ℕ) → Option (List ℕ) → View → View → Status → Type 0
RanFile file content moments before now given =
    Unrun file before now given ⊎ RanContent content moments before now given

-- the bytes of a job file are refused, and the line of their fault, which is not empty, is all that was printed
pub record RefusalPrinted (bytes : List ℕ) (wrote_before wrote : Written) : Type 0 where
  pub why : JobFault
  pub by_fault : ReadsJobs bytes (Err why)
  pub not_memory : why ≢ fault.NoMemory
  pub printed : wrote ≡ append_known wrote_before (fault_line why ++ 10 ∷ [])
