use Rattle.std.specs.Prelude.{◌≡◌, ◌⊎◌, ℕ, List, [], ◌++◌, Option, Some, None, All, filter, flat_map, length, map}
use Rattle.std.specs.List.{AllZip, range_with_len}
use Rattle.zr_base.specs.Count.{Rose}
use Rattle.zr_names.specs.declared.outcome.Outcome.{Outcome}
use Rattle.zr_names.specs.declared.totals.Totals.{Totals}
use Rattle.zr_names.specs.declared.unit.Unit.{Unit}
use Rattle.zr_names.specs.declared.unit.Work.TheVariants as work
use Rattle.zr_command.specs.declared.command.Entry.{Entry}
use Rattle.zr_world.specs.Answering.{appended}
use Rattle.zr_jobset.specs.Sets.{Jobs}
use Rattle.zr_jobset.specs.Units.{is_scanned}
use Rattle.zr_permit.specs.Transcript.{Transcript}
use Rattle.zr_snap.specs.Scanning.{Gives}
use Rattle.zr_top.specs.Attempts.{AreNumbered, Attempt, Attempted, EndsWell, entries, IsGood, IsNumbered, no_totals, run_entries, tallied_all, totals_of}

-- the scan of a job at a moment
abbrev pub scan_of : ℕ → ℕ → Unit
scan_of moment number = record { job = number; moment = moment; work = work.Scan }

-- the jobs that are scanned, by their numbers in the order of the file: all but sinks
abbrev pub due_jobs : Jobs → List ℕ
due_jobs jobs = filter (is_scanned jobs) (range_with_len 0 (length jobs.jobs))

-- the scans of these jobs
abbrev pub scans_of : ℕ → List ℕ → List Unit
scans_of moment numbers = map (scan_of moment) numbers

-- the scans that are due at a moment: that of each job that is scanned
abbrev pub due_scans : Jobs → ℕ → List Unit
due_scans jobs moment = scans_of moment (due_jobs jobs)

-- what a scan found: the units of its listing; none where it did not end well or was not begun
abbrev pub GaveUnits : Jobs → Unit → Option (ℕ × Transcript) → Outcome → List Unit → Type 0
GaveUnits jobs unit None ended units = units ≡ []
GaveUnits jobs unit (Some begun) ended units = Gives jobs unit begun.1 ended units

abbrev pub Found : Jobs → Attempt → List Unit → Type 0
Found jobs attempt units = GaveUnits jobs attempt.unit attempt.begun attempt.ended units

-- a scan was run under this number, or could not begin for want of memory, and found these units
pub record ScanRan (jobs : Jobs) (unit : Unit) (run : ℕ) (before now : Option (List Entry)) (ended : Outcome) (units : List Unit) : Type 0 where
  pub begun : Option (ℕ × Transcript)
  pub numbered : IsNumbered run begun
  pub ends_well : EndsWell jobs unit ended begun
  pub recorded : now ≡ appended before (run_entries unit begun)
  pub finds : GaveUnits jobs unit begun ended units

-- the scans of these jobs were run, and each found its units
pub record ScansRan (jobs : Jobs) (moment : ℕ) (numbers : List ℕ) (before now : Option (List Entry)) (start totals : Totals) (found : List (List Unit)) : Type 0 where
  pub attempts : List Attempt
  pub units_are : map (λ (a : Attempt). a.unit) attempts ≡ scans_of moment numbers
  pub good : All (IsGood jobs) attempts
  pub recorded : now ≡ appended before (entries attempts)
  pub numbered : AreNumbered start attempts
  pub totals_are : totals ≡ tallied_all attempts start
  pub found_are : AllZip (Found jobs) attempts found

-- units of several scans one after the other
abbrev pub joined : List (List Unit) → List Unit
joined found = flat_map (λ (units : List Unit). units) found

-- of these units the first were run, and these are left
pub record RunUpTo (jobs : Jobs) (all left : List Unit) (before now : Option (List Entry)) (start totals : Totals) : Type 0 where
  pub run : List Unit
  pub parts : run ++ left ≡ all
  pub ran : Attempted jobs run before now start totals

-- all that was due at a moment was attempted: the scan of each job but sinks, in the order of the file, and then each
-- unit that a scan found, once and in this order
pub record AllDue (jobs : Jobs) (moment : ℕ) (attempts : List Attempt) : Type 0 where
  pub scans : List Attempt
  pub others : List Attempt
  pub parts : attempts ≡ scans ++ others
  pub scans_are : map (λ (a : Attempt). a.unit) scans ≡ due_scans jobs moment
  pub found : List (List Unit)
  pub found_are : AllZip (Found jobs) scans found
  pub others_are : map (λ (a : Attempt). a.unit) others ≡ joined found

-- where the clock has ended, nothing is due
abbrev pub IsDue : Jobs → Option ℕ → List Attempt → Type 0
IsDue jobs None attempts = attempts ≡ []
IsDue jobs (Some moment) attempts = AllDue jobs moment attempts

-- all that was due was attempted, and these are the record and the totals
pub record RanDue (jobs : Jobs) (moment : Option ℕ) (before now : Option (List Entry)) (totals : Totals) : Type 0 where
  pub attempts : List Attempt
  pub due : IsDue jobs moment attempts
  pub good : All (IsGood jobs) attempts
  pub recorded : now ≡ appended before (entries attempts)
  pub numbered : AreNumbered no_totals attempts
  pub totals_are : totals ≡ totals_of attempts

-- the totals have as many failed children as before, or the count of failed children rose
abbrev pub FaultsRose : Totals → Totals → ℕ → ℕ → Type 0
FaultsRose start totals before now = (totals.faults ≡ start.faults) ⊎ Rose before now
