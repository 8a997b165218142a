use Rattle.std.specs.Prelude.{⊤, ◌≡◌, ℕ, ◌+◌, ◌-◌, ◌^◌, min, List, [], ◌∷◌, Option, Some, None, All, flat_map, fold, map}
use Rattle.zr_names.specs.declared.outcome.Outcome.{Outcome}
use Rattle.zr_names.specs.declared.outcome.Outcome.TheVariants as outcome
use Rattle.zr_names.specs.declared.totals.Totals.{Totals}
use Rattle.zr_names.specs.declared.unit.Unit.{Unit}
use Rattle.zr_names.specs.Totals.{counted, plus}
use Rattle.zr_command.specs.declared.command.Entry.{Entry}
use Rattle.zr_command.specs.declared.command.Entry.TheVariants.{Begin}
use Rattle.zr_world.specs.Answering.{appended}
use Rattle.zr_jobset.specs.Sets.{Jobs}
use Rattle.zr_jobset.specs.Units.{IsOfFile}
use Rattle.zr_permit.specs.Runs.{EndsAs}
use Rattle.zr_permit.specs.Transcript.{Legal, Transcript}
use Rattle.zr_permit.specs.Turned.{calls}

-- a unit that was due: how it ended, and where it was begun, its run number and its transcript
pub record Attempt : Type 0 where
  pub unit : Unit
  pub begun : Option (ℕ × Transcript)
  pub ended : Outcome

-- what a unit leaves in a runner's record: a begun run, or nothing
abbrev pub run_entries : Unit → Option (ℕ × Transcript) → List Entry
run_entries unit None = []
run_entries unit (Some begun) = Begin unit begun.0 ∷ calls begun.1

abbrev pub entries : List Attempt → List Entry
entries attempts = flat_map (λ (a : Attempt). run_entries a.unit a.begun) attempts

-- a begun run is legal and ended with its result, and with want of memory only where no command failed and no listing was
-- garbled before it; only for want of memory a unit is not begun
abbrev pub EndsWell : Jobs → Unit → Outcome → Option (ℕ × Transcript) → Type 0
EndsWell jobs unit ended None = ended ≡ outcome.NoMemory
EndsWell jobs unit ended (Some begun) =
    Legal jobs unit begun.1 × EndsAs jobs unit begun.1 ended

-- a unit of the job file that ended as its transcript says
pub record IsGood (jobs : Jobs) (attempt : Attempt) : Type 0 where
  pub of_file : IsOfFile jobs attempt.unit
  pub ends_well : EndsWell jobs attempt.unit attempt.ended attempt.begun

-- the totals with one due unit more, which ended so
abbrev pub tallied : Outcome → Totals → Totals
tallied ended t = record (counted ended t) { due = plus t.due 1 }

-- the totals with some due units more
abbrev pub tallied_all : List Attempt → Totals → Totals
tallied_all attempts totals = fold (λ (t : Totals) (a : Attempt). tallied a.ended t) totals attempts

-- a run was begun under this number, or was not begun
abbrev pub IsNumbered : ℕ → Option (ℕ × Transcript) → Type 0
IsNumbered run None = ⊤
IsNumbered run (Some begun) = begun.0 ≡ run

-- each begun run has the number of its unit among those that were due, counted from 1; so many were due before, by these
-- totals
abbrev pub AreNumbered : Totals → List Attempt → Type 0
AreNumbered t [] = ⊤
AreNumbered t (a ∷ attempts) = IsNumbered (plus t.due 1) a.begun × AreNumbered (tallied a.ended t) attempts

-- these units were attempted, each once and in this order: the runner's record has their begun runs more,
-- each legal and with its result, and the totals count them
pub record Attempted (jobs : Jobs) (due : List Unit) (before now : Option (List Entry)) (start totals : Totals) : Type 0 where
  pub attempts : List Attempt
  pub units_are : map (λ (a : Attempt). a.unit) attempts ≡ due
  pub good : All (IsGood jobs) attempts
  pub recorded : now ≡ appended before (entries attempts)
  pub numbered : AreNumbered start attempts
  pub totals_are : totals ≡ tallied_all attempts start

-- the totals before the first unit
abbrev pub no_totals : Totals
no_totals = record {
  due = 0;
  done = 0;
  coalesced = 0;
  taken = 0;
  fresh = 0;
  steps = 0;
  uptodate = 0;
  conflicts = 0;
  destroyed = 0;
  busy = 0;
  placeholders = 0;
  toolong = 0;
  faults = 0;
  garbled = 0;
  nomemory = 0;
}

-- each of so many units was counted as due, and was done or coalesced
pub record IsBalanced (totals : Totals) (units : ℕ) : Type 0 where
  pub due_are : totals.due ≡ min units (2 ^ 64 - 1)
  pub balanced : totals.due ≡ totals.done + totals.coalesced

-- the totals of some units that were due
abbrev pub totals_of : List Attempt → Totals
totals_of attempts = tallied_all attempts no_totals
