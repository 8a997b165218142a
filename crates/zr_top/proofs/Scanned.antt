use Rattle.std.proofs.Common.{◌≡◌, ℕ, Option, Some, true, false, List, [], ◌∷◌, refl, subst, sym, get_or}
use Rattle.std.specs.List.{All}
use Rattle.std.proofs.lemmas.List.Elements.{All-nil, Contains-get_or}
use Rattle.zr_names.specs.declared.outcome.Outcome.{Outcome}
use Rattle.zr_names.specs.declared.outcome.Outcome.TheVariants as outcome
use Rattle.zr_names.specs.declared.unit.Unit.{Unit}
use Rattle.zr_names.specs.declared.unit.Work.{Work}
use Rattle.zr_names.specs.declared.unit.Work.TheVariants as work
use Rattle.zr_command.specs.declared.version.SetRow.{SetRow}
use Rattle.zr_jobset.specs.Sets.{Jobs}
use Rattle.zr_jobset.specs.Units.{is_scanned, IsScanned, IsWorkOf, UnitsOf}
use Rattle.zr_command.specs.declared.command.Entry.{Entry}
use Rattle.zr_command.specs.declared.command.Entry.TheVariants.{Begin}
use Rattle.zr_world.specs.Answering.{appended}
use Rattle.zr_permit.specs.Result.{is_out_of_memory}
use Rattle.zr_permit.specs.Sight.{HasEnded, HasJustBegun, Sight}
use Rattle.zr_permit.specs.Transcript.{Legal, Transcript}
use Rattle.zr_jobset.proofs.Pairs.{units-all}
use Rattle.zr_permit.proofs.Running.{ran-with}
use Rattle.zr_snap.proofs.Ends.{gives-same}
use Rattle.zr_snap.specs.Scanning.{Gives}
use Rattle.zr_top.specs.Due.{ScanRan}
use Rattle.zr_top.specs.Units.{IsDueUnit, IsDueWork}

-- the unit is one that a scan gives, for a job at a moment
pub record AtScan (number moment : ℕ) (unit : Unit) : Type 0 where
  pub job_is : unit.job ≡ number
  pub moment_is : unit.moment ≡ moment
  pub work_is : IsDueWork unit.work

is-work : (jobs : Jobs) (unit : Unit) (given : Work) → IsDueWork given → IsScanned jobs unit → IsWorkOf jobs unit given
is-work jobs unit (work.Replicate path) is scanned = scanned
is-work jobs unit (work.PruneSource path) is scanned = scanned
is-work jobs unit given is scanned = absurd is

-- the units of a scan are units of the job file, to replicate or to prune
pub all-due : (jobs : Jobs) (number moment : ℕ) (rows : List SetRow) (units : List Unit) → is_scanned jobs number ≡ true → UnitsOf jobs number moment rows units → All (IsDueUnit jobs) units
all-due jobs number moment rows units inside scan = λ k d within.
    let unit = get_or units k d in
    let at = units-all jobs number moment rows units (AtScan number moment) scan
    (λ path place is fits. record { job_is = refl; moment_is = refl; work_is = tt }) (λ path rule rules is taken. record { job_is = refl; moment_is = refl; work_is = tt }) k d within in
    let by_number : ℕ → Type 0 = λ n. UnitsOf jobs n unit.moment rows units in
    let by_moment : ℕ → Type 0 = λ m. UnitsOf jobs number m rows units in
    let due : ℕ → Type 0 = λ n. is_scanned jobs n ≡ true in
    let scanned : IsScanned jobs unit = record {
      rows = rows;
      units = units;
      scanned = subst by_number (sym at.job_is) (subst by_moment (sym at.moment_is) scan);
      among = Contains-get_or units k d within;
    } in
    record {
      of_file = record {
        of_job = subst due (sym at.job_is) inside;
        work_is = is-work jobs unit unit.work at.work_is scanned;
      };
      work_is = at.work_is;
    }

no-units : (jobs : Jobs) (units : List Unit) → units ≡ [] → All (IsDueUnit jobs) units
no-units jobs units none =
    let all : List Unit → Type 0 = All (IsDueUnit jobs) in
    subst all (sym none) (All-nil (IsDueUnit jobs))

-- the units that a scan gives with any outcome
gives-due : (jobs : Jobs) (unit : Unit) (turns : Transcript) (ended : Outcome) (units : List Unit) → is_scanned jobs unit.job ≡ true → Gives jobs unit turns ended units → All (IsDueUnit jobs) units
gives-due jobs unit turns (outcome.Scanned found too_long) units inside gives =
    all-due jobs unit.job unit.moment gives.rows units inside gives.units_of
gives-due jobs unit turns other units inside gives = no-units jobs units gives

-- the same, of a unit of the same jobs
pub scan-due : (jobs jobs' : Jobs) (unit unit' : Unit) (turns : Transcript) (ended : Outcome) (units : List Unit) → jobs' ≡ jobs → unit' ≡ unit → is_scanned jobs unit.job ≡ true → Gives jobs' unit' turns ended units → All (IsDueUnit jobs) units
scan-due jobs jobs' unit unit' turns ended units same_jobs same_unit inside gives =
    gives-due jobs unit turns ended units inside (gives-same jobs jobs' unit unit' turns ended units same_jobs same_unit gives)

-- what a scan found, by the transcript of its record, which may be another only for want of memory
finds : (jobs : Jobs) (unit : Unit) (turns kept : Transcript) (ended : Outcome) (units : List Unit) → Gives jobs unit turns ended units → (is_out_of_memory ended ≡ false → Gives jobs unit kept ended units) → Gives jobs unit kept ended units
finds jobs unit turns kept outcome.NoMemory units gives same = gives
finds jobs unit turns kept other units gives same = same refl

-- a scan that began and ended was run, and found its units
pub scan-ran : (jobs : Jobs) (unit : Unit) (run : ℕ) (before : Option (List Entry)) (begun now : Sight) (ended : Outcome) (units : List Unit) → begun.jobs ≡ jobs → begun.unit ≡ unit → begun.history ≡ appended before (Begin unit run ∷ []) → HasJustBegun begun → Legal now.jobs now.unit now.turns → HasEnded begun now ended → Gives begun.jobs begun.unit now.turns ended units → ScanRan jobs unit run before now.history ended units
scan-ran jobs unit run before begun now ended units same_jobs same_unit begins fresh legal has gives' =
    let gives = gives-same jobs begun.jobs unit begun.unit now.turns ended units same_jobs same_unit gives' in
    let Written : Transcript → Type 0 = λ ts. Gives jobs unit ts ended units in
    let ran = ran-with jobs unit run before begun now ended Written same_jobs same_unit begins fresh legal has gives in
    record {
      begun = Some (run, ran.0.turns);
      numbered = refl;
      ends_well = (ran.0.legal, ran.0.result);
      recorded = ran.0.recorded;
      finds = finds jobs unit now.turns ran.0.turns ended units gives ran.1;
    }
