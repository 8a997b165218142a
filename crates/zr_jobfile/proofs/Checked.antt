-- The sets that are checked.
use Rattle.std.specs.Prelude.{⊤}
use Rattle.std.proofs.Common.{arith, ◌≡◌, ℕ, true, false, List, [], ◌∷◌, None, Result, Ok, Err, refl, subst, sym, ◌∙◌}
use Rattle.std.proofs.lemmas.List.Elements.{All-cons, All-nil}
use Rattle.zr_filter.specs.declared.entry.FilterEntry.{FilterEntry}
use Rattle.zr_rules.specs.declared.rule.RuleSpec.TheVariants.{LastN}
use Rattle.zr_rules.specs.Specs.{HasGrid}
use Rattle.zr_jobset.specs.declared.checking.CheckFault.{CheckFault}
use Rattle.zr_jobset.specs.declared.checking.CheckFault.TheVariants as fault
use Rattle.zr_jobset.specs.declared.checks.Check.{Check}
use Rattle.zr_jobset.specs.declared.checks.Check.TheVariants as checks
use Rattle.zr_jobset.specs.declared.job.Job.{Job}
use Rattle.zr_jobset.specs.Checks.{IsAccepted, IsFirst, RefusedBy}
use Rattle.zr_jobset.specs.Fields.{AreJobs, IsWhole}
use Rattle.zr_jobset.specs.Sets.{Jobs, set_of}
use Rattle.zr_jobfile.specs.JobFile.{Gives, refusal}
use Rattle.zr_jobfile.specs.declared.JobFault.{JobFault}
use Rattle.zr_jobfile.specs.declared.JobFault.TheVariants.{TooManyBytes, NotToml, NotBuilt, NoMemory}
use Rattle.zr_jobfile.specs.PushFile.{AreGoodNames, ArePaired, IsGoodPush, IsGoodSink, pair_jobs, pair_names, push_job, pushing, PushJob, sink_job, SinkJob}
use Rattle.zr_jobfile.specs.SnapFile.{snap_job}

shown-accepted : (names : List (List ℕ)) (jobs : List Job) (check : Check) (number : ℕ) → IsFirst names jobs check number → ¬ IsAccepted names jobs
shown-accepted names jobs check number first accepted = let e : true ≡ false = sym first.shown ∙ accepted check number in cc

-- a set that a check refuses gives no jobs
pub refused : (names : List (List ℕ)) (jobs : List Job) (wanted : Jobs) (why : CheckFault) → RefusedBy names jobs why → Gives (IsAccepted names jobs) wanted (Err (refusal why))
refused names jobs wanted (fault.DuplicateName number) first = shown-accepted names jobs checks.DuplicateName number first
refused names jobs wanted (fault.NoListener number) first = shown-accepted names jobs checks.NoListener number first
refused names jobs wanted (fault.WrongListenerType number) first = shown-accepted names jobs checks.WrongListenerType number first
refused names jobs wanted (fault.SameIdentity number) first = shown-accepted names jobs checks.SameIdentity number first
refused names jobs wanted (fault.RootsNested number) first = shown-accepted names jobs checks.RootsNested number first
refused names jobs wanted (fault.SourceInRoot number) first = shown-accepted names jobs checks.SourceInRoot number first
refused names jobs wanted (fault.RuleNotHere number) first = shown-accepted names jobs checks.RuleNotHere number first
refused names jobs wanted (fault.MigrateTwice number) first = shown-accepted names jobs checks.MigrateTwice number first
refused names jobs wanted fault.NoMemory first = tt

-- the job of each table has the fields of its kind
snap-whole : (entry : FilterEntry) (count : ℕ) → IsWhole (snap_job entry count)
snap-whole entry count = record {
  ends = refl;
  times = refl;
  replication = refl;
  lists = refl;
  source_grids = All-cons HasGrid (LastN count None) [] tt (All-nil HasGrid);
  target_grids = All-nil HasGrid;
}

push-whole : (push : PushJob) → IsWhole (push_job push)
push-whole push = record {
  ends = refl;
  times = refl;
  replication = refl;
  lists = refl;
  source_grids = All-nil HasGrid;
  target_grids = All-nil HasGrid;
}

sink-whole : (sink : SinkJob) → IsWhole (sink_job sink)
sink-whole sink = record {
  ends = refl;
  times = refl;
  replication = refl;
  lists = refl;
  source_grids = All-nil HasGrid;
  target_grids = All-nil HasGrid;
}

pub one-whole : (name : List ℕ) (entry : FilterEntry) (count : ℕ) → AreJobs (name ∷ []) (snap_job entry count ∷ [])
one-whole name entry count = record {
  named = refl;
  few = omega arith;
  each = All-cons IsWhole (snap_job entry count) [] (snap-whole entry count) (All-nil IsWhole);
}

pub both-whole : (push : PushJob) (sink : SinkJob) → AreJobs (pair_names push sink) (pair_jobs push sink)
both-whole push sink = record {
  named = refl;
  few = omega arith;
  each =
      All-cons IsWhole (push_job push) (sink_job sink ∷ []) (push-whole push)
      (All-cons IsWhole (sink_job sink) [] (sink-whole sink) (All-nil IsWhole));
}

gives-paired : (push : PushJob) (sink : SinkJob) (result : Result Jobs JobFault) → AreGoodNames push sink → IsGoodPush push × IsGoodSink sink → Gives (IsAccepted (pair_names push sink) (pair_jobs push sink)) (pushing push sink) result → Gives (ArePaired push sink) (pushing push sink) result
gives-paired push sink (Ok set) named good gives =
    (gives.0, record { names = named; good_push = good.0; good_sink = good.1; accepted = gives.1 })
gives-paired push sink (Err TooManyBytes) named good gives = gives
gives-paired push sink (Err NotToml) named good gives = gives
gives-paired push sink (Err NotBuilt) named good gives = λ both. gives both.accepted
gives-paired push sink (Err NoMemory) named good gives = tt

-- what a push job and a sink job give where their parts are good and their set is checked
pub paired : (push : PushJob) (sink : SinkJob) (names : List (List ℕ)) (jobs : List Job) (result : Result Jobs JobFault) → names ≡ pair_names push sink → jobs ≡ pair_jobs push sink → AreGoodNames push sink → IsGoodPush push × IsGoodSink sink → Gives (IsAccepted names jobs) (set_of names jobs) result → Gives (ArePaired push sink) (pushing push sink) result
paired push sink names jobs result names_are jobs_are named good gives =
    let by_names : List (List ℕ) → Type 0 = λ ns. Gives (IsAccepted ns jobs) (set_of ns jobs) result in
    let by_jobs : List Job → Type 0 = λ js. Gives (IsAccepted (pair_names push sink) js) (set_of (pair_names push sink) js) result in
    gives-paired push sink result named good (subst by_jobs jobs_are (subst by_names names_are gives))
