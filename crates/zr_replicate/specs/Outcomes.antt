use Rattle.std.specs.Prelude.{⊤, ◌≡◌, ◌==◌, if◌then◌else◌, ℕ, Some, Result, Ok, Err}
use Rattle.zr_names.specs.declared.outcome.Outcome.{Outcome}
use Rattle.zr_names.specs.declared.outcome.Outcome.TheVariants as outcome
use Rattle.zr_names.specs.declared.unit.Unit.{Unit}
use Rattle.zr_names.specs.declared.unit.Work.{Work}
use Rattle.zr_names.specs.declared.unit.Work.TheVariants as work
use Rattle.zr_jobset.specs.Sets.{Jobs}
use Rattle.zr_jobs.specs.declared.pair.Pair.{Pair}
use Rattle.zr_jobset.specs.Units.{pair_of}

-- the work is to replicate a dataset
abbrev pub IsReplicate : Work → Type 0
IsReplicate (work.Replicate path) = ⊤
IsReplicate other = ⊥

-- what a unit replicates
pub record IsPairOf (jobs : Jobs) (unit : Unit) (pair : Pair) : Type 0 where
  pub work_is : unit.work ≡ work.Replicate pair.source
  pub pair_is : pair_of jobs unit.job pair.source ≡ Some pair

-- how a unit ends that has done this many transfers
abbrev pub finished_with : ℕ → Outcome
finished_with steps = if steps == 0 then outcome.UpToDate else outcome.Replicated steps

-- the outcome, whether or not the unit ended early
abbrev pub either_of : Result Outcome Outcome → Outcome
either_of (Ok ended) = ended
either_of (Err ended) = ended
