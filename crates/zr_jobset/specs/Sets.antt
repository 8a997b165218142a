-- Sets of jobs that no check refuses.
use Rattle.std.specs.Prelude.{ℕ, List, Option, slice_get}
use Rattle.zr_jobset.specs.declared.job.Job.{Job}
use Rattle.zr_jobset.specs.Checks.{IsAccepted}
use Rattle.zr_jobset.specs.Fields.{AreJobs}

-- jobs with their names, in the order of the file
pub record Jobs : Type 0 where
  pub names : List (List ℕ)
  pub jobs : List Job

abbrev pub set_of : List (List ℕ) → List Job → Jobs
set_of names jobs = record { names = names; jobs = jobs }

-- whole jobs that no check refuses
pub record IsChecked (set : Jobs) : Type 0 where
  pub whole : AreJobs set.names set.jobs
  pub accepted : IsAccepted set.names set.jobs

-- the job of this number
abbrev pub job_at : Jobs → ℕ → Option Job
job_at set number = slice_get set.jobs number
