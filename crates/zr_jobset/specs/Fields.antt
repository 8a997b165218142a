-- The fields that a job of each kind has, and those that it has not.
use Rattle.std.specs.Prelude.{◌≡◌, ℕ, ◌≤◌, ◌==◌, ◌&&◌, ◌||◌, Bool, true, false, not, if◌then◌else◌, nat_le, List, Option, is_some, length, All}
use Rattle.zr_names.specs.declared.policy.Initial.{Initial}
use Rattle.zr_names.specs.declared.policy.Initial.TheVariants as initial
use Rattle.zr_names.specs.declared.policy.Protection.{Protection}
use Rattle.zr_names.specs.declared.policy.Protection.TheVariants as protection
use Rattle.zr_schedule.specs.declared.schedule.When.{When}
use Rattle.zr_schedule.specs.declared.schedule.When.TheVariants.{Never, Every, Cron}
use Rattle.zr_rules.specs.Specs.{HasGrid}
use Rattle.zr_jobset.specs.declared.job.JobKind.{JobKind}
use Rattle.zr_jobset.specs.declared.job.Policy.{Policy}
use Rattle.zr_jobset.specs.declared.job.Job.{Job}
use Rattle.zr_jobset.specs.declared.fields.TheConstants.{MAX_STEPS}
use Rattle.zr_jobset.specs.declared.set.TheConstants.{MAX_JOBS}
use Rattle.zr_jobset.specs.Kinds.{is_client, is_server, is_push, is_pull, is_snap, is_sink, is_source}

-- something is there exactly where it is wanted
abbrev pub is_there : {X : Type 0} → Bool → Option X → Bool
is_there wanted o = if wanted then is_some o else not (is_some o)

-- the listener, the root and the identity
abbrev pub has_ends : Job → Bool
has_ends job =
    is_there (is_client job.kind || is_server job.kind) job.listener
    && (is_there (is_pull job.kind || is_sink job.kind) job.root
    && is_there (is_client job.kind) job.identity)

-- jobs of this kind have filesystems of their own, of which they take snapshots
abbrev pub takes_snapshots : JobKind → Bool
takes_snapshots kind = is_push kind || (is_source kind || is_snap kind)

abbrev pub is_never : When → Bool
is_never Never = true
is_never (Every ms) = false
is_never (Cron spec) = false

abbrev pub is_cron : When → Bool
is_cron Never = false
is_cron (Every ms) = false
is_cron (Cron spec) = true

-- snapshots are taken by hand, or at times and with a prefix; a pull has an interval alone, or none
abbrev pub has_times : Job → Bool
has_times job =
    if takes_snapshots job.kind then is_there (not (is_never job.when)) job.prefix
    else (not (is_some job.prefix)
    && (is_never job.when || (is_pull job.kind && not (is_cron job.when))))

abbrev pub is_most_recent : Initial → Bool
is_most_recent initial.MostRecent = true
is_most_recent initial.All = false
is_most_recent initial.Fail = false

abbrev pub is_resumability : Protection → Bool
is_resumability protection.Resumability = true
is_resumability protection.Incremental = false
is_resumability protection.Nothing = false

abbrev pub is_default : Policy → Bool
is_default policy =
    is_most_recent policy.initial && (is_resumability policy.first && is_resumability policy.later)

-- how a client replicates; another job has the defaults
abbrev pub has_replication : Job → Bool
has_replication job =
    if is_client job.kind then (nat_le 1 job.steps && nat_le job.steps MAX_STEPS)
    else (is_default job.policy && ((job.steps == 1) && not job.migrate))

-- the filesystems and the rules that the kind has not are empty
abbrev pub has_lists : Job → Bool
has_lists job =
    (takes_snapshots job.kind || (length job.filter.entries == 0))
    && ((is_client job.kind || (is_snap job.kind || (length job.keep_source == 0)))
    && (is_client job.kind || (length job.keep_target == 0)))

-- a job has the fields of its kind, and `read_grid` can give each grid of its rules
pub record IsWhole (job : Job) : Type 0 where
  pub ends : has_ends job ≡ true
  pub times : has_times job ≡ true
  pub replication : has_replication job ≡ true
  pub lists : has_lists job ≡ true
  pub source_grids : All HasGrid job.keep_source
  pub target_grids : All HasGrid job.keep_target

-- some jobs, each with a name
pub record AreJobs (names : List (List ℕ)) (jobs : List Job) : Type 0 where
  pub named : length names ≡ length jobs
  pub few : length jobs ≤ MAX_JOBS
  pub each : All IsWhole jobs
