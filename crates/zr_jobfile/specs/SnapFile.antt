-- A job file with one snap job.
use Rattle.std.specs.Prelude.{◌≡◌, ℕ, ◌<◌, ◌≤◌, true, false, codes, List, [], ◌∷◌, None, Ok, pos}
use Rattle.toml.specs.Data.{Data, string, integer, array, table, no_items, item, Members, no_members, member}
use Rattle.zr_names.specs.declared.names.TheConstants.{JOB_LIMIT}
use Rattle.zr_names.specs.Names.{IsName, name_is_bad}
use Rattle.zr_filter.specs.declared.entry.FilterEntry.{FilterEntry}
use Rattle.zr_filter.specs.Patterns.{ReadsPattern}
use Rattle.zr_filter.specs.declared.filter.Filter.{Filter}
use Rattle.zr_jobset.specs.Checks.{IsAccepted}
use Rattle.zr_jobset.specs.Sets.{Jobs, set_of}
use Rattle.zr_jobset.specs.declared.job.Job.{Job}
use Rattle.zr_jobset.specs.declared.job.JobKind.TheVariants.{Snap}
use Rattle.zr_schedule.specs.declared.schedule.When.TheVariants.{Never}
use Rattle.zr_rules.specs.declared.rule.RuleSpec.TheVariants.{LastN}
use Rattle.zr_jobfile.specs.Trees.{default_policy, filter_tree, job_end, only, type_end}

-- `{ type = "last_n", count = COUNT }`
abbrev pub rule_tree : ℕ → Data
rule_tree count =
    table (member (codes "count") (integer (pos count))
    (type_end (codes "last_n")))

-- `{ keep = [RULE] }`
abbrev pub pruning_tree : ℕ → Data
pruning_tree count = only (codes "keep") (array (item (rule_tree count) no_items))

-- a snap job
abbrev pub job_tree : List ℕ → List ℕ → ℕ → Data
job_tree name pattern count =
    table (member (codes "filesystems") (filter_tree pattern)
    (member (codes "name") (string name)
    (member (codes "pruning") (pruning_tree count)
    (job_end (codes "snap")))))

-- a job file with this one job
abbrev pub one_job_file : Data → Members
one_job_file job = member (codes "jobs") (array (item job no_items)) no_members

-- a job file with one snap job
abbrev pub snap_file : List ℕ → List ℕ → ℕ → Members
snap_file name pattern count = one_job_file (job_tree name pattern count)

-- a filter of this one entry
abbrev pub sole : FilterEntry → Filter
sole entry = record { entries = entry ∷ [] }

-- a snap job with this entry as its filter, which keeps the newest `count` snapshots
abbrev pub snap_job : FilterEntry → ℕ → Job
snap_job entry count = record {
  kind = Snap;
  filter = sole entry;
  when = Never;
  prefix = None;
  root = None;
  listener = None;
  identity = None;
  policy = default_policy;
  steps = 1;
  migrate = false;
  keep_source = LastN count None ∷ [];
  keep_target = [];
}

-- the set of one such job
abbrev pub one_job : List ℕ → FilterEntry → ℕ → Jobs
one_job name entry count = set_of (name ∷ []) (snap_job entry count ∷ [])

-- the text is a pattern that includes, and this is its entry
abbrev pub IsPattern : List ℕ → FilterEntry → Type 0
IsPattern text entry = ReadsPattern text true (Ok entry)

-- the tree is that of a snap job file, and these are its jobs
pub record IsSnapFile (tree : Members) (jobs : Jobs) : Type 0 where
  pub name : List ℕ
  pub pattern : List ℕ
  pub entry : FilterEntry
  pub count : ℕ
  pub tree_is : tree ≡ snap_file name pattern count
  pub name_is : IsName name_is_bad JOB_LIMIT name
  pub pattern_is : IsPattern pattern entry
  pub keeps_some : 0 < count
  pub fits : count ≤ 4294967295
  pub accepted : IsAccepted (name ∷ []) (snap_job entry count ∷ [])
  pub jobs_are : jobs ≡ one_job name entry count
