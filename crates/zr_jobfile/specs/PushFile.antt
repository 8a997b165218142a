-- A job file with a push job and, behind it, the sink job that it pushes to.
use Rattle.std.specs.Prelude.{◌≡◌, ℕ, true, false, codes, List, [], ◌∷◌, Some, None}
use Rattle.toml.specs.Data.{Data, string, array, table, no_items, item, Members, no_members, member}
use Rattle.zr_names.specs.declared.names.TheConstants.{JOB_LIMIT, PATH_LIMIT}
use Rattle.zr_names.specs.Names.{IsName, name_is_bad, path_is_bad}
use Rattle.zr_filter.specs.declared.filter.Filter.{Filter}
use Rattle.zr_jobs.specs.Identities.{IsIdentity}
use Rattle.zr_jobset.specs.Checks.{IsAccepted}
use Rattle.zr_jobset.specs.Sets.{Jobs, set_of}
use Rattle.zr_jobset.specs.declared.job.Job.{Job}
use Rattle.zr_jobset.specs.declared.job.JobKind.TheVariants.{Push, Sink}
use Rattle.zr_schedule.specs.declared.schedule.When.TheVariants.{Never}
use Rattle.zr_jobfile.specs.SnapFile.{sole}
use Rattle.zr_jobfile.specs.Trees.{default_policy, filter_tree, job_end, type_end}

-- what is free in a push job
pub record PushJob : Type 0 where
  pub name : List ℕ
  pub listener : List ℕ
  pub identity : List ℕ
  pub path : List ℕ

-- what is free in a sink job
pub record SinkJob : Type 0 where
  pub name : List ℕ
  pub root : List ℕ
  pub listener : List ℕ

-- `listener_name = "LISTENER", type = "local"`, with which both ends of a connection end
abbrev pub local_end : List ℕ → Members
local_end listener = member (codes "listener_name") (string listener) (type_end (codes "local"))

-- `client_identity = "IDENTITY"` before that, at the connecting end
abbrev pub connect_end : List ℕ → List ℕ → Members
connect_end identity listener = member (codes "client_identity") (string identity) (local_end listener)

-- `{ client_identity = "IDENTITY", listener_name = "LISTENER", type = "local" }`
abbrev pub connect_tree : List ℕ → List ℕ → Data
connect_tree identity listener = table (connect_end identity listener)

-- `{ listener_name = "LISTENER", type = "local" }`
abbrev pub serve_tree : List ℕ → Data
serve_tree listener = table (local_end listener)

-- `keep_receiver = [], keep_sender = []`
abbrev pub no_rules_end : Members
no_rules_end =
    member (codes "keep_receiver") (array no_items)
    (member (codes "keep_sender") (array no_items)
    no_members)

-- `{ keep_receiver = [], keep_sender = [] }`
abbrev pub no_rules_tree : Data
no_rules_tree = table no_rules_end

-- `pruning = { .. }` without rules, `snapshotting = { type = "manual" }, type = "push"`, with which a push job ends
abbrev pub push_end : Members
push_end = member (codes "pruning") no_rules_tree (job_end (codes "push"))

-- a push job
abbrev pub push_tree : PushJob → Data
push_tree job =
    table (member (codes "connect") (connect_tree job.identity job.listener)
    (member (codes "filesystems") (filter_tree job.path)
    (member (codes "name") (string job.name)
    push_end)))

-- a sink job
abbrev pub sink_tree : SinkJob → Data
sink_tree job =
    table (member (codes "name") (string job.name)
    (member (codes "root_fs") (string job.root)
    (member (codes "serve") (serve_tree job.listener)
    (type_end (codes "sink")))))

-- an array of two
abbrev pub two_items : Data → Data → Data
two_items first second = array (item first (item second no_items))

-- a job file with these two jobs
abbrev pub two_jobs_file : Data → Data → Members
two_jobs_file first second = member (codes "jobs") (two_items first second) no_members

-- a job file with a push job and then a sink job
abbrev pub push_file : PushJob → SinkJob → Members
push_file push sink = two_jobs_file (push_tree push) (sink_tree sink)

-- the filter that matches this filesystem alone
abbrev pub only_path : List ℕ → Filter
only_path path = sole (record { path = Some path; subtree = false; allow = true })

-- the job of a push job's table: it pushes one filesystem and prunes nothing
abbrev pub push_job : PushJob → Job
push_job job = record {
  kind = Push;
  filter = only_path job.path;
  when = Never;
  prefix = None;
  root = None;
  listener = Some job.listener;
  identity = Some job.identity;
  policy = default_policy;
  steps = 1;
  migrate = false;
  keep_source = [];
  keep_target = [];
}

-- the job of a sink job's table
abbrev pub sink_job : SinkJob → Job
sink_job job = record {
  kind = Sink;
  filter = record { entries = [] };
  when = Never;
  prefix = None;
  root = Some job.root;
  listener = Some job.listener;
  identity = None;
  policy = default_policy;
  steps = 1;
  migrate = false;
  keep_source = [];
  keep_target = [];
}

abbrev pub pair_names : PushJob → SinkJob → List (List ℕ)
pair_names push sink = push.name ∷ sink.name ∷ []

abbrev pub pair_jobs : PushJob → SinkJob → List Job
pair_jobs push sink = push_job push ∷ sink_job sink ∷ []

-- what is free in a push job is of its form
pub record IsGoodPush (push : PushJob) : Type 0 where
  pub listener : IsName name_is_bad JOB_LIMIT push.listener
  pub identity : IsIdentity push.identity
  pub path : IsName path_is_bad PATH_LIMIT push.path

-- the same of a sink job
pub record IsGoodSink (sink : SinkJob) : Type 0 where
  pub listener : IsName name_is_bad JOB_LIMIT sink.listener
  pub root : IsName path_is_bad PATH_LIMIT sink.root

-- the names of both
pub record AreGoodNames (push : PushJob) (sink : SinkJob) : Type 0 where
  pub of_push : IsName name_is_bad JOB_LIMIT push.name
  pub of_sink : IsName name_is_bad JOB_LIMIT sink.name

-- all that is free is of its form, and no check of the set of both jobs refuses them: the names differ, the push job finds
-- the sink's listener, and what it sends is not in the sink's root
pub record ArePaired (push : PushJob) (sink : SinkJob) : Type 0 where
  pub names : AreGoodNames push sink
  pub good_push : IsGoodPush push
  pub good_sink : IsGoodSink sink
  pub accepted : IsAccepted (pair_names push sink) (pair_jobs push sink)

-- the jobs of a push job and its sink job
abbrev pub pushing : PushJob → SinkJob → Jobs
pushing push sink = set_of (pair_names push sink) (pair_jobs push sink)

-- the tree is that of a push job file, and these are its jobs
pub record IsPushFile (tree : Members) (jobs : Jobs) : Type 0 where
  pub push : PushJob
  pub sink : SinkJob
  pub tree_is : tree ≡ push_file push sink
  pub paired : ArePaired push sink
  pub jobs_are : jobs ≡ pushing push sink
