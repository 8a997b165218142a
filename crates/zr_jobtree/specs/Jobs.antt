-- What a job of each kind takes (zrepl's documentation, "Job Types"), and the job that it then is. A field that a kind has
-- not is empty, or has its default.
use Rattle.std.specs.Prelude.{◌≡◌, ◌⊎◌, ℕ, false, List, [], Some, None}
use Rattle.zr_names.specs.Tree.{Members}
use Rattle.zr_names.specs.declared.policy.Initial.TheVariants as initial
use Rattle.zr_names.specs.declared.policy.Protection.TheVariants as protection
use Rattle.zr_filter.specs.declared.filter.Filter.{Filter}
use Rattle.zr_rules.specs.declared.rule.RuleSpec.{RuleSpec}
use Rattle.zr_schedule.specs.declared.schedule.When.{When}
use Rattle.zr_schedule.specs.declared.schedule.When.TheVariants as whens
use Rattle.zr_jobset.specs.declared.job.Job.{Job}
use Rattle.zr_jobset.specs.declared.job.JobKind.{JobKind}
use Rattle.zr_jobset.specs.declared.job.JobKind.TheVariants as kinds
use Rattle.zr_jobset.specs.declared.job.Policy.{Policy}
use Rattle.zr_jobwalk.specs.declared.connecting.Client.{Client}
use Rattle.zr_jobwalk.specs.declared.snapshotting.Taking.{Taking}
use Rattle.zr_jobwalk.specs.declared.fault.JobFault.{JobFault}
use Rattle.zr_jobwalk.specs.declared.field.Field.TheVariants as field
use Rattle.zr_jobwalk.specs.Connecting.{ClientFault, IsClient, IsServer, ServerFault}
use Rattle.zr_jobwalk.specs.Faults.{HasFault, IsBad, Must, MustTable, Only, field_of}
use Rattle.zr_jobwalk.specs.Fields.{strangers, value_of}
use Rattle.zr_jobwalk.specs.Snapshotting.{IsTaking, TakingFault}
use Rattle.zr_jobwalk.specs.Tables.{Section}
use Rattle.zr_jobwalk.specs.Texts.{IsInterval, IsJobName, IsPath}
use Rattle.zr_jobwalk.specs.Values.{Has, IsTable, IsText}
use Rattle.zr_jobrules.specs.declared.pruning.Pruning.{Pruning}
use Rattle.zr_jobrules.specs.Filesystems.{FilterFault, IsFilter}
use Rattle.zr_jobrules.specs.Patterns.{Asked}
use Rattle.zr_jobrules.specs.Pruning.{IsKeep, IsPruning, KeepFault, PruningFault}
use Rattle.zr_jobtree.specs.declared.copying.Copying.{Copying}
use Rattle.zr_jobtree.specs.declared.job.NamedJob.{NamedJob}
use Rattle.zr_jobtree.specs.Copying.{Copies, IsCopying}
use Rattle.zr_jobtree.specs.Kinds.{IsKind, fields_of}

-- the policy of a job that replicates so, and of one that replicates nothing
abbrev pub policy_of : Copying → Policy
policy_of copying = record { initial = copying.first; first = copying.replication.guarantees.first; later = copying.replication.guarantees.later }

abbrev pub no_policy : Policy
no_policy = record { initial = initial.MostRecent; first = protection.Resumability; later = protection.Resumability }

abbrev pub no_filter : Filter
no_filter = record { entries = [] }

-- `push`: sends its filesystems to a sink
pub record IsPush (members : Members) (job : Job) : Type 0 where
  pub client : Client
  pub filter : Filter
  pub taking : Taking
  pub copying : Copying
  pub pruning : Pruning
  pub connects : Has (IsTable IsClient) (value_of members field.Connect) client
  pub filters : Has (IsTable IsFilter) (value_of members field.Filesystems) filter
  pub takes : Has (IsTable IsTaking) (value_of members field.Snapshotting) taking
  pub copies : IsCopying members copying
  pub prunes : Has (IsTable IsPruning) (value_of members field.Pruning) pruning
  pub is : job ≡ record { kind = kinds.Push; filter = filter; when = taking.when; prefix = taking.prefix; root = None; listener = Some client.listener; identity = Some client.identity; policy = policy_of copying; steps = copying.replication.steps; migrate = copying.replication.migrate; keep_source = pruning.sender; keep_target = pruning.receiver }

abbrev pub PushFault : Asked → Section → JobFault → Type 0
PushFault asked table fault =
    MustTable IsClient ClientFault field.Connect table fault
    (MustTable IsFilter FilterFault field.Filesystems table fault
    (MustTable IsTaking TakingFault field.Snapshotting table fault
    (Copies table fault
    (MustTable IsPruning (PruningFault asked) field.Pruning table fault ⊥))))

-- `pull`: fetches the filesystems of a source
pub record IsPull (members : Members) (job : Job) : Type 0 where
  pub client : Client
  pub root : List ℕ
  pub when : When
  pub copying : Copying
  pub pruning : Pruning
  pub connects : Has (IsTable IsClient) (value_of members field.Connect) client
  pub puts : Has (IsText IsPath) (value_of members field.RootFs) root
  pub fetches : Has (IsText IsInterval) (value_of members field.Interval) when
  pub copies : IsCopying members copying
  pub prunes : Has (IsTable IsPruning) (value_of members field.Pruning) pruning
  pub is : job ≡ record { kind = kinds.Pull; filter = no_filter; when = when; prefix = None; root = Some root; listener = Some client.listener; identity = Some client.identity; policy = policy_of copying; steps = copying.replication.steps; migrate = copying.replication.migrate; keep_source = pruning.sender; keep_target = pruning.receiver }

abbrev pub PullFault : Asked → Section → JobFault → Type 0
PullFault asked table fault =
    MustTable IsClient ClientFault field.Connect table fault
    (Must (IsText IsPath) field.RootFs table fault
    (Must (IsText IsInterval) field.Interval table fault
    (Copies table fault
    (MustTable IsPruning (PruningFault asked) field.Pruning table fault ⊥))))

-- `sink`: receives what push jobs send
pub record IsSink (members : Members) (job : Job) : Type 0 where
  pub listener : List ℕ
  pub root : List ℕ
  pub served : Has (IsTable IsServer) (value_of members field.Serve) listener
  pub puts : Has (IsText IsPath) (value_of members field.RootFs) root
  pub is : job ≡ record { kind = kinds.Sink; filter = no_filter; when = whens.Never; prefix = None; root = Some root; listener = Some listener; identity = None; policy = no_policy; steps = 1; migrate = false; keep_source = []; keep_target = [] }

abbrev pub SinkFault : Section → JobFault → Type 0
SinkFault table fault =
    MustTable IsServer ServerFault field.Serve table fault
    (Must (IsText IsPath) field.RootFs table fault ⊥)

-- `source`: sends to pull jobs what they fetch
pub record IsSource (members : Members) (job : Job) : Type 0 where
  pub listener : List ℕ
  pub filter : Filter
  pub taking : Taking
  pub served : Has (IsTable IsServer) (value_of members field.Serve) listener
  pub filters : Has (IsTable IsFilter) (value_of members field.Filesystems) filter
  pub takes : Has (IsTable IsTaking) (value_of members field.Snapshotting) taking
  pub is : job ≡ record { kind = kinds.Source; filter = filter; when = taking.when; prefix = taking.prefix; root = None; listener = Some listener; identity = None; policy = no_policy; steps = 1; migrate = false; keep_source = []; keep_target = [] }

abbrev pub SourceFault : Section → JobFault → Type 0
SourceFault table fault =
    MustTable IsServer ServerFault field.Serve table fault
    (MustTable IsFilter FilterFault field.Filesystems table fault
    (MustTable IsTaking TakingFault field.Snapshotting table fault ⊥))

-- `snap`: takes and prunes snapshots
pub record IsSnap (members : Members) (job : Job) : Type 0 where
  pub filter : Filter
  pub taking : Taking
  pub rules : List RuleSpec
  pub filters : Has (IsTable IsFilter) (value_of members field.Filesystems) filter
  pub takes : Has (IsTable IsTaking) (value_of members field.Snapshotting) taking
  pub prunes : Has (IsTable IsKeep) (value_of members field.Pruning) rules
  pub is : job ≡ record { kind = kinds.Snap; filter = filter; when = taking.when; prefix = taking.prefix; root = None; listener = None; identity = None; policy = no_policy; steps = 1; migrate = false; keep_source = rules; keep_target = [] }

abbrev pub SnapFault : Asked → Section → JobFault → Type 0
SnapFault asked table fault =
    MustTable IsFilter FilterFault field.Filesystems table fault
    (MustTable IsTaking TakingFault field.Snapshotting table fault
    (MustTable IsKeep (KeepFault asked) field.Pruning table fault ⊥))

abbrev pub IsJobOf : JobKind → Members → Job → Type 0
IsJobOf kinds.Push members job = IsPush members job
IsJobOf kinds.Pull members job = IsPull members job
IsJobOf kinds.Sink members job = IsSink members job
IsJobOf kinds.Source members job = IsSource members job
IsJobOf kinds.Snap members job = IsSnap members job

abbrev pub JobFaultOf : Asked → JobKind → Section → JobFault → Type 0
JobFaultOf asked kinds.Push table fault = PushFault asked table fault
JobFaultOf asked kinds.Pull table fault = PullFault asked table fault
JobFaultOf asked kinds.Sink table fault = SinkFault table fault
JobFaultOf asked kinds.Source table fault = SourceFault table fault
JobFaultOf asked kinds.Snap table fault = SnapFault asked table fault

-- a job: its name, its type, and the fields of that type and no others
pub record IsNamed (members : Members) (named : NamedJob) : Type 0 where
  pub kind : JobKind
  pub typed : Has (IsText IsKind) (value_of members field.Type) kind
  pub only : strangers (fields_of kind) members ≡ []
  pub name : Has (IsText IsJobName) (value_of members field.Name) named.name
  pub job : IsJobOf kind members named.job

-- the type comes first, then what is none of its fields, the name, and what the type has
abbrev pub NamedFault : Asked → Section → JobFault → Type 0
NamedFault asked table fault =
    HasFault (IsBad (IsText IsKind)) table field.Type fault
    ⊎ ((kind : JobKind) × Has (IsText IsKind) (field_of table field.Type) kind
    × Only (fields_of kind) table fault
    (Must (IsText IsJobName) field.Name table fault (JobFaultOf asked kind table fault)))
