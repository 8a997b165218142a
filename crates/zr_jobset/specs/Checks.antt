-- The eight checks of a set of jobs (zrepl's documentation, "Job Types", "Filter Syntax", "Pruning Policies").
use Rattle.std.specs.Prelude.{◌≡◌, ℕ, suc, ◌<◌, ◌&&◌, ◌||◌, Bool, true, false, not, List, Option, nat_eq, take, slice_get}
use Rattle.std.specs.List.{list_any}
use Rattle.std.specs.Cmp.Lexicographic.{pointwise}
use Rattle.zr_filter.specs.Rule.{is_within, reaches}
use Rattle.zr_rules.specs.declared.rule.RuleSpec.{RuleSpec}
use Rattle.zr_rules.specs.declared.rule.RuleSpec.TheVariants as rule
use Rattle.zr_jobset.specs.declared.job.Job.{Job}
use Rattle.zr_jobset.specs.declared.checks.Check.{Check}
use Rattle.zr_jobset.specs.declared.checks.Check.TheVariants as checks
use Rattle.zr_jobset.specs.declared.checking.CheckFault.{CheckFault}
use Rattle.zr_jobset.specs.declared.checking.CheckFault.TheVariants as fault
use Rattle.zr_jobset.specs.Kinds.{is_client, is_named, is_push, is_server, is_snap, meets, serves, some_passes}

-- a job's name is that of an earlier job
abbrev pub has_taken_name : List (List ℕ) → List ℕ → Bool
has_taken_name before name = list_any (pointwise nat_eq name) before

-- a job serves a listener that an earlier job serves
abbrev pub has_taken_listener : List Job → Job → Bool
has_taken_listener before job =
    is_server job.kind && some_passes (λ name. list_any (serves name) before) job.listener

-- a client's listener is one that no job serves
abbrev pub has_no_listener : List Job → Job → Bool
has_no_listener jobs job =
    is_client job.kind && some_passes (λ name. not (list_any (serves name) jobs)) job.listener

-- a job serves this listener, and a client of that kind does not work with it
abbrev pub serves_others : Job → List ℕ → Job → Bool
serves_others client name job = serves name job && not (meets client.kind job.kind)

-- a push's listener is served by another job than a sink, or a pull's by another than a source
abbrev pub has_wrong_listener : List Job → Job → Bool
has_wrong_listener jobs job =
    is_client job.kind && some_passes (λ name. list_any (serves_others job name) jobs) job.listener

-- a push job has this listener and this identity
abbrev pub pushes_as : List ℕ → List ℕ → Job → Bool
pushes_as listener identity job =
    is_push job.kind && (is_named listener job.listener && is_named identity job.identity)

-- an earlier push job has this listener and the identity that is there
abbrev pub is_pushed_as : List Job → Option (List ℕ) → List ℕ → Bool
is_pushed_as before identity listener =
    some_passes (λ identity. list_any (pushes_as listener identity) before) identity

-- a push job has the listener and the identity of an earlier one
abbrev pub has_same_identity : List Job → Job → Bool
has_same_identity before job =
    is_push job.kind && some_passes (is_pushed_as before job.identity) job.listener

-- two roots are equal, or one is inside the other
abbrev pub are_nested : List ℕ → List ℕ → Bool
are_nested root other = is_within root other || is_within other root

abbrev pub has_root_nested : List ℕ → Job → Bool
has_root_nested root job = some_passes (are_nested root) job.root

-- a job's root and that of an earlier job are equal, or one is inside the other
abbrev pub has_nested_root : List Job → Job → Bool
has_nested_root before job = some_passes (λ root. list_any (has_root_nested root) before) job.root

-- a job's filter may match the other's root, or a path below it
abbrev pub reaches_root_of : Job → Job → Bool
reaches_root_of job other = some_passes (reaches job.filter) other.root

abbrev pub are_mixed : Job → Job → Bool
are_mixed job other = reaches_root_of job other || reaches_root_of other job

-- the filter of one job reaches the root of another: this job has one of them, and this or an earlier one the other
abbrev pub has_source_in_root : List Job → Job → Bool
has_source_in_root so_far job = list_any (are_mixed job) so_far

abbrev pub is_not_replicated : RuleSpec → Bool
is_not_replicated (rule.Grid spec regex) = false
is_not_replicated (rule.LastN count regex) = false
is_not_replicated (rule.NotReplicated at_cursor) = true
is_not_replicated (rule.Regex regex negate) = false

-- `not_replicated` is among the rules of the receiving side, or of a snap job, where there is no cursor
abbrev pub has_rule_not_here : Job → Bool
has_rule_not_here job =
    list_any is_not_replicated job.keep_target
    || (is_snap job.kind && list_any is_not_replicated job.keep_source)

abbrev pub migrates : Job → Bool
migrates job = job.migrate

-- a job takes over the old cursor, as an earlier one does
abbrev pub migrates_again : List Job → Job → Bool
migrates_again before job = job.migrate && list_any migrates before

-- whether a check shows at the job of this number
abbrev pub shows_at : List (List ℕ) → List Job → ℕ → Check → Job → Bool
shows_at names jobs number checks.DuplicateName job =
    some_passes (has_taken_name (take number names)) (slice_get names number)
    || has_taken_listener (take number jobs) job
shows_at names jobs number checks.NoListener job = has_no_listener jobs job
shows_at names jobs number checks.WrongListenerType job = has_wrong_listener jobs job
shows_at names jobs number checks.SameIdentity job = has_same_identity (take number jobs) job
shows_at names jobs number checks.RootsNested job = has_nested_root (take number jobs) job
shows_at names jobs number checks.SourceInRoot job = has_source_in_root (take (suc number) jobs) job
shows_at names jobs number checks.RuleNotHere job = has_rule_not_here job
shows_at names jobs number checks.MigrateTwice job = migrates_again (take number jobs) job

abbrev pub shows : List (List ℕ) → List Job → Check → ℕ → Bool
shows names jobs check number =
    some_passes (shows_at names jobs number check) (slice_get jobs number)

-- the checks in their order
abbrev pub order : Check → ℕ
order checks.DuplicateName = 0
order checks.NoListener = 1
order checks.WrongListenerType = 2
order checks.SameIdentity = 3
order checks.RootsNested = 4
order checks.SourceInRoot = 5
order checks.RuleNotHere = 6
order checks.MigrateTwice = 7

-- a check shows at no job
abbrev pub Passes : List (List ℕ) → List Job → Check → Type 0
Passes names jobs check = (number : ℕ) → shows names jobs check number ≡ false

-- the checks before this place of the order show at no job
abbrev pub PassBefore : List (List ℕ) → List Job → ℕ → Type 0
PassBefore names jobs place = (check : Check) → order check < place → Passes names jobs check

-- no check shows at any job
abbrev pub IsAccepted : List (List ℕ) → List Job → Type 0
IsAccepted names jobs = (check : Check) → Passes names jobs check

-- the least check that shows, and the least job at which it does
pub record IsFirst (names : List (List ℕ)) (jobs : List Job) (check : Check) (number : ℕ) : Type 0 where
  pub shown : shows names jobs check number ≡ true
  pub at_none_before : (earlier : ℕ) → earlier < number → shows names jobs check earlier ≡ false
  pub others_pass : PassBefore names jobs (order check)

-- why a set is refused; want of memory is told only of one that no check refuses
abbrev pub RefusedBy : List (List ℕ) → List Job → CheckFault → Type 0
RefusedBy names jobs (fault.DuplicateName number) = IsFirst names jobs checks.DuplicateName number
RefusedBy names jobs (fault.NoListener number) = IsFirst names jobs checks.NoListener number
RefusedBy names jobs (fault.WrongListenerType number) = IsFirst names jobs checks.WrongListenerType number
RefusedBy names jobs (fault.SameIdentity number) = IsFirst names jobs checks.SameIdentity number
RefusedBy names jobs (fault.RootsNested number) = IsFirst names jobs checks.RootsNested number
RefusedBy names jobs (fault.SourceInRoot number) = IsFirst names jobs checks.SourceInRoot number
RefusedBy names jobs (fault.RuleNotHere number) = IsFirst names jobs checks.RuleNotHere number
RefusedBy names jobs (fault.MigrateTwice number) = IsFirst names jobs checks.MigrateTwice number
RefusedBy names jobs fault.NoMemory = IsAccepted names jobs

-- the fault of a check at a job
abbrev pub fault_of : Check → ℕ → CheckFault
fault_of checks.DuplicateName number = fault.DuplicateName number
fault_of checks.NoListener number = fault.NoListener number
fault_of checks.WrongListenerType number = fault.WrongListenerType number
fault_of checks.SameIdentity number = fault.SameIdentity number
fault_of checks.RootsNested number = fault.RootsNested number
fault_of checks.SourceInRoot number = fault.SourceInRoot number
fault_of checks.RuleNotHere number = fault.RuleNotHere number
fault_of checks.MigrateTwice number = fault.MigrateTwice number
