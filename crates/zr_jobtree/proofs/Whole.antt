-- Jobs of an accepted tree have the fields of their kinds, and grids that can be read.
use Rattle.std.proofs.Common.{◌≡◌, ◌≤◌, ◌&&◌, ◌||◌, inl, inr, ℕ, true, false, not, nat_le, List, [], ◌∷◌, Option, Some, None, refl, sym, subst, arith, length}
use Rattle.std.specs.Prelude.{All, is_some}
use Rattle.std.proofs.lemmas.Bool.Decides.{nat_tests}
use Rattle.std.proofs.lemmas.List.Elements.{All-cons}
use Rattle.zr_names.specs.Tree.{Tree, Members, Items, no_items, item}
use Rattle.zr_rules.specs.Specs.{HasGrid}
use Rattle.zr_rules.specs.declared.rule.RuleSpec.{RuleSpec}
use Rattle.zr_grid.specs.Grid.{IsGrid}
use Rattle.zr_grid.specs.declared.grid.GridSpec.{GridSpec}
use Rattle.zr_schedule.specs.declared.schedule.When.{When}
use Rattle.zr_jobset.specs.declared.fields.TheConstants.{MAX_STEPS}
use Rattle.zr_jobset.specs.declared.job.Job.{Job}
use Rattle.zr_jobset.specs.declared.job.JobKind.{JobKind}
use Rattle.zr_jobset.specs.declared.job.JobKind.TheVariants as kinds
use Rattle.zr_jobset.specs.Fields.{AreJobs, IsWhole, is_cron, is_never, is_there}
use Rattle.zr_jobwalk.specs.declared.replicating.Replication.{Replication}
use Rattle.zr_jobwalk.specs.declared.snapshotting.Occasion.{Occasion}
use Rattle.zr_jobwalk.specs.declared.snapshotting.Occasion.TheVariants.{Periodic, Cron, Manual}
use Rattle.zr_jobwalk.specs.declared.snapshotting.Taking.{Taking}
use Rattle.zr_jobwalk.specs.Arrays.{AreAtMost, AreParts, size_of}
use Rattle.zr_jobwalk.specs.Replicating.{IsConcurrency, IsReplication, default_replication}
use Rattle.zr_jobwalk.specs.Snapshotting.{IsTakenOn, IsTaking}
use Rattle.zr_jobwalk.specs.Tables.{Section}
use Rattle.zr_jobwalk.specs.Texts.{IsEvery, IsInterval, IsMinutes, IsPrefix}
use Rattle.zr_jobwalk.specs.Values.{Has, HasOr, IsNumber, IsTable, IsText, IsWithin, SomeIs, array_in, number_in, table_in, text_in}
use Rattle.zr_jobrules.specs.declared.rule.RuleType.{RuleType}
use Rattle.zr_jobrules.specs.declared.rule.RuleType.TheVariants as types
use Rattle.zr_jobrules.specs.declared.rules.TheConstants.{MAX_RULES}
use Rattle.zr_jobrules.specs.Pruning.{IsKeep, IsPruning}
use Rattle.zr_jobrules.specs.Rules.{AreRules, IsRule, IsRuleOf, SpellsGrid}
use Rattle.zr_jobtree.specs.declared.copying.Copying.{Copying}
use Rattle.zr_jobtree.specs.declared.job.NamedJob.{NamedJob}
use Rattle.zr_jobtree.specs.Copying.{IsCopying}
use Rattle.zr_jobtree.specs.Jobs.{IsJobOf, IsNamed}
use Rattle.zr_jobtree.specs.Roots.{IsRoot, named_jobs}

-- what holds of all that a field may give holds of what it gives
some_has : {X Y : Type 0} (Is : X → Y → Type 0) (Good : Y → Type 0) → ((x : X) (y : Y) → Is x y → Good y) → (found : Option X) (y : Y) → SomeIs Is found y → Good y
some_has Is Good each None y is = absurd is
some_has Is Good each (Some x) y is = each x y is

has_has : {X : Type 0} (Takes : Tree → X → Type 0) (Good : X → Type 0) → ((tree : Tree) (x : X) → Takes tree x → Good x) → (found : Option Tree) (x : X) → Has Takes found x → Good x
has_has Takes Good each None x is = absurd is
has_has Takes Good each (Some tree) x is = each tree x is

or_has : {X : Type 0} (default : X) (Takes : Tree → X → Type 0) (Good : X → Type 0) → Good default → ((tree : Tree) (x : X) → Takes tree x → Good x) → (found : Option Tree) (x : X) → HasOr default Takes found x → Good x
or_has default Takes Good good each None x is = subst Good (sym is) good
or_has default Takes Good good each (Some tree) x is = each tree x is

text_has : {X : Type 0} (Is : List ℕ → X → Type 0) (Good : X → Type 0) → ((text : List ℕ) (x : X) → Is text x → Good x) → (found : Option Tree) (x : X) → Has (IsText Is) found x → Good x
text_has Is Good each = has_has (IsText Is) Good (λ tree x. some_has Is Good each (text_in tree) x)

table_has : {X : Type 0} (Is : Members → X → Type 0) (Good : X → Type 0) → ((members : Members) (x : X) → Is members x → Good x) → (found : Option Tree) (x : X) → Has (IsTable Is) found x → Good x
table_has Is Good each = has_has (IsTable Is) Good (λ tree x. some_has Is Good each (table_in tree) x)

-- ---- when snapshots are taken

abbrev Timed : Taking → Type 0
Timed taking = is_there (not (is_never taking.when)) taking.prefix ≡ true

prefix_there : (text : List ℕ) (prefix : Option (List ℕ)) → IsPrefix text prefix → is_some prefix ≡ true
prefix_there text None is = absurd is
prefix_there text (Some prefix) is = refl

every_time : (text : List ℕ) (when : When) → IsEvery text when → is_never when ≡ false
every_time text when is = rw is.every refl

cron_time : (text : List ℕ) (when : When) → IsMinutes text when → is_never when ≡ false
cron_time text when is = rw is.cron refl

both_there : (taking : Taking) → is_some taking.prefix ≡ true → is_never taking.when ≡ false → Timed taking
both_there taking prefix when = rw when prefix

timed_on : (occasion : Occasion) (members : Members) (taking : Taking) → IsTakenOn occasion members taking → Timed taking
timed_on Periodic members taking is =
    both_there taking (text_has IsPrefix (λ prefix. is_some prefix ≡ true) prefix_there _ _ is.0) (text_has IsEvery (λ when. is_never when ≡ false) every_time _ _ is.1)
timed_on Cron members taking is =
    both_there taking (text_has IsPrefix (λ prefix. is_some prefix ≡ true) prefix_there _ _ is.0) (text_has IsMinutes (λ when. is_never when ≡ false) cron_time _ _ is.1)
timed_on Manual inside taking is = rw (is.1, is.0) refl

timed : (found : Option Tree) (taking : Taking) → Has (IsTable IsTaking) found taking → Timed taking
timed = table_has IsTaking Timed (λ members taking is. timed_on is.occasion members taking is.taken)

abbrev FetchTime : When → Type 0
FetchTime when = (is_never when || not (is_cron when)) ≡ true

-- a pull fetches by hand or after each span, never at the minutes of a cron text
fetch_time : (text : List ℕ) (when : When) → IsInterval text when → FetchTime when
fetch_time text when (inl manual) = rw manual.1 refl
fetch_time text when (inr every) = rw every.every refl

-- ---- how many steps run at once

abbrev StepsFit : ℕ → Type 0
StepsFit steps = (nat_le 1 steps && nat_le steps MAX_STEPS) ≡ true

number_fits : (n steps : ℕ) → IsWithin 1 MAX_STEPS n steps → StepsFit steps
number_fits n steps is =
    let same : steps ≡ n = is.0 in
    let low = is.1 in
    let high = is.2 in
    rw same (grind (arith, nat_tests))

concurrency_fits : (members : Members) (steps : ℕ) → IsConcurrency members steps → StepsFit steps
concurrency_fits members steps is =
    or_has 1 (IsNumber 1 MAX_STEPS) StepsFit refl (λ tree n. some_has (IsWithin 1 MAX_STEPS) StepsFit number_fits (number_in tree) n) _ steps is.within

replication_fits : (members : Members) (replication : Replication) → IsReplication members replication → StepsFit replication.steps
replication_fits members replication is =
    or_has 1 (IsTable IsConcurrency) StepsFit refl (λ tree n. some_has IsConcurrency StepsFit concurrency_fits (table_in tree) n) _ replication.steps is.steps

copying_fits : (members : Members) (copying : Copying) → IsCopying members copying → StepsFit copying.replication.steps
copying_fits members copying is =
    or_has default_replication (IsTable IsReplication) (λ (r : Replication). StepsFit r.steps) refl (λ tree r. some_has IsReplication (λ (r : Replication). StepsFit r.steps) replication_fits (table_in tree) r) _ copying.replication is.replicates

-- ---- the grids of rules

grid_of : (kind : RuleType) (members : Members) (rule : RuleSpec) → IsRuleOf kind members rule → HasGrid rule
grid_of types.Grid members rule is =
    let good : IsGrid is.grid.intervals = text_has SpellsGrid (λ (grid : GridSpec). IsGrid grid.intervals) (λ text grid spells. spells.1) _ is.grid is.spelled in
    subst HasGrid (sym is.is) good
grid_of types.LastN inside rule is = subst HasGrid (sym is.is) tt
grid_of types.NotReplicated inside rule is = subst HasGrid (sym is.is) tt
grid_of types.Regex inside rule is = subst HasGrid (sym is.is) tt

rule_grid : (members : Members) (rule : RuleSpec) → IsRule members rule → HasGrid rule
rule_grid members rule is = grid_of is.kind members rule is.keeps

part_grids : (items : Items) (rules : List RuleSpec) → AreParts (IsTable IsRule) items rules → All HasGrid rules
part_grids no_items [] parts = λ k d inside. absurd (omega (arith, inside))
part_grids no_items (rule ∷ rules) parts = absurd parts
part_grids (item tree rest) [] parts = absurd parts
part_grids (item tree rest) (rule ∷ rules) parts =
    All-cons HasGrid rule rules (some_has IsRule HasGrid rule_grid (table_in tree) rule parts.0) (part_grids rest rules parts.1)

array_grids : (items : Items) (rules : List RuleSpec) → AreAtMost MAX_RULES (IsTable IsRule) items rules → All HasGrid rules
array_grids items rules are = part_grids items rules are.parts

grids : (found : Option Tree) (rules : List RuleSpec) → Has AreRules found rules → All HasGrid rules
grids = has_has AreRules (λ rules. All HasGrid rules) (λ tree rules. some_has (AreAtMost MAX_RULES (IsTable IsRule)) (λ rules. All HasGrid rules) array_grids (array_in tree) rules)

no_grids : All HasGrid []
no_grids = λ k d inside. absurd (omega (arith, inside))

-- ---- jobs of each kind

whole_of : (kind : JobKind) (members : Members) (job : Job) → IsJobOf kind members job → IsWhole job
whole_of kinds.Push members job is =
    let prunes = table_has IsPruning (λ pruning. All HasGrid pruning.sender × All HasGrid pruning.receiver) (λ members pruning prunes. (grids _ pruning.sender prunes.sender, grids _ pruning.receiver prunes.receiver)) _ is.pruning is.prunes in
    subst IsWhole (sym is.is) (record {
      ends = refl;
      times = timed _ is.taking is.takes;
      replication = copying_fits members is.copying is.copies;
      lists = refl;
      source_grids = prunes.0;
      target_grids = prunes.1;
    })
whole_of kinds.Pull members job is =
    let prunes = table_has IsPruning (λ pruning. All HasGrid pruning.sender × All HasGrid pruning.receiver) (λ members pruning prunes. (grids _ pruning.sender prunes.sender, grids _ pruning.receiver prunes.receiver)) _ is.pruning is.prunes in
    subst IsWhole (sym is.is) (record {
      ends = refl;
      times = text_has IsInterval FetchTime fetch_time _ is.when is.fetches;
      replication = copying_fits members is.copying is.copies;
      lists = refl;
      source_grids = prunes.0;
      target_grids = prunes.1;
    })
whole_of kinds.Sink inside job is =
    subst IsWhole (sym is.is) (record { ends = refl; times = refl; replication = refl; lists = refl; source_grids = no_grids; target_grids = no_grids })
whole_of kinds.Source inside job is =
    subst IsWhole (sym is.is) (record { ends = refl; times = timed _ is.taking is.takes; replication = refl; lists = refl; source_grids = no_grids; target_grids = no_grids })
whole_of kinds.Snap inside job is =
    let prunes = table_has IsKeep (λ rules. All HasGrid rules) (λ members rules prunes. grids _ rules prunes.keep) _ is.rules is.prunes in
    subst IsWhole (sym is.is) (record { ends = refl; times = timed _ is.taking is.takes; replication = refl; lists = refl; source_grids = prunes; target_grids = no_grids })

named_whole : (members : Members) (named : NamedJob) → IsNamed members named → IsWhole named.job
named_whole members named is = whole_of is.kind members named.job is.job

-- ---- all jobs

parts_whole : (items : Items) (names : List (List ℕ)) (jobs : List Job) → length names ≡ length jobs → AreParts (IsTable IsNamed) items (named_jobs names jobs) → All IsWhole jobs
parts_whole given [] [] long parts = λ k d inside. absurd (omega (arith, inside))
parts_whole given [] (job ∷ jobs) long parts = absurd (omega (arith, long))
parts_whole given (name ∷ names) [] long parts = absurd (omega (arith, long))
parts_whole no_items (name ∷ names) (job ∷ jobs) long parts = absurd parts
parts_whole (item tree rest) (name ∷ names) (job ∷ jobs) long parts =
    All-cons IsWhole job jobs (some_has IsNamed (λ (named : NamedJob). IsWhole named.job) named_whole (table_in tree) (record { name = name; job = job }) parts.0)
    (parts_whole rest names jobs (omega (arith, long)) parts.1)

parts_few : (items : Items) (names : List (List ℕ)) (jobs : List Job) → length names ≡ length jobs → AreParts (IsTable IsNamed) items (named_jobs names jobs) → length jobs ≤ size_of items
parts_few given [] [] long parts = omega arith
parts_few given [] (job ∷ jobs) long parts = absurd (omega (arith, long))
parts_few given (name ∷ names) [] long parts = absurd (omega (arith, long))
parts_few no_items (name ∷ names) (job ∷ jobs) long parts = absurd parts
parts_few (item tree rest) (name ∷ names) (job ∷ jobs) long parts =
    let fewer = parts_few rest names jobs (omega (arith, long)) parts.1 in
    omega (arith, fewer)

pub are_jobs : (root : Section) (names : List (List ℕ)) (jobs : List Job) → IsRoot root names jobs → AreJobs names jobs
are_jobs root names jobs is =
    let parts = is.named.each in
    let fewer = parts_few is.items names jobs is.named.as_many parts in
    record {
      named = is.named.as_many;
      few = omega (arith, fewer, is.named.few);
      each = parts_whole is.items names jobs is.named.as_many parts;
    }
