-- The fault of a part as that of the whole: of a kind's fields as the job's, of a job as the array's, of the array as the
-- root's, and of the root as the walk's.
use Rattle.std.proofs.Common.{◌≡◌, ◌≢◌, ◌++◌, ◌∙◌, inl, inr, ℕ, List, [], Some, Result, Ok, Err, IfErr, IfOk, OnOk, codes, ap, subst, sym}
use Rattle.zr_names.specs.Tree.{Tree, Items, Members}
use Rattle.zr_jobset.specs.declared.job.Job.{Job}
use Rattle.zr_jobset.specs.declared.job.JobKind.{JobKind}
use Rattle.zr_jobset.specs.Checks.{IsAccepted}
use Rattle.zr_jobset.specs.Sets.{Jobs, set_of}
use Rattle.zr_jobwalk.specs.declared.fault.JobFault.{JobFault}
use Rattle.zr_jobwalk.specs.declared.fault.JobFault.TheVariants.{NoMemory}
use Rattle.zr_jobwalk.specs.declared.field.Field.TheVariants as field
use Rattle.zr_jobwalk.specs.Arrays.{HasArray}
use Rattle.zr_jobwalk.specs.Faults.{InTable, dotted, field_of}
use Rattle.zr_jobwalk.specs.Fields.{strangers}
use Rattle.zr_jobwalk.specs.Tables.{Section, members_in}
use Rattle.zr_jobwalk.specs.Texts.{IsJobName}
use Rattle.zr_jobwalk.specs.Values.{Has, IsText, table_in}
use Rattle.zr_jobwalk.proofs.Parts.{part_fault}
use Rattle.zr_jobrules.specs.Patterns.{Asked}
use Rattle.zr_jobtree.specs.Jobs.{JobFaultOf, NamedFault}
use Rattle.zr_jobtree.specs.Kinds.{IsKind, fields_of}
use Rattle.zr_jobtree.specs.Roots.{IsRoot, ListFault, RootFault, root_fields}
use Rattle.zr_jobtree.specs.Walks.{Accepts, IsCheckFault, WalkFault, root_of}

pub named_fault : (asked : Asked) (kind : JobKind) (table : Section) (name : List ℕ) (fault : JobFault) → Has (IsText IsKind) (field_of table field.Type) kind → strangers (fields_of kind) table.members ≡ [] → Has (IsText IsJobName) (field_of table field.Name) name → JobFaultOf asked kind table fault → NamedFault asked table fault
named_fault asked kind table name fault typed known has bad =
    inr (kind, typed, inr (known, inr ((name, has), bad)))

pub part_faults : {X : Type 0} (Fault : Section → JobFault → Type 0) (name front : List ℕ) (part : Tree) (members : Members) (result : Result X JobFault) → table_in part ≡ Some members → front ≡ name ++ codes "." → IfErr result (λ fault. fault ≢ NoMemory → Fault (record { front = front; members = members }) fault) → IfErr result (λ fault. fault ≢ NoMemory → InTable Fault name part fault)
part_faults Fault name front part inside (Ok x) is leads bad = tt
part_faults Fault name front part members (Err fault) is leads bad =
    λ other. part_fault Fault name front part members fault is leads (bad other)

pub root_faults : {X : Type 0} (asked : Asked) (root : Section) (own : List ℕ) (items : Items) (result : Result X JobFault) → strangers root_fields root.members ≡ [] → HasArray (field_of root field.Jobs) items → own ≡ dotted root field.Jobs → IfErr result (λ fault. fault ≢ NoMemory → ListFault asked root own items fault) → IfErr result (λ fault. fault ≢ NoMemory → RootFault asked root fault)
root_faults asked root own given (Ok x) known has same bad = tt
root_faults asked root own items (Err fault) known has same bad = λ other.
    let Told : List ℕ → Type 0 = λ name. ListFault asked root name items fault in
    inr (known, inr (items, has, subst Told same (bad other)))

-- a tree's outermost table
abbrev one : List ℕ → Members → Section
one front members = record { front = front; members = members }

pub root_is : (tree : Tree) (front : List ℕ) (members : Members) → front ≡ [] → members ≡ members_in tree → one front members ≡ root_of tree
root_is tree front members none same =
    ap (λ (f : List ℕ). one f members) none ∙ ap (λ (m : Members). one [] m) same

module _ (tree : Tree) (front : List ℕ) (members : Members) (none : front ≡ []) (same : members ≡ members_in tree) where
  abbrev root : Section
  root = record { front = front; members = members }

  pub walk_fault : (asked : Asked) (fault : JobFault) → RootFault asked root fault → WalkFault asked tree fault
  walk_fault asked fault bad =
      let Told : Section → Type 0 = λ s. RootFault asked s fault in
      inl (subst Told (root_is tree front members none same) bad)

  the_root : (names : List (List ℕ)) (jobs : List Job) → IsRoot root names jobs → IsRoot (root_of tree) names jobs
  the_root names jobs is =
      let At : Section → Type 0 = λ s. IsRoot s names jobs in
      subst At (root_is tree front members none same) is

  pub check_faults : (asked : Asked) (names : List (List ℕ)) (jobs : List Job) (result : Result Jobs JobFault) → IsRoot root names jobs → IfErr result (λ fault. fault ≢ NoMemory → IsCheckFault names jobs fault) → IfErr result (λ fault. fault ≢ NoMemory → WalkFault asked tree fault)
  check_faults asked names jobs (Ok set) is bad = tt
  check_faults asked names jobs (Err fault) is bad = λ other.
      inr (names, jobs, the_root names jobs is, bad other)

  pub accepts : (names : List (List ℕ)) (jobs : List Job) (result : Result Jobs JobFault) → IsRoot root names jobs → IfOk result (λ set. set ≡ set_of names jobs) → OnOk result (IsAccepted names jobs) → IfOk result (λ set. Accepts tree set.names set.jobs)
  accepts names jobs (Ok set) is made accepted =
      let At : Jobs → Type 0 = λ s. Accepts tree s.names s.jobs in
      subst At (sym made) (the_root names jobs is, accepted)
  accepts names jobs (Err fault) is made accepted = tt
