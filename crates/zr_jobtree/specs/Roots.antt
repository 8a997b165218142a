-- The root of a job file.
use Rattle.std.specs.Prelude.{◌≡◌, ◌⊎◌, ◌≤◌, ◌<◌, ⊤, ℕ, true, List, [], ◌∷◌, Option, Some, None, is_some, length}
use Rattle.zr_names.specs.Tree.{Tree, Items}
use Rattle.zr_jobset.specs.declared.job.Job.{Job}
use Rattle.zr_jobset.specs.declared.set.TheConstants.{MAX_JOBS}
use Rattle.zr_jobwalk.specs.declared.fault.JobFault.{JobFault}
use Rattle.zr_jobwalk.specs.declared.fault.JobFault.TheVariants.{TooMany}
use Rattle.zr_jobwalk.specs.declared.fault.Many.TheVariants as many
use Rattle.zr_jobwalk.specs.declared.field.Field.{Field}
use Rattle.zr_jobwalk.specs.declared.field.Field.TheVariants as field
use Rattle.zr_jobwalk.specs.Arrays.{AreParts, FirstPart, HasArray, NoArray, size_of}
use Rattle.zr_jobwalk.specs.Faults.{First, HasFault, InTable, MayFault, NoTable, Only, dotted, field_of}
use Rattle.zr_jobwalk.specs.Fields.{strangers}
use Rattle.zr_jobwalk.specs.Tables.{Section}
use Rattle.zr_jobwalk.specs.Values.{IsTable, table_in}
use Rattle.zr_jobrules.specs.Patterns.{Asked}
use Rattle.zr_jobtree.specs.declared.job.NamedJob.{NamedJob}
use Rattle.zr_jobtree.specs.Jobs.{IsNamed, NamedFault}

abbrev pub root_fields : List Field
root_fields = field.Jobs ∷ field.Global ∷ []

-- jobs with a name for each
abbrev pub named_jobs : List (List ℕ) → List Job → List NamedJob
named_jobs [] jobs = []
named_jobs (name ∷ names) [] = []
named_jobs (name ∷ names) (job ∷ jobs) =
    record { name = name; job = job } ∷ named_jobs names jobs

-- `global` may be left out, and is a table; what stands in it is not looked at
abbrev pub IsGlobal : Option Tree → Type 0
IsGlobal None = ⊤
IsGlobal (Some tree) = is_some (table_in tree) ≡ true

-- the jobs of these parts, at most 64
pub record AreNamed (root : Section) (items : Items) (names : List (List ℕ)) (jobs : List Job) : Type 0 where
  pub few : size_of items ≤ MAX_JOBS
  pub global : IsGlobal (field_of root field.Global)
  pub as_many : length names ≡ length jobs
  pub each : AreParts (IsTable IsNamed) items (named_jobs names jobs)

-- the root: `jobs`, an array of tables, and `global`
pub record IsRoot (root : Section) (names : List (List ℕ)) (jobs : List Job) : Type 0 where
  pub only : strangers root_fields root.members ≡ []
  pub items : Items
  pub array : HasArray (field_of root field.Jobs) items
  pub named : AreNamed root items names jobs

-- too many jobs, a `global` that is no table, and then the first job with a fault
abbrev pub ListFault : Asked → Section → List ℕ → Items → JobFault → Type 0
ListFault asked root name items fault =
    First ((fault ≡ TooMany many.Jobs) × (MAX_JOBS < size_of items)) (size_of items ≤ MAX_JOBS)
    (First (MayFault NoTable root field.Global fault) (IsGlobal (field_of root field.Global))
    (FirstPart (IsTable IsNamed) (InTable (NamedFault asked)) name 0 items fault))

abbrev pub RootFault : Asked → Section → JobFault → Type 0
RootFault asked root fault =
    Only root_fields root fault
    (HasFault NoArray root field.Jobs fault
    ⊎ ((items : Items) × HasArray (field_of root field.Jobs) items
    × ListFault asked root (dotted root field.Jobs) items fault))
