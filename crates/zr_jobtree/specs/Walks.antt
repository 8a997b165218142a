-- The trees that are accepted as job files, and the first fault of the others.
use Rattle.std.specs.Prelude.{◌≡◌, ◌≢◌, ◌⊎◌, ℕ, List, []}
use Rattle.zr_names.specs.Tree.{Tree}
use Rattle.zr_jobset.specs.declared.checking.CheckFault.{CheckFault}
use Rattle.zr_jobset.specs.declared.checking.CheckFault.TheVariants as refusal
use Rattle.zr_jobset.specs.declared.job.Job.{Job}
use Rattle.zr_jobset.specs.Checks.{IsAccepted, RefusedBy}
use Rattle.zr_jobwalk.specs.declared.fault.JobFault.{JobFault}
use Rattle.zr_jobwalk.specs.declared.fault.JobFault.TheVariants.{Check}
use Rattle.zr_jobwalk.specs.Tables.{Section, members_in}
use Rattle.zr_jobrules.specs.Patterns.{Asked}
use Rattle.zr_jobtree.specs.Roots.{IsRoot, RootFault}

-- a tree as the outermost table; what is no map has no keys
abbrev pub root_of : Tree → Section
root_of tree = record { front = []; members = members_in tree }

-- a tree is a job file with these jobs, which no check refuses
abbrev pub Accepts : Tree → List (List ℕ) → List Job → Type 0
Accepts tree names jobs = IsRoot (root_of tree) names jobs × IsAccepted names jobs

-- the check that refuses the jobs
abbrev pub IsCheckFault : List (List ℕ) → List Job → JobFault → Type 0
IsCheckFault names jobs fault =
    (refused : CheckFault) × (fault ≡ Check refused) × (refused ≢ refusal.NoMemory)
    × RefusedBy names jobs refused

-- the first fault of the tree; where it has none, that of the checks
abbrev pub WalkFault : Asked → Tree → JobFault → Type 0
WalkFault asked tree fault =
    RootFault asked (root_of tree) fault
    ⊎ ((names : List (List ℕ)) × (jobs : List Job) × IsRoot (root_of tree) names jobs
    × IsCheckFault names jobs fault)
