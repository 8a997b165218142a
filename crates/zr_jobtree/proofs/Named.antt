-- Jobs with their names, one more.
use Rattle.std.proofs.Common.{◌≡◌, ◌++◌, ℕ, List, [], ◌∷◌, refl, ap, arith, length}
use Rattle.zr_jobset.specs.declared.job.Job.{Job}
use Rattle.zr_jobtree.specs.declared.job.NamedJob.{NamedJob}
use Rattle.zr_jobtree.specs.Roots.{named_jobs}

pub named_more : (names : List (List ℕ)) (jobs : List Job) (named : NamedJob) → length names ≡ length jobs → named_jobs (names ++ named.name ∷ []) (jobs ++ named.job ∷ []) ≡ named_jobs names jobs ++ named ∷ []
named_more [] [] named long = refl
named_more [] (job ∷ jobs) named long = absurd (omega (arith, long))
named_more (name ∷ names) [] named long = absurd (omega (arith, long))
named_more (name ∷ names) (job ∷ jobs) named long =
    ap (λ (more : List NamedJob). record { name = name; job = job } ∷ more) (named_more names jobs named (omega (arith, long)))
