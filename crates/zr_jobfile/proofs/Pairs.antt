-- The files of a push job and its sink job.
use Rattle.std.proofs.Common.{Result, Ok, Err, inl, inr, subst, ◌≡◌}
use Rattle.toml.specs.Data.{Members}
use Rattle.zr_jobset.specs.Sets.{Jobs}
use Rattle.zr_jobfile.specs.declared.JobFault.{JobFault}
use Rattle.zr_jobfile.specs.declared.JobFault.TheVariants.{TooManyBytes, NotToml, NotBuilt, NoMemory}
use Rattle.zr_jobfile.specs.JobFile.{Builds, IsJobFile}
use Rattle.zr_jobfile.specs.PushFile.{IsPushFile}
use Rattle.zr_jobfile.specs.SnapFile.{IsSnapFile}

not-either : (tree : Members) (jobs : Jobs) → ¬ IsSnapFile tree jobs → ¬ IsPushFile tree jobs → ¬ IsJobFile tree jobs
not-either tree jobs snap push (inl file) = snap file
not-either tree jobs snap push (inr file) = push file

push-only : (tree : Members) (built : Result Jobs JobFault) → ((jobs : Jobs) → ¬ IsSnapFile tree jobs) → Builds IsPushFile tree built → Builds IsJobFile tree built
push-only tree (Ok jobs) none push = inr push
push-only tree (Err TooManyBytes) none push = push
push-only tree (Err NotToml) none push = push
push-only tree (Err NotBuilt) none push = λ jobs. not-either tree jobs (none jobs) (push jobs)
push-only tree (Err NoMemory) none push = tt

-- a tree that is no snap job file's is built as a push job file's
pub builds-push : (tree : Members) (fault : JobFault) (built : Result Jobs JobFault) → fault ≡ NotBuilt → Builds IsSnapFile tree (Err fault) → Builds IsPushFile tree built → Builds IsJobFile tree built
builds-push tree fault built is snap push =
    let Snap : JobFault → Type 0 = λ f. Builds IsSnapFile tree (Err f) in
    push-only tree built (subst Snap is snap) push
