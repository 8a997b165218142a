use Rattle.std.proofs.Common.{List, ℕ, subst}
use Rattle.zr_jobset.specs.Checks.{IsAccepted}
use Rattle.zr_jobtree.proofs.file.checked.Goals as goal

pub returns-in-Ok-clause-accepted : goal.returns-in-Ok-clause-accepted
returns-in-Ok-clause-accepted c =
    let Accepted : List (List ℕ) → Type 0 = λ names. IsAccepted names c.args.read.jobs.items in
    subst Accepted c.as_slice.ensures.value c.in-Ok.ensures.accepted
