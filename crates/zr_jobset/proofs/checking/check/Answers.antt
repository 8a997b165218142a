use Rattle.std.proofs.Common.{subst}
use Rattle.zr_jobset.specs.Checks.{IsAccepted}
use Rattle.zr_jobset.proofs.Passing.{made}
use Rattle.zr_jobset.proofs.checking.check.Goals as goal

pub new-requires : goal.new-requires
new-requires c =
    made c.args.names.now c.in-Ok.names c.args.jobs.items c.from_vec.result c.in-Ok.ensures c.from_vec.ensures c.requires.jobs
    (subst (IsAccepted c.args.names.now) c.as_slice.ensures.value c.in_ok-pass_all.ensures.accepted)

pub returns-in-Ok-clause-accepted : goal.returns-in-Ok-clause-accepted
returns-in-Ok-clause-accepted c =
    subst (IsAccepted c.args.names.now) c.as_slice.ensures.value c.in_ok-pass_all.ensures.accepted

pub returns-in-Err-clause-fault : goal.returns-in-Err-clause-fault
returns-in-Err-clause-fault c =
    subst (IsAccepted c.args.names.now) c.as_slice.ensures.value c.in_ok-pass_all.ensures.accepted
