use Rattle.std.proofs.Common.{inl, refl}
use Rattle.zr_top.proofs.Recording.{bytes-ran, no-jobs-unrun}
use Rattle.zr_top.proofs.Refusing.{read-not-refused}
use Rattle.zr_jobfile.proofs.Plain.{reads-plain}
use Rattle.zr_top.proofs.top.run_file.Goals as goal

pub run_jobs-requires-clause-plain : goal.run_jobs-requires-clause-plain
run_jobs-requires-clause-plain g c = reads-plain c.args.bytes.now c.in-Ok.jobs c.in-Ok.ensures

pub returns-in-Ok-clause-refused : goal.returns-in-Ok-clause-refused
returns-in-Ok-clause-refused g c = λ refused.
    absurd (read-not-refused c.args.bytes.now c.in-Ok.jobs c.in-Ok.ensures refused)

pub returns-in-Ok-clause-ran : goal.returns-in-Ok-clause-ran
returns-in-Ok-clause-ran g c = λ file.
    bytes-ran file c.args.bytes.now c.in-Ok.jobs _ _ _ _ c.in-Ok.ensures (c.run_jobs.ensures.ran file)

pub returns-in-Err-clause-ran : goal.returns-in-Err-clause-ran
returns-in-Err-clause-ran g c = λ file.
    inl (no-jobs-unrun file _ _ _ c.in-Err.fault refl c.refuse.ensures.unrun c.refuse.ensures.front c.refuse.ensures.whole c.refuse.ensures.silent)
