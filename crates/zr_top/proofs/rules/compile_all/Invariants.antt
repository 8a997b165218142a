use Rattle.std.proofs.Common.{◌≡◌, map, take}
use Rattle.zr_jobset.specs.declared.job.Job.{Job}
use Rattle.zr_top.proofs.rules.compile_all.Given as goal

-- the rules of the jobs so far
abbrev pub invariant-loop-job : goal.invariant-loop-job
invariant-loop-job l = record {
  items : l.job-items ≡ l.jobs.jobs;
  rules : l.rules.items ≡ map (λ (job : Job). job.keep_source) (take l.job-index l.jobs.jobs);
}
