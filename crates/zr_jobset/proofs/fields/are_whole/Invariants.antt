use Rattle.std.proofs.Common.{take}
use Rattle.std.specs.Prelude.{All}
use Rattle.zr_jobset.specs.Fields.{IsWhole}
use Rattle.zr_jobset.proofs.fields.are_whole.Given as goal

-- the jobs so far are whole
abbrev pub invariant-loop-job : goal.invariant-loop-job
invariant-loop-job l = All IsWhole (take l.job-index l.jobs)
