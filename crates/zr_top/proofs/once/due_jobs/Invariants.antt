use Rattle.std.proofs.Common.{◌≡◌, filter}
use Rattle.std.specs.List.{range_with_len}
use Rattle.zr_jobset.specs.Units.{is_scanned}
use Rattle.zr_top.proofs.once.due_jobs.Given as goal

-- those of the numbers before this one
abbrev pub invariant-loop-number : goal.invariant-loop-number
invariant-loop-number l = l.numbers.items ≡ filter (is_scanned l.jobs) (range_with_len 0 l.number)
