use Rattle.std.proofs.Common.{◌≡◌, ◌<◌, ◌≤◌, ℕ, count_by, length, slice_index}
use Rattle.zr_ledger.specs.Index.{line_at, rooms_of}
use Rattle.zr_ledger.specs.Queue.{is_of_job}
use Rattle.zr_ledger.proofs.queue.reserve_lines.Given as goal

-- the units that were there, and room in each line so far
abbrev pub invariant-loop-job : goal.invariant-loop-job
invariant-loop-job l = record {
  same : (job : ℕ) → line_at l.lines.items job ≡ line_at l.fn.lines.items job;
  long : length l.lines.items ≡ length l.fn.lines.items;
  room : (job : ℕ) → job < l.job → count_by (is_of_job job) l.units ≤ slice_index (rooms_of l.lines.items) job;
}
