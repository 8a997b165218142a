use Rattle.std.proofs.Common.{◌≡◌, ℕ, length}
use Rattle.zr_ledger.specs.Index.{line_at}
use Rattle.zr_ledger.proofs.queue.grow_lines.Given as goal

-- so many lines, with the units that were there
abbrev pub invariant-loop-number : goal.invariant-loop-number
invariant-loop-number l = record {
  same : (job : ℕ) → line_at l.lines.items job ≡ line_at l.fn.lines.items job;
  long : length l.lines.items ≡ l._number;
}
