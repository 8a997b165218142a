use Rattle.std.proofs.Common.{not}
use Rattle.std.specs.Prelude.{if◌then◌else◌}
use Rattle.regex.specs.Strings.{matcher_pattern}
use Rattle.zr_rules.specs.Matching.{finds, FindsAs}
use Rattle.zr_rules.proofs.Marked.{MarksBefore}
use Rattle.zr_rules.proofs.marking.mark_matching.Given as goal

abbrev pub invariant-loop-i : goal.invariant-loop-i
invariant-loop-i l = record {
  searches : FindsAs (matcher_pattern l.matcher) l.fn.pattern;
  marked : MarksBefore (λ i row. if l.fn.negate then not (finds l.fn.pattern row.name) else finds l.fn.pattern row.name) l.rows l.i l.fn.marks l.marks;
}
