use Rattle.zr_rules.proofs.Newest.{FlagsFrom}
use Rattle.zr_rules.proofs.counting.flag_newest.Given as goal

abbrev pub invariant-loop-i : goal.invariant-loop-i
invariant-loop-i l = FlagsFrom l.count l.rows l.i l.left l.fn.flags l.flags
