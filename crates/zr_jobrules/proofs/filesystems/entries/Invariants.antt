use Rattle.std.proofs.Common.{drop, map}
use Rattle.zr_jobwalk.specs.Lines.{pair_of}
use Rattle.zr_jobwalk.specs.Tables.{section}
use Rattle.zr_jobrules.proofs.Lines.{SoFar}
use Rattle.zr_jobrules.proofs.filesystems.entries.Given as goal

abbrev pub invariant-loop-line : goal.invariant-loop-line
invariant-loop-line l =
    SoFar (section l.table).front (map pair_of l.lines) (map pair_of (drop l.line-index l.lines)) l.entries
