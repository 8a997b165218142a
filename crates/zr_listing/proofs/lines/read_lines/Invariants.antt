use Rattle.std.proofs.Common.{length}
use Rattle.zr_listing.specs.Met.{was_met}
use Rattle.zr_listing.proofs.Reading.{Reading}
use Rattle.zr_listing.proofs.lines.read_lines.Given as goal

abbrev pub invariant-loop-rest : goal.invariant-loop-rest
invariant-loop-rest g l =
    Reading (g.K.Kind.spells l.kind) (g.K.Kind.name l.kind) l.bytes l.rest l.rows.items (was_met l.names)

abbrev pub decreases-loop-rest : goal.decreases-loop-rest
decreases-loop-rest g l = length l.rest
