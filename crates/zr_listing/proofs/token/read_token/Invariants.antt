use Rattle.std.proofs.Common.{length}
use Rattle.zr_listing.proofs.TokenReading.{ReadingToken}
use Rattle.zr_listing.proofs.token.read_token.Given as goal

abbrev pub invariant-loop-rest : goal.invariant-loop-rest
invariant-loop-rest l = ReadingToken l.bytes l.rest l.number l.seen

abbrev pub decreases-loop-rest : goal.decreases-loop-rest
decreases-loop-rest l = length l.rest
