use Rattle.std.proofs.Common.{◌≡◌, length}
use Rattle.zr_listing.specs.Token.{behind_blanks}
use Rattle.zr_listing.proofs.token.behind_blanks.Given as goal

-- blanks alone have gone away
abbrev pub invariant-loop-first : goal.invariant-loop-first
invariant-loop-first l = behind_blanks l.text ≡ behind_blanks l.line

abbrev pub decreases-loop-first : goal.decreases-loop-first
decreases-loop-first l = length l.text
