use Rattle.std.proofs.Common.{◌≡◌, drop}
use Rattle.zr_grid.specs.Scan.{word_at}
use Rattle.zr_grid.proofs.form.word.Given as goal

abbrev pub invariant-loop-letter : goal.invariant-loop-letter
invariant-loop-letter l = word_at (drop l.letter-index l.word) l.rest ≡ word_at l.word l.fn.text
