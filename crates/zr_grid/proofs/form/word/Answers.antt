use Rattle.std.proofs.Common.{◌∙◌, sym}
use Rattle.zr_grid.proofs.Words.{word_short}
use Rattle.zr_grid.proofs.form.word.Goals as goal

pub returns-in_default : goal.returns-in_default
returns-in_default c = sym c.loop-letter.invariant ∙ word_short c.args.word.now c.loop-letter.letter-index c.loop-letter.rest.now c.loop-letter-test.true c.in_default.len_below
