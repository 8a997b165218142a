use Rattle.std.proofs.Common.{ℕ, ◌<◌, map}
use Rattle.zr_cmd.specs.Forms.{pattern_of}
use Rattle.zr_cmd.specs.Steps.{SuitsAt, texts}
use Rattle.zr_cmd.proofs.reading.front.Given as goal

-- the words so far are as the parts have them
abbrev pub invariant-loop-place : goal.invariant-loop-place
invariant-loop-place l = (k : ℕ) → k < l.place → SuitsAt (map pattern_of l.parts) (texts l.words) k
