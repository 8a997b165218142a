use Rattle.std.proofs.Common.{◌≡◌, ℕ, ◌<◌, false, get_or}
use Rattle.zr_cmd.specs.Forms.{is_sign}
use Rattle.zr_cmd.proofs.cutting.sign_place.Given as goal

-- no byte before this place is a sign
abbrev pub invariant-loop-place : goal.invariant-loop-place
invariant-loop-place l = (k : ℕ) → k < l.place → is_sign (get_or l.word k 0) ≡ false
