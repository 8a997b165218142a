use Rattle.std.proofs.Common.{◌∙◌, arith, sym, length}
use Rattle.std.proofs.lemmas.List.Sums.{position_or_len_is}
use Rattle.zr_cmd.specs.Forms.{is_sign}
use Rattle.zr_cmd.proofs.cutting.sign_place.Goals as goal

pub returns-then-is_sign : goal.returns-then-is_sign
returns-then-is_sign c =
    sym (position_or_len_is is_sign c.args.word.now c.loop-place.place 0 (omega arith) c.loop-place.invariant (λ inside. sym c.is_sign.ensures ∙ c.if-is_sign.true))

pub returns : goal.returns
returns c =
    sym (position_or_len_is is_sign c.args.word.now (length c.args.word.now) 0 (omega arith) (λ k inside. c.loop-place.invariant k (omega arith)) (λ inside. absurd (omega arith)))
