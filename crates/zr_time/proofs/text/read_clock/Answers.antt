use Rattle.std.proofs.Common.{◌∙◌, ℕ, List, ap, sym, take, drop, get_or}
use Rattle.zr_time.proofs.Parts.{clock_numbers, clock_of, no_number, a_number, no_clock}
use Rattle.zr_time.proofs.text.read_clock.Goals as goal

pub returns : goal.returns
returns c =
    clock_of c.args.text.now c.requires _ (a_number _ _ c.split_at.ensures.front _ c.in_ok-number.ensures) (a_number _ _ (c.split_at-2.ensures.front ∙ ap (take 2) c.split_at.ensures.back) _ c.in_ok-number-2.ensures) (a_number _ _ (c.split_at-3.ensures.front ∙ ap (take 2) (c.split_at-2.ensures.back ∙ ap (drop 2) c.split_at.ensures.back)) _ c.in_ok-number-3.ensures)
    (ap (λ (t : List ℕ). get_or t 0 0) (sym (c.split_at-4.ensures.front ∙ ap (take 1) (c.split_at-3.ensures.back ∙ ap (drop 2) (c.split_at-2.ensures.back ∙ ap (drop 2) c.split_at.ensures.back)))) ∙ c.if-mark-ne95.false) (a_number _ _ (c.split_at-4.ensures.back ∙ ap (drop 1) (c.split_at-3.ensures.back ∙ ap (drop 2) (c.split_at-2.ensures.back ∙ ap (drop 2) c.split_at.ensures.back))) _ c.in_ok-number-4.ensures)

pub returns-then-mark-ne95 : goal.returns-then-mark-ne95
returns-then-mark-ne95 c = λ clock is. c.if-mark-ne95.true (ap (λ (t : List ℕ). get_or t 0 0) (c.split_at-4.ensures.front ∙ ap (take 1) (c.split_at-3.ensures.back ∙ ap (drop 2) (c.split_at-2.ensures.back ∙ ap (drop 2) c.split_at.ensures.back))) ∙ (clock_numbers c.args.text.now clock is).3)

pub returns-in_err-number : goal.returns-in_err-number
returns-in_err-number c = no_clock c.args.text.now _ c.from_residual.ensures (λ clock is. no_number _ _ c.split_at.ensures.front c.in_err-number.ensures _ (clock_numbers c.args.text.now clock is).0)

pub returns-in_err-number-2 : goal.returns-in_err-number-2
returns-in_err-number-2 c = no_clock c.args.text.now _ c.from_residual-in_err-number-2.ensures (λ clock is. no_number _ _ (c.split_at-2.ensures.front ∙ ap (take 2) c.split_at.ensures.back) c.in_err-number-2.ensures _ (clock_numbers c.args.text.now clock is).1)

pub returns-in_err-number-3 : goal.returns-in_err-number-3
returns-in_err-number-3 c = no_clock c.args.text.now _ c.from_residual-in_err-number-3.ensures (λ clock is. no_number _ _ (c.split_at-3.ensures.front ∙ ap (take 2) (c.split_at-2.ensures.back ∙ ap (drop 2) c.split_at.ensures.back)) c.in_err-number-3.ensures _ (clock_numbers c.args.text.now clock is).2)

pub returns-in_err-number-4 : goal.returns-in_err-number-4
returns-in_err-number-4 c = no_clock c.args.text.now _ c.from_residual-in_err-number-4.ensures (λ clock is. no_number _ _ (c.split_at-4.ensures.back ∙ ap (drop 1) (c.split_at-3.ensures.back ∙ ap (drop 2) (c.split_at-2.ensures.back ∙ ap (drop 2) c.split_at.ensures.back))) c.in_err-number-4.ensures _ (clock_numbers c.args.text.now clock is).4)
