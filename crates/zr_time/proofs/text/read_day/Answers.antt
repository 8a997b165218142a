use Rattle.std.proofs.Common.{◌∙◌, ap, take, drop}
use Rattle.zr_time.proofs.Parts.{day_numbers, day_of, no_number, a_number, no_day}
use Rattle.zr_time.proofs.text.read_day.Goals as goal

pub returns : goal.returns
returns c = day_of c.args.text.now c.requires _ (a_number _ _ c.split_at.ensures.front _ c.in_ok-number.ensures) (a_number _ _ (c.split_at-2.ensures.front ∙ ap (take 2) c.split_at.ensures.back) _ c.in_ok-number-2.ensures) (a_number _ _ (c.split_at-2.ensures.back ∙ ap (drop 2) c.split_at.ensures.back) _ c.in_ok-number-3.ensures)

pub returns-in_err-number : goal.returns-in_err-number
returns-in_err-number c = no_day c.args.text.now _ c.from_residual.ensures (λ day is. no_number _ _ c.split_at.ensures.front c.in_err-number.ensures _ (day_numbers c.args.text.now day is).0)

pub returns-in_err-number-2 : goal.returns-in_err-number-2
returns-in_err-number-2 c = no_day c.args.text.now _ c.from_residual-in_err-number-2.ensures (λ day is. no_number _ _ (c.split_at-2.ensures.front ∙ ap (take 2) c.split_at.ensures.back) c.in_err-number-2.ensures _ (day_numbers c.args.text.now day is).1)

pub returns-in_err-number-3 : goal.returns-in_err-number-3
returns-in_err-number-3 c = no_day c.args.text.now _ c.from_residual-in_err-number-3.ensures (λ day is. no_number _ _ (c.split_at-2.ensures.back ∙ ap (drop 2) c.split_at.ensures.back) c.in_err-number-3.ensures _ (day_numbers c.args.text.now day is).2)
