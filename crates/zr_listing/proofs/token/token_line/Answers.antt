use Rattle.std.proofs.Common.{◌++◌, ap, sym, ◌∙◌}
use Rattle.zr_listing.specs.Token.{HasKey, from_key, to_key}
use Rattle.zr_listing.proofs.TokenLines.{to-none, from-none, if-none}
use Rattle.zr_listing.proofs.token.token_line.Goals as goal

pub returns-in_err-read_guid-in-Some-clause-none :
    goal.returns-in_err-read_guid-in-Some-clause-none
returns-in_err-read_guid-in-Some-clause-none c =
    let value = c.in-Some.value.now in
    let has : HasKey to_key c.args.line.now value = sym c.behind_blanks-text.ensures ∙ c.in-Some.ensures.some ∙ ap (λ k. k ++ value) c.as_slice.ensures in
    if-none c.from_residual.result _ (to-none c.args.line.now value has c.in_err-read_guid-in-Some.ensures.none)

pub returns-in_err-read_guid-in-Some-behind_key-clause-none :
    goal.returns-in_err-read_guid-in-Some-behind_key-clause-none
returns-in_err-read_guid-in-Some-behind_key-clause-none c =
    let value = c.in-Some-behind_key.value.now in
    let has : HasKey from_key c.args.line.now value = sym c.behind_blanks-text.ensures ∙ c.in-Some-behind_key.ensures.some ∙ ap (λ k. k ++ value) c.as_slice-in-None.ensures in
    if-none c.from_residual-in_err-read_guid-in-Some-behind_key.result _
    (from-none c.args.line.now value has c.in_err-read_guid-in-Some-behind_key.ensures.none)

pub returns-in-None-behind_key-clause-some : goal.returns-in-None-behind_key-clause-some
returns-in-None-behind_key-clause-some c = (
  λ value has. c.in-None.ensures.none value (c.behind_blanks-text.ensures ∙ has ∙ ap (λ k. k ++ value) (sym c.as_slice.ensures)),
  λ value has. c.in-None-behind_key.ensures.none value (c.behind_blanks-text.ensures ∙ has ∙ ap (λ k. k ++ value) (sym c.as_slice-in-None.ensures)),
)
