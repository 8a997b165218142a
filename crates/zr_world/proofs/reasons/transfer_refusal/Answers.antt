use Rattle.std.proofs.Common.{◌≡◌, ◌∙◌, ◌++◌, None, ap, subst, sym}
use Rattle.zr_command.specs.declared.command.Base.{Base}
use Rattle.zr_command.specs.declared.command.Base.TheVariants as base
use Rattle.zr_world.specs.Lookup.{dataset_at}
use Rattle.zr_world.specs.Reasons.{arrival_reasons, first_that_applies, partial_reasons, source_reasons, transfer_reasons}
use Rattle.zr_world.proofs.Firsts.{refused_behind}
use Rattle.zr_world.proofs.reasons.transfer_refusal.Goals as goal

-- where the target has the partial receive of a resume, the reasons of its source and its arrival are left
pub returns-in-None : goal.returns-in-None
returns-in-None c =
    let pools = c.args.pools.now in
    let transfer = c.args.transfer.now in
    let resume = base.Resume c.in-Resume.token c.in-Resume.field-1 in
    let partial = partial_reasons c.in-Resume.token (dataset_at pools transfer.target) in
    let none : first_that_applies partial ≡ None =
    ap (λ found. first_that_applies (partial_reasons c.in-Resume.token found)) (sym c.dataset.ensures) ∙ sym c.in_ok-why-in-Resume.ensures ∙ c.in-None.is in
    let left : Base → Type 0 = λ from. c.behind_source-in-None.result ≡ first_that_applies (source_reasons pools transfer from ++ arrival_reasons pools transfer) in
    let all : Base → Type 0 = λ from. c.behind_source-in-None.result ≡ first_that_applies (transfer_reasons pools pools transfer from) in
    let own = subst left c.in-Resume.is (c.behind_source-in-None.ensures (arrival_reasons pools transfer) c.arrival_refusal-then.ensures) in
    subst all (sym c.in-Resume.is) (own ∙ sym (refused_behind partial (source_reasons pools transfer resume ++ arrival_reasons pools transfer) none))
