use Rattle.std.proofs.Common.{◌∙◌, ◌++◌, List, ap, filter, nat_lt}
use Rattle.zr_command.specs.declared.version.VersionRow.{VersionRow}
use Rattle.zr_plan.specs.Plan.{is_later, steps_of}
use Rattle.zr_plan.specs.Sides.{rows_of}
use Rattle.zr_plan.specs.declared.target.Step.{Step}
use Rattle.zr_plan.proofs.Sides.{later_both}
use Rattle.zr_plan.proofs.planning.later_steps.Goals as goal

pub returns : goal.returns
returns c =
    let source = c.args.source.now in
    let later : List VersionRow → List Step = λ rows. steps_of (filter (λ row. nat_lt c.latest_txg-latest.result row.txg) rows) in
    c.in_ok-push_later-2.ensures
    ∙ ap (λ (steps : List Step). steps ++ later source.marks.now)
    (c.in_ok-push_later.ensures ∙ ap (λ (steps : List Step). steps ++ later source.listing.now) c.new-steps.ensures)
    ∙ later_both (λ row. nat_lt c.latest_txg-latest.result row.txg) (is_later (rows_of source) c.args.guid c.args.own.now) c.latest_txg-latest.ensures source.listing.now source.marks.now
