use Rattle.std.proofs.Common.{◌∙◌, ◌∷◌, ◌++◌, ap, append_assoc}
use Rattle.std.specs.Prelude.{codes}
use Rattle.std.proofs.lemmas.Result.{on_ok_weaker}
use Rattle.zr_top.specs.Totals.{field, places_text}
use Rattle.zr_top.proofs.report.put_places.Goals as goal

pub returns : goal.returns
unfolding places_text
returns c =
    let t = c.args.totals.now in
    let made = field (codes "placeholders") t.placeholders in
    let next = 32 ∷ field (codes "toolong") t.toolong in
    on_ok_weaker c.put_next.result (λ e. e ∙ ap (λ s. s ++ next) c.in_ok-put_field.ensures ∙ append_assoc _ made next) c.put_next.ensures
