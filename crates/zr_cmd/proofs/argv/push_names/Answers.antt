use Rattle.std.proofs.Common.{◌≡◌, ◌∷◌, ◌++◌, ◌∙◌, ap, append_assoc, rules}
use Rattle.std.specs.List.{join_with_byte}
use Rattle.zr_cmd.specs.Steps.{with_commas}
use Rattle.zr_cmd.proofs.Commas.{joined-commas}
use Rattle.zr_cmd.proofs.argv.push_names.Goals as goal

pub returns-clause-text : goal.returns-clause-text
returns-clause-text c =
    let text = c.args.text.now.items in
    let first = c.in-Some.first.now in
    let others = c.in-Some.others.now in
    let are : first ∷ others ≡ c.args.names.now = search rules in
    c.in_ok-push_others.ensures.text
    ∙ ap (λ l. l ++ with_commas others) (c.in_ok-extend_from_slice.ensures.items ∙ ap (λ l. text ++ l) c.as_bytes.ensures.value)
    ∙ append_assoc text first (with_commas others)
    ∙ ap (λ l. text ++ l) (joined-commas first others ∙ ap (join_with_byte 44) are)
