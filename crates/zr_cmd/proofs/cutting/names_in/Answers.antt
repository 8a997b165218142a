use Rattle.std.proofs.Common.{◌≡◌, ◌∷◌, ◌++◌, ◌∙◌, [], ap, List, ℕ, subst}
use Rattle.std.specs.List.{AllByRecursion}
use Rattle.std.specs.Option.{option_map_or}
use Rattle.zr_cmd.specs.Forms.{names_in}
use Rattle.zr_cmd.specs.Words.{IsVersion}
use Rattle.zr_cmd.proofs.Commas.{one-between}
use Rattle.zr_cmd.proofs.cutting.names_in.Goals as goal

pub returns-in_default-2 : goal.returns-in_default-2
returns-in_default-2 c = λ each.
    let items = c.loop-rest.names.items in
    let name = c.first_name.result.0.now in
    let others = option_map_or (λ rest. names_in rest.now) c.first_name.result.1 [] in
    let rest = ap (λ r. option_map_or (λ x. names_in x.now) r []) c.in-Some.is ∙ c.first_name.ensures.names in
    let whole : names_in c.args.text.now ≡ items ++ name ∷ others = c.loop-rest.invariant.cut ∙ ap (λ l. items ++ l) rest in
    let none : IsVersion name → ⊥ = rw c.in_default-2.is at c.in_ok-name.ensures in
    none (one-between items name others (subst (λ (ns : List (List ℕ)). AllByRecursion (λ n. IsVersion n) ns) whole each))
