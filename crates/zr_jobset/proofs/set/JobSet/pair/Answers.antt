use Rattle.std.proofs.Common.{◌≡◌, ◌∙◌, false, None, is_some, ap, rules, sym}
use Rattle.std.specs.Option.{option_copied}
use Rattle.zr_jobset.proofs.OfFile.{nameless-pair}
use Rattle.zr_jobset.proofs.set.JobSet.pair.Goals as goal

pub returns-in_default-clause-pair : goal.returns-in_default-clause-pair
returns-in_default-clause-pair c =
    let none : is_some (option_copied c.name.result) ≡ false = search rules in
    nameless-pair c.args.self.now c.args.number c.args.source.now (sym c.name.ensures.there ∙ none)
