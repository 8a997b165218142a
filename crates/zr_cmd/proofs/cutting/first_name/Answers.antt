use Rattle.std.proofs.Common.{◌∙◌, sym}
use Rattle.zr_cmd.proofs.Commas.{split_first, split_none}
use Rattle.zr_cmd.proofs.cutting.first_name.Goals as goal

pub returns-in-Some-clause-names : goal.returns-in-Some-clause-names
returns-in-Some-clause-names c =
    split_first 44 c.args.text.now c.in-Some.place (sym c.comma_place.ensures ∙ c.in-Some.is)

pub returns-in-None-clause-names : goal.returns-in-None-clause-names
returns-in-None-clause-names c = split_none 44 c.args.text.now (sym c.comma_place.ensures ∙ c.in-None.is)
