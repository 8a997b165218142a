use Rattle.std.proofs.Common.{ap, sym, ◌∙◌}
use Rattle.std.specs.Option.{option_copied}
use Rattle.std.specs.Prelude.{option_map}
use Rattle.zr_command.specs.declared.version.VersionRow.{VersionRow}
use Rattle.zr_known.proofs.Decisions.{none-makes, row-makes}
use Rattle.zr_known.proofs.known.Known.cursor_source.Goals as goal

pub returns-in-Some-clause-makes : goal.returns-in-Some-clause-makes
returns-in-Some-clause-makes c =
    row-makes c.args.pair.now c.args.self.now c.args.guid c.in-Some.row.now (sym c.cursor_row.ensures ∙ ap option_copied c.in-Some.is)

pub returns-in-None-clause-makes : goal.returns-in-None-clause-makes
returns-in-None-clause-makes c =
    none-makes c.args.pair.now c.args.self.now c.args.guid (sym c.cursor_row.ensures ∙ ap option_copied c.in-None.is)

pub returns-in-Some-clause-first : goal.returns-in-Some-clause-first
returns-in-Some-clause-first c =
    ap (option_map (λ (row : VersionRow). row.name)) (sym (sym c.cursor_row.ensures ∙ ap option_copied c.in-Some.is))

pub returns-in-None-clause-first : goal.returns-in-None-clause-first
returns-in-None-clause-first c =
    ap (option_map (λ (row : VersionRow). row.name)) (sym (sym c.cursor_row.ensures ∙ ap option_copied c.in-None.is))
