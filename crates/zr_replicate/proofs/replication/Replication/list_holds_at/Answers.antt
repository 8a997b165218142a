use Rattle.std.proofs.Common.{◌∙◌, sym}
use Rattle.zr_replicate.proofs.Listed.{asked-held, asked-none, shows-held}
use Rattle.zr_replicate.proofs.Lists.{on-both, on-ok}
use Rattle.zr_replicate.proofs.replication.Replication.list_holds_at.Goals as goal

pub list_holds-requires-clause-shown : goal.list_holds-requires-clause-shown
list_holds-requires-clause-shown g c =
    shows-held c.args.side c.args.self.now.known.now c.args.place c.in-Ok-Some.name (sym c.in-Ok-Some.ensures ∙ c.in-Ok-Some.field-0-is)

pub returns-in-Ok-Some-clause-asked : goal.returns-in-Ok-Some-clause-asked
returns-in-Ok-Some-clause-asked g c =
    let knew = c.args.self.now.known.now in
    let known = c.list_holds.new.self.known.now in
    let held = sym c.in-Ok-Some.ensures ∙ c.in-Ok-Some.field-0-is in
    on-ok _ _ c.list_holds.result
    (λ both. asked-held c.args.side c.args.place knew known c.in-Ok-Some.name held both.0 both.1)
    (on-both _ _ c.list_holds.result c.list_holds.ensures.more c.list_holds.ensures.asked)

pub returns-in-Ok-None-clause-asked : goal.returns-in-Ok-None-clause-asked
returns-in-Ok-None-clause-asked g c =
    asked-none c.args.side c.args.place c.args.self.now.known.now (sym c.in-Ok-None.ensures ∙ c.in-Ok-None.field-0-is)
