use Rattle.std.proofs.Common.{◌∙◌, ap}
use Rattle.std.proofs.Common.{List, ℕ}
use Rattle.zr_command.specs.declared.command.Cmd.TheVariants as cmd
use Rattle.zr_replicate.specs.Listing.{path_at}
use Rattle.zr_replicate.proofs.Apart.{apart-at-work}
use Rattle.zr_replicate.proofs.Listed.{has-asked, tells-as}
use Rattle.zr_replicate.proofs.Lists.{on-ok}
use Rattle.zr_replicate.proofs.replication.Replication.list_holds.Goals as goal

pub returns-in-Ok-clause-more : goal.returns-in-Ok-clause-more
returns-in-Ok-clause-more g c =
    let pair = c.args.pair.now in
    let knew = c.args.self.now.known.now in
    let known = c.give.new.self.known.now in
    let side = c.args.side in
    let name = c.args.name.now in
    let same = c.in-Ok.ensures ∙ ap (λ (path : List ℕ). cmd.Holds path name) c.path_at.ensures in
    on-ok _ _ c.give.result
    (λ told. (has-asked side pair name knew known (apart-at-work pair _ c.requires.at_work) (tells-as pair c.in-Ok.cmd (cmd.Holds (path_at side pair) name) knew known told.reply same told.shape told.known_is)).more) c.give.ensures.told

pub returns-in-Ok-clause-asked : goal.returns-in-Ok-clause-asked
returns-in-Ok-clause-asked g c =
    let pair = c.args.pair.now in
    let knew = c.args.self.now.known.now in
    let known = c.give.new.self.known.now in
    let side = c.args.side in
    let name = c.args.name.now in
    let same = c.in-Ok.ensures ∙ ap (λ (path : List ℕ). cmd.Holds path name) c.path_at.ensures in
    on-ok _ _ c.give.result
    (λ told. (has-asked side pair name knew known (apart-at-work pair _ c.requires.at_work) (tells-as pair c.in-Ok.cmd (cmd.Holds (path_at side pair) name) knew known told.reply same told.shape told.known_is)).asked) c.give.ensures.told
