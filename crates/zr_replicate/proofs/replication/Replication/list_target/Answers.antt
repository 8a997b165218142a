use Rattle.std.proofs.Common.{ap, refl}
use Rattle.zr_known.specs.Straight.{is_listing}
use Rattle.zr_command.specs.declared.command.Cmd.TheVariants as cmd
use Rattle.zr_replicate.proofs.Apart.{apart-at-work}
use Rattle.zr_replicate.proofs.Listed.{lists-on, listed-target, target-told, tells-as}
use Rattle.zr_replicate.proofs.Lists.{on-ok}
use Rattle.zr_replicate.proofs.replication.Replication.list_target.Goals as goal

pub returns-in-Ok-clause-sets : goal.returns-in-Ok-clause-sets
returns-in-Ok-clause-sets g c =
    let pair = c.args.pair.now in
    let knew = c.args.self.now.known.now in
    let known = c.give.new.self.known.now in
    on-ok _ _ c.give.result
    (λ told. listed-target pair knew known c.requires.sets (c.if-not-shows_set.ensures.0 refl) (apart-at-work pair _ c.requires.at_work) (tells-as pair c.in-Ok.cmd (cmd.Versions pair.target) knew known told.reply c.in-Ok.ensures told.shape told.known_is)) c.give.ensures.told

pub returns-in-Ok-clause-lists : goal.returns-in-Ok-clause-lists
returns-in-Ok-clause-lists g c =
    on-ok _ _ c.give.result (lists-on c.args.pair.now _ _ _ (ap is_listing c.in-Ok.ensures) c.requires.lists) c.give.ensures.told

pub returns-in-Ok-clause-target : goal.returns-in-Ok-clause-target
returns-in-Ok-clause-target g c =
    let pair = c.args.pair.now in
    let knew = c.args.self.now.known.now in
    let known = c.give.new.self.known.now in
    on-ok _ _ c.give.result
    (λ told. target-told pair knew known (apart-at-work pair _ c.requires.at_work) (tells-as pair c.in-Ok.cmd (cmd.Versions pair.target) knew known told.reply c.in-Ok.ensures told.shape told.known_is)) c.give.ensures.told
