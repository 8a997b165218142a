use Rattle.std.proofs.Common.{◌∙◌, ap}
use Rattle.zr_command.specs.declared.command.Answer.TheVariants.{Done}
use Rattle.zr_command.specs.declared.command.Cmd.{Cmd}
use Rattle.zr_command.specs.declared.command.Reply.TheVariants as reply
use Rattle.zr_known.specs.declared.known.Known.{Known}
use Rattle.zr_known.specs.Known.{told_by}
use Rattle.zr_replicate.proofs.Lists.{on-ok}
use Rattle.zr_replicate.proofs.Marking.{is-marked}
use Rattle.zr_replicate.proofs.replication.Replication.make_cursor.Goals as goal

pub returns-in-Ok-clause-known : goal.returns-in-Ok-clause-known
returns-in-Ok-clause-known g c =
    let pair = c.args.pair.now in
    let told : Cmd → Known = λ command. told_by pair command (Done reply.Nothing) c.args.self.now.known.now in
    on-ok _ _ c.change.result (λ is. is-marked pair c.args.self.now.known.now c.change.new.self.known.now c.args.version.now c.args.name.now c.requires.own c.requires.may (is ∙ ap told c.in-Ok.ensures)) c.change.ensures.known
