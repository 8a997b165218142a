use Rattle.std.proofs.Common.{rules, ◌≡◌, [], ◌∷◌}
use Rattle.std.proofs.lemmas.Result.{IfOk-weaker}
use Rattle.zr_command.specs.declared.command.Answer.TheVariants as answer
use Rattle.zr_command.specs.declared.command.Cmd.TheVariants as cmd
use Rattle.zr_command.specs.declared.command.Reply.TheVariants as reply
use Rattle.zr_permit.specs.Sight.{sight}
use Rattle.zr_snap.proofs.Ends.{scanned-result}
use Rattle.zr_snap.proofs.scan_listed.Goals as goal

pub returns-clause-result : goal.returns-clause-result
returns-clause-result g c =
    let now = sight g.Z.Zfs c.args.unit.now in
    let told : now.turns ≡ (cmd.Sets, answer.Done (reply.Sets c.as_slice.result.now)) ∷ [] = search rules in
    IfOk-weaker c.find_units.result _ _ (λ found is. scanned-result now.jobs _ now.unit _ now.turns _ found.0 c.jobs.ensures c.unit.ensures c.requires.work told is) c.find_units.ensures.found
