use Rattle.std.proofs.Common.{◌≡◌, sym, subst}
use Rattle.std.specs.Result.{OnOk}
use Rattle.zr_command.specs.declared.command.Cmd.{Cmd}
use Rattle.zr_world.specs.Effect.{after_since}
use Rattle.zr_world.proofs.effects.change.Goals as goal

pub returns-in-Release-clause-ok : goal.returns-in-Release-clause-ok
returns-in-Release-clause-ok c =
    let leaves : Cmd → Type 0 = λ command. OnOk c.release.result (c.release.new.pools ≡ after_since c.args.pools.now c.args.pools.now command) in
    subst leaves (sym c.in-Release.is) c.release.ensures.ok

pub returns-in-Hold-clause-ok : goal.returns-in-Hold-clause-ok
returns-in-Hold-clause-ok c =
    let leaves : Cmd → Type 0 = λ command. OnOk c.hold.result (c.hold.new.pools ≡ after_since c.args.pools.now c.args.pools.now command) in
    subst leaves (sym c.in-Hold.is) c.hold.ensures.ok
