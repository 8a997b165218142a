use Rattle.zr_replicate.specs.Progress.{progress}
use Rattle.zr_replicate.proofs.Turning.{conflict-ended, default-later, ends-with, goes-on-with, ready-parts}
use Rattle.std.proofs.Common.{refl, sym, rules}
use Rattle.zr_replicate.proofs.Straight.{straight-ready}
use Rattle.zr_replicate.proofs.replication.Replication.replicate_pair.Goals as goal

pub bring_up_to_date-requires-clause-ready : goal.bring_up_to_date-requires-clause-ready
bring_up_to_date-requires-clause-ready g c =
    let ready = ready-parts c.args.pair.now (progress g.Z.Zfs c.list_everything.new.self) (sym c.if-not-is_ready.ensures) in
    straight-ready c.args.pair.now c.list_everything.new.self.known.now c.in_ok-list_everything.ensures.listed ready.1

pub outcome-requires-clause-by_default : goal.outcome-requires-clause-by_default
outcome-requires-clause-by_default g c =
    let ready = ready-parts c.args.pair.now (progress g.Z.Zfs c.list_everything.new.self) (sym c.if-not-is_ready.ensures) in
    default-later c.args.pair.now (progress g.Z.Zfs c.list_everything.new.self) (progress g.Z.Zfs c.bring_up_to_date.new.self) c.in_ok-bring_up_to_date.ensures.stage ready.0

pub returns-then-not-is_ready-clause-ended : goal.returns-then-not-is_ready-clause-ended
returns-then-not-is_ready-clause-ended g c =
    let listed = c.in_ok-list_everything.ensures in
    let ended = conflict-ended _ _ _ listed.stage listed.lists listed.listed.listed (sym c.if-not-is_ready.ensures) in
    search rules

pub returns-in_err-bring_up_to_date-clause-ended : goal.returns-in_err-bring_up_to_date-clause-ended
returns-in_err-bring_up_to_date-clause-ended g c =
    let ended = ends-with _ _ _ _ _ c.in_ok-list_everything.ensures.stage c.in_err-bring_up_to_date.ensures.stage in
    search rules

pub returns-clause-ended : goal.returns-clause-ended
returns-clause-ended g c =
    let both = goes-on-with _ _ _ _ c.in_ok-list_everything.ensures.stage c.in_ok-bring_up_to_date.ensures.stage in
    let ended = ends-with _ _ _ _ _ both c.outcome.ensures in
    search rules
