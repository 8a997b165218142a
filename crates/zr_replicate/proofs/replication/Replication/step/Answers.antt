use Rattle.zr_replicate.proofs.Turning.{ends-with, goes-on-with, stage-on}
use Rattle.std.proofs.Common.{sym, subst, rules}
use Rattle.zr_known.specs.Replication.{MayHoldStep}
use Rattle.zr_replicate.specs.declared.settlement.Newest.{Newest}
use Rattle.zr_replicate.specs.Settlement.{IsAlone, IsSafe, MaySettle}
use Rattle.zr_replicate.proofs.Advancing.{may-hold, may-settle, same-listings, step-rests, steps-fall}
use Rattle.zr_replicate.proofs.Lists.{on-both, on-ok}
use Rattle.zr_replicate.proofs.replication.Replication.step.Goals as goal

pub hold_step-requires-clause-may : goal.hold_step-requires-clause-may
hold_step-requires-clause-may g c =
    subst (λ (newest : Newest). MayHoldStep c.args.self.now.known.now newest.name) (sym c.in-Ok.ensures.newest)
    (may-hold c.args.pair.now c.args.self.now.known.now c.args.transfer c.requires.ready c.requires.next)

pub settle_arrived-requires-clause-may : goal.settle_arrived-requires-clause-may
settle_arrived-requires-clause-may g c =
    let pair = c.args.pair.now in
    let sent = c.send.new.self.known.now in
    let transfer = c.args.transfer in
    let may =
    may-settle pair c.args.self.now.known.now c.hold_step.new.self.known.now sent transfer _ c.requires.ready c.requires.next c.in_ok-hold_step.ensures.known c.in_ok-send.ensures.known in
    subst (λ (newest : Newest). MaySettle pair sent newest) (sym c.in-Ok.ensures.newest) may

pub returns-clause-fewer : goal.returns-clause-fewer
returns-clause-fewer g c =
    let pair = c.args.pair.now in
    let known = c.args.self.now.known.now in
    let now = c.settle_arrived.new.self.known.now in
    let transfer = c.args.transfer in
    let result = c.settle_arrived.result in
    let safe_of : Newest → Type 0 = λ newest. IsSafe pair now newest in
    let alone_of : Newest → Type 0 = λ newest. IsAlone pair now newest in
    let holds = c.in_ok-hold_step.ensures.known in
    let arrived = c.in_ok-send.ensures.known in
    on-ok _ _ result
    (λ all rest.
    let only = all.1.1 in
    let safe = subst safe_of c.in-Ok.ensures.newest all.0 in
    let alone = subst alone_of c.in-Ok.ensures.newest all.1.0 in
    steps-fall pair known now transfer rest c.requires.next
    (step-rests pair known c.hold_step.new.self.known.now c.send.new.self.known.now now transfer _ holds arrived only c.requires.ready safe alone)
    (same-listings pair known c.hold_step.new.self.known.now c.send.new.self.known.now now transfer _ holds arrived only).source)
    (on-both _ _ result c.settle_arrived.ensures.safe (on-both _ _ result c.settle_arrived.ensures.alone c.settle_arrived.ensures.only))

pub returns-in_err-send-clause-stage : goal.returns-in_err-send-clause-stage
returns-in_err-send-clause-stage g c = let ended = ends-with _ _ _ _ _ c.in_ok-hold_step.ensures.stage c.in_err-send.ensures.stage in search rules

pub returns-clause-stage : goal.returns-clause-stage
returns-clause-stage g c = stage-on _ _ _ _ _ (goes-on-with _ _ _ _ c.in_ok-hold_step.ensures.stage c.in_ok-send.ensures.stage) c.settle_arrived.ensures.stage
