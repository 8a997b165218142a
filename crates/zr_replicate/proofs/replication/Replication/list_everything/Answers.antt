use Rattle.std.proofs.Common.{rules}
use Rattle.zr_replicate.proofs.Listed.{listed-all}
use Rattle.zr_replicate.proofs.Lists.{on-both, on-ok}
use Rattle.zr_replicate.proofs.Turning.{ends-with, goes-on-with, stage-on}
use Rattle.zr_replicate.proofs.replication.Replication.list_everything.Goals as goal

pub returns-in_err-list_source-clause-stage : goal.returns-in_err-list_source-clause-stage
returns-in_err-list_source-clause-stage g c = let ended = ends-with _ _ _ _ _ c.in_ok-list_sets.ensures.stage c.in_err-list_source.ensures.stage in search rules

pub returns-in_err-list_target-clause-stage : goal.returns-in_err-list_target-clause-stage
returns-in_err-list_target-clause-stage g c = let ended = ends-with _ _ _ _ _ (goes-on-with _ _ _ _ c.in_ok-list_sets.ensures.stage c.in_ok-list_source.ensures.stage) c.in_err-list_target.ensures.stage in search rules

pub returns-in_err-list_side_holds-clause-stage : goal.returns-in_err-list_side_holds-clause-stage
returns-in_err-list_side_holds-clause-stage g c = let ended = ends-with _ _ _ _ _ (goes-on-with _ _ _ _ (goes-on-with _ _ _ _ c.in_ok-list_sets.ensures.stage c.in_ok-list_source.ensures.stage) c.in_ok-list_target.ensures.stage) c.in_err-list_side_holds.ensures.stage in search rules

pub returns-clause-stage : goal.returns-clause-stage
returns-clause-stage g c = stage-on _ _ _ _ _ (goes-on-with _ _ _ _ (goes-on-with _ _ _ _ (goes-on-with _ _ _ _ c.in_ok-list_sets.ensures.stage c.in_ok-list_source.ensures.stage) c.in_ok-list_target.ensures.stage) c.in_ok-list_side_holds.ensures.stage) c.list_side_holds-2.ensures.stage

pub returns-clause-listed : goal.returns-clause-listed
returns-clause-listed g c =
    let listed = c.in_ok-list_target.ensures in
    let held = c.in_ok-list_side_holds.ensures in
    on-ok _ _ c.list_side_holds-2.result
    (λ both. listed-all c.args.pair.now c.list_target.new.self.known.now c.list_side_holds.new.self.known.now c.list_side_holds-2.new.self.known.now listed.sets listed.source listed.target held.more held.asked both.0 both.1)
    (on-both _ _ c.list_side_holds-2.result c.list_side_holds-2.ensures.more c.list_side_holds-2.ensures.asked)
