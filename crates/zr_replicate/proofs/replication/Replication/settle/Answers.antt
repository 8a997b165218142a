use Rattle.std.proofs.Common.{rules}
use Rattle.zr_replicate.proofs.Turning.{ends-with, goes-on-with, stage-on}
use Rattle.zr_replicate.proofs.Lists.{on-both, on-ok}
use Rattle.zr_replicate.proofs.Marking.{all-clear}
use Rattle.zr_replicate.proofs.replication.Replication.settle.Goals as goal

pub returns-clause-alone : goal.returns-clause-alone
returns-clause-alone g c =
    let released = c.in_ok-release_other_last.ensures in
    let destroyed = c.in_ok-destroy_other_marks.ensures in
    on-ok _ _ c.release_steps.result
    (λ both. all-clear c.args.pair.now c.args.newest.now c.release_other_last.new.self.known.now c.destroy_other_marks.new.self.known.now c.release_steps.new.self.known.now released.alone destroyed.only destroyed.alone both.0 both.1)
    (on-both _ _ c.release_steps.result c.release_steps.ensures.only c.release_steps.ensures.alone)

pub returns-in_err-hold_missing_last-clause-stage : goal.returns-in_err-hold_missing_last-clause-stage
returns-in_err-hold_missing_last-clause-stage g c = let ended = ends-with _ _ _ _ _ c.in_ok-make_missing_cursor.ensures.stage c.in_err-hold_missing_last.ensures.stage in search rules

pub returns-in_err-release_other_last-clause-stage : goal.returns-in_err-release_other_last-clause-stage
returns-in_err-release_other_last-clause-stage g c = let ended = ends-with _ _ _ _ _ (goes-on-with _ _ _ _ c.in_ok-make_missing_cursor.ensures.stage c.in_ok-hold_missing_last.ensures.stage) c.in_err-release_other_last.ensures.stage in search rules

pub returns-in_err-destroy_other_marks-clause-stage : goal.returns-in_err-destroy_other_marks-clause-stage
returns-in_err-destroy_other_marks-clause-stage g c = let ended = ends-with _ _ _ _ _ (goes-on-with _ _ _ _ (goes-on-with _ _ _ _ c.in_ok-make_missing_cursor.ensures.stage c.in_ok-hold_missing_last.ensures.stage) c.in_ok-release_other_last.ensures.stage) c.in_err-destroy_other_marks.ensures.stage in search rules

pub returns-clause-stage : goal.returns-clause-stage
returns-clause-stage g c = stage-on _ _ _ _ _ (goes-on-with _ _ _ _ (goes-on-with _ _ _ _ (goes-on-with _ _ _ _ c.in_ok-make_missing_cursor.ensures.stage c.in_ok-hold_missing_last.ensures.stage) c.in_ok-release_other_last.ensures.stage) c.in_ok-destroy_other_marks.ensures.stage) c.release_steps.ensures.stage
