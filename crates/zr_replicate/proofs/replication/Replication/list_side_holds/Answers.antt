use Rattle.std.proofs.Common.{◌<◌, length, List, rules, subst}
use Rattle.zr_command.specs.declared.version.VersionRow.{VersionRow}
use Rattle.zr_replicate.proofs.Listed.{asked-place, more-both}
use Rattle.zr_replicate.proofs.Turning.{goes-on-with, ends-with}
use Rattle.zr_replicate.proofs.replication.Replication.list_side_holds.Goals as goal

pub loop-place-preserved : goal.loop-place-preserved
loop-place-preserved g c =
    let inv = c.loop-place.invariant in
    let did = c.in_ok-list_holds_at.ensures in
    let first = c.args.self.now.known.now in
    let before = c.loop-place.self.known.now in
    let now = c.list_holds_at.new.self.known.now in
    let inside = subst (λ (rows : List VersionRow). c.loop-place.place < length rows) c.rows_at-count.ensures c.loop-place-test.true in
    record {
      stage = goes-on-with _ _ _ _ inv.stage did.stage;
      lists = did.lists;
      more = more-both c.args.side first before now inv.more did.more;
      asked = asked-place c.args.side first before now c.loop-place.place inside inv.more did.more inv.asked did.asked;
    }

pub returns-in_err-list_holds_at-clause-stage : goal.returns-in_err-list_holds_at-clause-stage
returns-in_err-list_holds_at-clause-stage g c = let ended = ends-with _ _ _ _ _ c.loop-place.invariant.stage c.in_err-list_holds_at.ensures.stage in search rules
