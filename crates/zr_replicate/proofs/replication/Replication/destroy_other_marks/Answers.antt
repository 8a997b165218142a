use Rattle.std.proofs.Common.{ap, rules}
use Rattle.zr_known.specs.declared.known.Known.{Known}
use Rattle.zr_replicate.proofs.Lists.{match-some}
use Rattle.zr_replicate.proofs.Marking.{destroyed-safe, fewer-marks, marks-again, may-destroy}
use Rattle.zr_replicate.proofs.Turning.{goes-on-with, ends-with}
use Rattle.zr_replicate.proofs.replication.Replication.destroy_other_marks.Goals as goal

pub destroy_mark-requires-clause-may : goal.destroy_mark-requires-clause-may
destroy_mark-requires-clause-may g c =
    may-destroy c.args.pair.now c.loop-name.self.known.now c.args.newest.now c.in-Ok-Some.name c.loop-name.invariant.safe (match-some _ _ c.in-Ok-Some.field-0 c.in-Ok-Some.name c.in-Ok-Some.field-0-is c.in-Ok-Some.ensures)

pub loop-name-smaller : goal.loop-name-smaller
loop-name-smaller g c =
    fewer-marks c.in-Ok-Some.name _ _ (match-some _ _ c.in-Ok-Some.field-0 c.in-Ok-Some.name c.in-Ok-Some.field-0-is c.in-Ok-Some.ensures).is_known (ap (λ (k : Known). k.marks) c.in_ok-destroy_mark-in-Ok-Some.ensures.known)

pub loop-name-preserved : goal.loop-name-preserved
loop-name-preserved g c =
    let inv = c.loop-name.invariant in
    let did = c.in_ok-destroy_mark-in-Ok-Some.ensures in
    record {
      stage = goes-on-with _ _ _ _ inv.stage did.stage;
      safe = destroyed-safe c.args.pair.now c.loop-name.self.known.now c.destroy_mark.new.self.known.now c.args.newest.now c.in-Ok-Some.name inv.safe (match-some _ _ c.in-Ok-Some.field-0 c.in-Ok-Some.name c.in-Ok-Some.field-0-is c.in-Ok-Some.ensures) did.known;
      only = marks-again c.args.self.now.known.now c.loop-name.self.known.now c.destroy_mark.new.self.known.now _ inv.only did.known;
    }

pub returns-in_err-destroy_mark-in-Ok-Some-clause-stage : goal.returns-in_err-destroy_mark-in-Ok-Some-clause-stage
returns-in_err-destroy_mark-in-Ok-Some-clause-stage g c = let ended = ends-with _ _ _ _ _ c.loop-name.invariant.stage c.in_err-destroy_mark-in-Ok-Some.ensures.stage in search rules
