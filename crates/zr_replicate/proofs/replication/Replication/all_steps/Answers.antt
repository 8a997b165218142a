use Rattle.zr_replicate.proofs.Turning.{ends-with, goes-on-with}
use Rattle.std.proofs.Common.{◌∙◌, sym, rules}
use Rattle.zr_replicate.proofs.Advancing.{none-next}
use Rattle.zr_replicate.proofs.replication.Replication.all_steps.Goals as goal

pub returns-in-Ok-None-clause-up_to_date : goal.returns-in-Ok-None-clause-up_to_date
returns-in-Ok-None-clause-up_to_date g c =
    none-next c.args.pair.now c.loop-transfer.self.known.now c.loop-transfer.invariant.rests (sym c.in-Ok-None.ensures ∙ c.in-Ok-None.field-0-is)

pub returns-in_err-step-in-Ok-Some-clause-stage : goal.returns-in_err-step-in-Ok-Some-clause-stage
returns-in_err-step-in-Ok-Some-clause-stage g c = let ended = ends-with _ _ _ _ _ c.loop-transfer.invariant.stage c.in_err-step-in-Ok-Some.ensures.stage in search rules

pub loop-transfer-preserved : goal.loop-transfer-preserved
loop-transfer-preserved g c =
    let inv = c.loop-transfer.invariant in
    let did = c.in_ok-step-in-Ok-Some.ensures in
    record {
      stage = goes-on-with _ _ _ _ inv.stage did.stage;
      rests = did.rests;
      same = search rules;
    }
