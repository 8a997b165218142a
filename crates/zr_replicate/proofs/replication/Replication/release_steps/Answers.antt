use Rattle.zr_replicate.proofs.Turning.{ends-with, goes-on-with}
use Rattle.std.proofs.Common.{ap, rules}
use Rattle.zr_known.specs.declared.known.Known.{Known}
use Rattle.zr_replicate.proofs.Lists.{match-some}
use Rattle.zr_replicate.proofs.Marking.{fewer-names}
use Rattle.zr_replicate.proofs.replication.Replication.release_steps.Goals as goal

pub loop-name-smaller : goal.loop-name-smaller
loop-name-smaller g c =
    fewer-names c.in-Ok-Some.name _ _ (match-some _ _ c.in-Ok-Some.field-0 c.in-Ok-Some.name c.in-Ok-Some.field-0-is c.in-Ok-Some.ensures) (ap (λ (k : Known). k.source.held) c.in_ok-release_step-in-Ok-Some.ensures.known)

pub returns-in_err-release_step-in-Ok-Some-clause-stage : goal.returns-in_err-release_step-in-Ok-Some-clause-stage
returns-in_err-release_step-in-Ok-Some-clause-stage g c = let ended = ends-with _ _ _ _ _ c.loop-name.invariant.stage c.in_err-release_step-in-Ok-Some.ensures.stage in search rules

pub loop-name-preserved : goal.loop-name-preserved
loop-name-preserved g c =
    let inv = c.loop-name.invariant in
    let did = c.in_ok-release_step-in-Ok-Some.ensures in
    record {
      stage = goes-on-with _ _ _ _ inv.stage did.stage;
      safe = search rules;
      only = search rules;
    }
