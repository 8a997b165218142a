use Rattle.std.proofs.Common.{ap, rules}
use Rattle.zr_known.specs.declared.known.Known.{Known}
use Rattle.zr_replicate.proofs.Lists.{match-some}
use Rattle.zr_replicate.proofs.Marking.{fewer-names, last-again, may-release_last, released-safe}
use Rattle.zr_replicate.proofs.Turning.{goes-on-with, ends-with}
use Rattle.zr_replicate.proofs.replication.Replication.release_other_last.Goals as goal

pub release_last-requires-clause-may : goal.release_last-requires-clause-may
release_last-requires-clause-may g c =
    may-release_last c.args.pair.now c.loop-name.self.known.now c.args.newest.now c.in-Ok-Some.name c.loop-name.invariant.safe (match-some _ _ c.in-Ok-Some.field-0 c.in-Ok-Some.name c.in-Ok-Some.field-0-is c.in-Ok-Some.ensures)

pub loop-name-smaller : goal.loop-name-smaller
loop-name-smaller g c =
    fewer-names c.in-Ok-Some.name _ _ (match-some _ _ c.in-Ok-Some.field-0 c.in-Ok-Some.name c.in-Ok-Some.field-0-is c.in-Ok-Some.ensures).among (ap (λ (k : Known). k.target.held) c.in_ok-release_last-in-Ok-Some.ensures.known)

pub loop-name-preserved : goal.loop-name-preserved
loop-name-preserved g c =
    let inv = c.loop-name.invariant in
    let did = c.in_ok-release_last-in-Ok-Some.ensures in
    record {
      stage = goes-on-with _ _ _ _ inv.stage did.stage;
      safe = released-safe c.args.pair.now c.loop-name.self.known.now c.release_last.new.self.known.now c.args.newest.now c.in-Ok-Some.name inv.safe (match-some _ _ c.in-Ok-Some.field-0 c.in-Ok-Some.name c.in-Ok-Some.field-0-is c.in-Ok-Some.ensures).is_other did.known;
      only = last-again c.args.self.now.known.now c.loop-name.self.known.now c.release_last.new.self.known.now _ inv.only did.known;
    }

pub returns-in_err-release_last-in-Ok-Some-clause-stage : goal.returns-in_err-release_last-in-Ok-Some-clause-stage
returns-in_err-release_last-in-Ok-Some-clause-stage g c = let ended = ends-with _ _ _ _ _ c.loop-name.invariant.stage c.in_err-release_last-in-Ok-Some.ensures.stage in search rules
