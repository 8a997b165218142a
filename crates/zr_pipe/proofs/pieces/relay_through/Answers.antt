use Rattle.std.proofs.Common.{◌≡◌, ◌∙◌, arith}
use Rattle.zr_pipe.specs.Relay.{relay_max}
use Rattle.zr_pipe.proofs.RelayLemmas.{carried_more, relayed_stopped}
use Rattle.zr_pipe.proofs.pieces.relay_through.Goals as goal

pub loop-moved-preserved : goal.loop-moved-preserved
loop-moved-preserved g c = record {
  limited = c.in-Ok.ensures.limited;
  source = c.in-Ok.ensures.source_keeps ∙ c.loop-moved.invariant.source;
  sink = c.in-Ok.ensures.sink_keeps ∙ c.loop-moved.invariant.sink;
  carried = carried_more _ _ _ _ _ _ _ _ c.loop-moved.invariant.carried c.in-Ok.ensures.carried;
}

pub returns-in-Err-clause-relayed : goal.returns-in-Err-clause-relayed
returns-in-Err-clause-relayed g c = relayed_stopped _ _ _ _ _ _ _ _ c.loop-moved.invariant.carried c.in-Err.ensures.stopped

pub returns-clause-relayed : goal.returns-clause-relayed
returns-clause-relayed g c =
    let full : c.loop-moved.moved ≡ relay_max = omega (arith, c.loop-moved-test.false, c.loop-moved.invariant.limited) in
    relayed_stopped _ _ _ _ _ _ _ _ (rw full at c.loop-moved.invariant.carried) (c.end_at_limit.ensures.stopped _)
