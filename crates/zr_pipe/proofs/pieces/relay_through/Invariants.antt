use Rattle.std.proofs.Common.{◌-◌, ◌≡◌, ◌≤◌}
use Rattle.zr_pipe.specs.Relay.{relay_max, Carried}
use Rattle.zr_pipe.proofs.pieces.relay_through.Given as goal

abbrev pub invariant-loop-moved : goal.invariant-loop-moved
invariant-loop-moved g l = record {
  limited : l.moved ≤ relay_max;
  source : g.F.Source.faults l.from ≡ g.F.Source.faults l.fn.from;
  sink : g.T.Sink.faults l.to ≡ g.T.Sink.faults l.fn.to;
  carried : Carried (g.F.Source.left l.fn.from) (g.F.Source.left l.from) (g.T.Sink.written l.fn.to) (g.T.Sink.written l.to) l.moved;
}

abbrev pub decreases-loop-moved : goal.decreases-loop-moved
decreases-loop-moved g l = relay_max - l.moved
