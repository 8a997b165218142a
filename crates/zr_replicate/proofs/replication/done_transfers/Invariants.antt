use Rattle.std.proofs.Common.{◌≡◌, ◌≤◌, take}
use Rattle.std.specs.List.{count_by}
use Rattle.zr_permit.specs.Result.{is_done_transfer}
use Rattle.zr_permit.specs.Transcript.{Turn}
use Rattle.zr_replicate.proofs.replication.done_transfers.Given as goal

-- the transfers among the turns so far
abbrev pub invariant-loop-cmd : goal.invariant-loop-cmd
invariant-loop-cmd l = record {
  counted : l.count ≡ count_by (λ (turn : Turn). is_done_transfer turn.0 turn.1) (take l.cmd-index l.turns);
  small : l.count ≤ l.cmd-index;
}
