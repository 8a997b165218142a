use Rattle.std.proofs.Common.{arith}
use Rattle.zr_ledger.proofs.Indexing.{rooms-all}
use Rattle.zr_ledger.proofs.queue.Queue.reserve.Goals as goal

pub returns-clause-ok : goal.returns-clause-ok
returns-clause-ok c =
    let long = c.in_ok-grow_lines.ensures.ok in
    let same = c.in_ok-reserve_lines.ensures.len in
    record {
      order = let room = c.in_ok-reserve.ensures.ok in omega arith;
      lines = rooms-all c.reserve_lines.new.lines.items c.args.units.now c.args.jobs c.requires (omega arith)
          (λ job below. c.in_ok-reserve_lines.ensures.ok job (omega arith));
    }
