use Rattle.std.proofs.Common.{◌≤◌, ◌<◌, arith, count_by, length, length-set, rules, ◌∙◌}
use Rattle.zr_ledger.specs.Queue.{is_of_job}
use Rattle.zr_ledger.proofs.Indexing.{line-kept, rooms-more}
use Rattle.zr_ledger.proofs.queue.reserve_lines.Goals as goal

pub returns-in_err-reserve-clause-lines : goal.returns-in_err-reserve-clause-lines
returns-in_err-reserve-clause-lines c = λ job.
    let within : c.loop-job.job < length c.loop-job.lines.items = omega arith in
    line-kept c.loop-job.lines.items c.loop-job.job c.index_mut-line.result.now c.reserve.new.self within c.index_mut-line.ensures.value c.reserve.ensures.units job
    ∙ c.loop-job.invariant.same job

pub loop-job-preserved : goal.loop-job-preserved
loop-job-preserved c =
    let within : c.loop-job.job < length c.loop-job.lines.items = omega arith in
    let enough : count_by (is_of_job c.loop-job.job) c.args.units.now ≤ c.reserve.new.self.room = search rules in
    record {
      same = λ job. line-kept c.loop-job.lines.items c.loop-job.job c.index_mut-line.result.now c.reserve.new.self within c.index_mut-line.ensures.value c.reserve.ensures.units job
          ∙ c.loop-job.invariant.same job;
      long = length-set c.loop-job.lines.items c.loop-job.job c.reserve.new.self ∙ c.loop-job.invariant.long;
      room = rooms-more c.loop-job.lines.items c.args.units.now c.loop-job.job c.index_mut-line.result.now c.reserve.new.self within enough c.loop-job.invariant.room;
    }
