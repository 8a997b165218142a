use Rattle.std.proofs.Common.{rules}
use Rattle.zr_permit.specs.declared.told.Told.TheVariants as told
use Rattle.zr_replicate.proofs.Turning.{ended-turn, failed-undone, garbled-undone, knows-more, memory-undone}
use Rattle.zr_replicate.proofs.replication.Replication.give.Goals as goal

pub returns-in-Ok-clause-stage : goal.returns-in-Ok-clause-stage
returns-in-Ok-clause-stage g c =
    let told = c.in-Done.ensures in
    record {
      went = c.run.ensures.went;
      at_work = knows-more _ _ _ c.args.cmd c.requires.at_work told.went told.memory told.turns c.in-Ok.ensures.ok;
      follows = told.records;
      same_lent = search rules;
    }

pub returns-in-Failed-clause-stage : goal.returns-in-Failed-clause-stage
returns-in-Failed-clause-stage g c =
    let run = c.in-Failed.ensures in
    ended-turn _ _ _ c.args.cmd told.Failed _ c.requires.at_work (search rules) run.went run.turns run.rose run.records failed-undone c.ended.ensures

pub returns-in-Garbled-clause-stage : goal.returns-in-Garbled-clause-stage
returns-in-Garbled-clause-stage g c =
    let run = c.in-Garbled.ensures in
    ended-turn _ _ _ c.args.cmd (told.Garbled c.in-Garbled.line) _ c.requires.at_work (search rules) run.went run.turns run.rose run.records (garbled-undone c.in-Garbled.line) c.ended-in-Garbled.ensures

pub returns-in-NoMemory-clause-stage : goal.returns-in-NoMemory-clause-stage
returns-in-NoMemory-clause-stage g c =
    let run = c.in-NoMemory.ensures in
    ended-turn _ _ _ c.args.cmd told.NoMemory _ c.requires.at_work (search rules) run.went run.turns run.rose run.records memory-undone c.ended-in-NoMemory.ensures
