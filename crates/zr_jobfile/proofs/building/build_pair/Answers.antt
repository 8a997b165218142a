use Rattle.std.proofs.Common.{◌∙◌, rules}
use Rattle.zr_jobfile.proofs.Checked.{both-whole, paired}
use Rattle.zr_jobfile.proofs.building.build_pair.Goals as goal

pub checked-requires : goal.checked-requires
checked-requires c =
    let whole = both-whole c.args.push.now c.args.sink.now in
    search rules

pub returns : goal.returns
returns c =
    paired c.args.push.now c.args.sink.now c.as_slice.result.now c.in_ok-jobs.jobs.items c.checked.result (c.as_slice.ensures.value ∙ c.in_ok-names.ensures.ok) c.in_ok-jobs.ensures.ok c.in_ok-names.ensures.good c.in_ok-jobs.ensures.good c.checked.ensures
