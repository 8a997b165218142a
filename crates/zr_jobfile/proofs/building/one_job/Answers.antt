use Rattle.std.proofs.Common.{rules}
use Rattle.zr_jobfile.proofs.Checked.{one-whole}
use Rattle.zr_jobfile.proofs.building.one_job.Goals as goal

pub checked-requires : goal.checked-requires
checked-requires c =
    let whole = one-whole c.args.name c.args.entry c.args.count in
    search rules
