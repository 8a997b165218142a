use Rattle.std.proofs.Common.{rules}
use Rattle.zr_jobset.specs.Sets.{set_of}
use Rattle.zr_jobfile.proofs.Checked.{refused}
use Rattle.zr_jobfile.proofs.building.checked.Goals as goal

pub returns-in-Err : goal.returns-in-Err
returns-in-Err c =
    let none = refused c.args.names.now c.args.jobs.items (set_of c.args.names.now c.args.jobs.items) c.in-Err.fault in
    search rules
