use Rattle.std.proofs.Common.{rules}
use Rattle.zr_jobrules.proofs.Entries.{no_entry}
use Rattle.zr_jobrules.proofs.filesystems.entry_of.Goals as goal

pub returns-in-Err : goal.returns-in-Err
returns-in-Err c = λ entry is.
    no_entry c.args.line.now.key.now _ c.in-Some.allow c.in-Err.field-0 c.in-Err.ensures (search rules) entry is
