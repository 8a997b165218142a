use Rattle.std.proofs.Common.{◌≡◌, List, [], subst}
use Rattle.zr_jobwalk.specs.declared.field.Field.{Field}
use Rattle.zr_jobwalk.specs.Fields.{strangers}
use Rattle.zr_jobwalk.specs.Tables.{section}
use Rattle.zr_jobtree.proofs.Faults.{named_fault}
use Rattle.zr_jobtree.proofs.job.read_job.Goals as goal

pub returns-in-Err-clause-fault : goal.returns-in-Err-clause-fault
returns-in-Err-clause-fault g c = λ other.
    let Known : List Field → Type 0 = λ fields. strangers fields (section c.args.table.now).members ≡ [] in
    named_fault _ c.in_ok-kind.kind _ c.in_ok-name.name _ c.in_ok-kind.ensures.kind (subst Known c.fields_of.ensures c.in_ok-has_only.ensures.known) c.in_ok-name.ensures.name (c.in-Err.ensures.fault other)
