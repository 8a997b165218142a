use Rattle.zr_names.proofs.MarkKinds.{kind_of_mark}
use Rattle.zr_names.proofs.marks.mark_of.Goals as goal

pub returns-clause-kind : goal.returns-clause-kind
returns-clause-kind c =
    let name = c.as_bytes.ensures.value in
    let job = c.as_bytes-2.ensures.value in
    let kind = kind_of_mark c.as_bytes.result.now c.as_bytes-2.result.now c.kind_of.result c.kind_of.ensures.fits c.kind_of.ensures.spelled in
    cc
