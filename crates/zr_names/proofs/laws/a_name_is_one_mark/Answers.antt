use Rattle.zr_names.proofs.MarkKinds.{mark_kind-is}
use Rattle.zr_names.proofs.Unique.{one_mark, other_job, other_job_tentative}
use Rattle.zr_names.proofs.laws.a_name_is_one_mark.Goals as goal

pub returns : goal.returns
returns c = record { some = mark_kind-is; one = one_mark; other_cursor = other_job; other_tentative = other_job_tentative }
