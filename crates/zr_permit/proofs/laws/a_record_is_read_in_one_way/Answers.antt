use Rattle.std.proofs.Common.{[]}
use Rattle.zr_permit.proofs.Reading.{one-reading}
use Rattle.zr_permit.proofs.laws.a_record_is_read_in_one_way.Goals as goal

pub returns : goal.returns
returns c = λ jobs unit one other a b same. one-reading jobs unit [] one other a b same
