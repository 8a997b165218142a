use Rattle.zr_world.proofs.Moments.{read-earlier}
use Rattle.zr_world.proofs.laws.a_transfer_may_have_read_its_source_earlier.Goals as goal

pub returns : goal.returns
returns c = read-earlier
