use Rattle.zr_known.proofs.Knowing.{arrival-marks, arrival-newest, arrival-whole}
use Rattle.zr_known.proofs.laws.a_done_transfer_makes_its_snapshot_the_newest.Goals as goal

pub returns-clause-newest : goal.returns-clause-newest
returns-clause-newest c = arrival-newest

pub returns-clause-whole : goal.returns-clause-whole
returns-clause-whole c = arrival-whole

pub returns-clause-source : goal.returns-clause-source
returns-clause-source c = arrival-marks
