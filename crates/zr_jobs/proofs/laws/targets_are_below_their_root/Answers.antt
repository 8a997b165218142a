use Rattle.zr_jobs.proofs.Targets.{below_root}
use Rattle.zr_jobs.proofs.laws.targets_are_below_their_root.Goals as goal

pub returns : goal.returns
returns c = below_root
