use Rattle.zr_jobs.proofs.Targets.{sources_apart, targets_apart}
use Rattle.zr_jobs.proofs.laws.targets_differ.Goals as goal

pub returns-clause-apart : goal.returns-clause-apart
returns-clause-apart c = targets_apart

pub returns-clause-sources : goal.returns-clause-sources
returns-clause-sources c = sources_apart
