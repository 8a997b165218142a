use Rattle.zr_known.proofs.Knowing.{destroy-tells, failed-tells, garbled-tells, no-memory-tells}
use Rattle.zr_known.proofs.laws.what_was_not_done_tells_nothing.Goals as goal

pub returns-clause-failed : goal.returns-clause-failed
returns-clause-failed c = failed-tells

pub returns-clause-garbled : goal.returns-clause-garbled
returns-clause-garbled c = garbled-tells

pub returns-clause-no_memory : goal.returns-clause-no_memory
returns-clause-no_memory c = no-memory-tells

pub returns-clause-destroy : goal.returns-clause-destroy
returns-clause-destroy c = destroy-tells
