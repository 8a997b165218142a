use Rattle.zr_permit.proofs.Ending.{begun-at-work}
use Rattle.zr_replicate.proofs.Turning.{begins-at-work}
use Rattle.zr_replicate.proofs.replication.replicate.Goals as goal

pub out_of_memory-requires : goal.out_of_memory-requires
out_of_memory-requires g c = record { at_work = begun-at-work _ c.requires.begun }

pub replicate_pair-requires-clause-at_work : goal.replicate_pair-requires-clause-at_work
replicate_pair-requires-clause-at_work g c = begins-at-work _ _ c.requires.begun c.in-Ok.ensures c.new-known.ensures
