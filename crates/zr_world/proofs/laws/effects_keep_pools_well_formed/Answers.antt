use Rattle.zr_world.proofs.Applied.{effect-keeps}
use Rattle.zr_world.proofs.laws.effects_keep_pools_well_formed.Goals as goal

pub returns : goal.returns
returns c = effect-keeps
