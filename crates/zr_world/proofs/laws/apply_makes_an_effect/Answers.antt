use Rattle.zr_world.proofs.Applied.{apply-gives}
use Rattle.zr_world.proofs.laws.apply_makes_an_effect.Goals as goal

pub returns : goal.returns
returns c = apply-gives
