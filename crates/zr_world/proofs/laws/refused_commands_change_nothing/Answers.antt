use Rattle.zr_world.proofs.Moments.{none-same, refused-same}
use Rattle.zr_world.proofs.laws.refused_commands_change_nothing.Goals as goal

pub returns : goal.returns
returns c = record { refused = refused-same; none = none-same }
