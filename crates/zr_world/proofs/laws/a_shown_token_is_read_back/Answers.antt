use Rattle.zr_world.proofs.TokensBack.{shown-read}
use Rattle.zr_world.proofs.laws.a_shown_token_is_read_back.Goals as goal

pub returns : goal.returns
returns c = shown-read
