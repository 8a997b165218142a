use Rattle.zr_world.proofs.Moments.{alone-shown, still-shown}
use Rattle.zr_world.proofs.laws.a_listing_shows_what_stood_still.Goals as goal

pub returns : goal.returns
returns c = record { still = still-shown; alone = alone-shown }
