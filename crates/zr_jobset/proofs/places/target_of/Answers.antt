use Rattle.std.proofs.Common.{◌≡◌, None, rules}
use Rattle.zr_jobset.specs.Places.{place_at}
use Rattle.zr_jobset.proofs.Servers.{somewhere}
use Rattle.zr_jobset.proofs.places.target_of.Goals as goal

pub unreachable-requires : goal.unreachable-requires
unreachable-requires c =
    let none : place_at c.args.set.now c.args.job ≡ None = search rules in
    somewhere c.args.set.now c.args.job c.place_at.ensures.checked c.requires none
