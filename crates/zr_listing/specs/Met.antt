use Rattle.std.specs.Prelude.{◌||◌, ℕ, Bool, List}
use Rattle.zr_listing.specs.Names.{is_among}
use Rattle.zr_listing.specs.declared.names.Names.{Names}

-- a name was met
abbrev pub was_met : Names → List ℕ → Bool
was_met names q = is_among names.rising.items q || is_among names.others.keys q
