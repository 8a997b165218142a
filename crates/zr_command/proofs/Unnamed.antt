use Rattle.std.proofs.Common.{◌≡◌, ℕ, zero, suc, ◌<◌, false, refl, arith}
use Rattle.zr_names.specs.Names.{IsName, name_is_bad, path_is_bad}
use Rattle.zr_names.specs.declared.names.TheConstants.{NAME_LIMIT, PATH_LIMIT}
use Rattle.zr_command.specs.Plain.{no_name}

path-good : (place : ℕ) → place < 1 → path_is_bad no_name place ≡ false
path-good zero inside = refl
path-good (suc place) inside = absurd (omega arith)

-- what stands where no path is named is a path
pub unnamed_path : IsName path_is_bad PATH_LIMIT no_name
unnamed_path = record { not_empty = omega arith; not_long = omega arith; no_place_bad = path-good }

name-good : (place : ℕ) → place < 1 → name_is_bad no_name place ≡ false
name-good zero inside = refl
name-good (suc place) inside = absurd (omega arith)

-- and so is what stands where no snapshot is named a name
pub unnamed_snap : IsName name_is_bad NAME_LIMIT no_name
unnamed_snap = record { not_empty = omega arith; not_long = omega arith; no_place_bad = name-good }
