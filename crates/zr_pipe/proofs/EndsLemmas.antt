-- Laws of what ends tell of their bytes.
use Rattle.std.proofs.Common.{◌≡◌, ℕ, List, [], ◌++◌, Option, None, Some, refl, sym, ap, append_assoc}
use Rattle.std.proofs.lemmas.List.{append-nil}
use Rattle.std.specs.Io.KnownBytes.{append_known, prepend_known}

-- two pieces that are put one after the other are one longer piece
pub append_known-append : (told : Option (List ℕ)) (a b : List ℕ) → append_known (append_known told a) b ≡ append_known told (a ++ b)
append_known-append None a b = refl
append_known-append (Some start) a b = ap Some (append_assoc start a b)

-- two pieces that are taken one after the other are one longer piece
pub prepend_known-append : (a b : List ℕ) (told : Option (List ℕ)) → prepend_known a (prepend_known b told) ≡ prepend_known (a ++ b) told
prepend_known-append a b None = refl
prepend_known-append a b (Some rest) = ap Some (sym (append_assoc a b rest))

pub append_known-nil : (told : Option (List ℕ)) → append_known told [] ≡ told
append_known-nil None = refl
append_known-nil (Some start) = ap Some (append-nil start)

pub prepend_known-nil : (told : Option (List ℕ)) → prepend_known [] told ≡ told
prepend_known-nil None = refl
prepend_known-nil (Some rest) = refl
