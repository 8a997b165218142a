-- Texts that are put together from their front on.
use Rattle.std.proofs.Common.{◌≡◌, ℕ, List, ◌++◌, Option, Some, None, refl, append_assoc}
use Rattle.zr_yaml.specs.Scalar.{with_front}

pub with_front_append : (a b : List ℕ) (found : Option (List ℕ × List ℕ)) →
    with_front (a ++ b) found ≡ with_front a (with_front b found)
with_front_append a b None = refl
with_front_append a b (Some x) = rw append_assoc refl
