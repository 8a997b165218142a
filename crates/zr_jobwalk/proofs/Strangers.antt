-- Where no key is the least, there is none.
use Rattle.std.proofs.Common.{◌≡◌, List, [], ◌∷◌, ℕ, Some, None, refl, fold}
use Rattle.zr_jobwalk.specs.Fields.{least, lesser, lesser_of}

some-stays : (key : List ℕ) (keys : List (List ℕ)) → ¬ (None ≡ fold lesser (Some key) keys)
some-stays key [] e = cc
some-stays key (other ∷ keys) e = some-stays (lesser_of key other) keys e

pub no_least : (keys : List (List ℕ)) → None ≡ least keys → keys ≡ []
no_least [] e = refl
no_least (key ∷ keys) e = absurd (some-stays key keys e)
