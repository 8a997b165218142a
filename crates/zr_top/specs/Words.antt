use Rattle.std.specs.Prelude.{ℕ, List, [], ◌∷◌, Option, Some, None, codes, if◌then◌else◌, nat_eq}
use Rattle.std.specs.Cmp.Lexicographic.{pointwise}

-- the job file of a defined command: the words are `once` and one file name
abbrev pub file_of : List (List ℕ) → Option (List ℕ)
file_of (word ∷ file ∷ []) = if pointwise nat_eq word (codes "once") then Some file else None
file_of words = None
