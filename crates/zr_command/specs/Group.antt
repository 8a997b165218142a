use Rattle.std.specs.Prelude.{◌≡◌, ◌≢◌, ◌<◌, ◌≤◌, ◌⊎◌, ℕ, List, AllPairs, Result, Ok, Err, length, take, get_or, []}
use Rattle.zr_command.specs.declared.names.NamesFault.{NamesFault}
use Rattle.zr_command.specs.declared.names.NamesFault.TheVariants as fault
use Rattle.zr_command.specs.declared.names.TheConstants.{NAMES_LIMIT}

-- names of snapshots that one command names together: one at least, not more than the limit, and all different
pub record AreNames (names : List (List ℕ)) : Type 0 where
  pub some : 0 < length names
  pub few : length names ≤ NAMES_LIMIT
  pub differ : AllPairs (λ a b. a ≢ b) names

-- the names before this place differ, and its own stands among them
pub record IsFirstRepeated (names : List (List ℕ)) (place : ℕ) : Type 0 where
  pub before : ℕ
  pub earlier : before < place
  pub inside : place < length names
  pub same : get_or names before [] ≡ get_or names place []
  pub differ : AllPairs (λ a b. a ≢ b) (take place names)

-- how names are put together: their number is looked at first
abbrev pub ReadsNames : List (List ℕ) → Result (List (List ℕ)) NamesFault → Type 0
ReadsNames list (Ok names) = (names ≡ list) × AreNames list
ReadsNames list (Err (fault.Count n)) = (n ≡ length list) × ((n ≡ 0) ⊎ (NAMES_LIMIT < n))
ReadsNames list (Err (fault.Repeated place)) = (0 < length list) × (length list ≤ NAMES_LIMIT) × IsFirstRepeated list place
