-- Where what is replicated goes.
use Rattle.std.specs.Prelude.{◌≡◌, ◌≢◌, ◌⊎◌, ℕ, ◌<◌, ◌≤◌, List, ◌∷◌, ◌++◌, length, Option, Some, None, Result, Ok, Err, ⊤}
use Rattle.zr_jobs.specs.Identities.{IsIdentity}
use Rattle.zr_jobs.specs.declared.target.Destination.{Destination}
use Rattle.zr_jobs.specs.declared.target.Destination.TheVariants.{Push, Pull}
use Rattle.zr_jobs.specs.declared.target.TargetFault.{TargetFault}
use Rattle.zr_jobs.specs.declared.target.TargetFault.TheVariants.{NameTooLong, NoMemory}
use Rattle.zr_jobs.specs.declared.target.TheConstants.{LONGEST_PATH}

-- a path and what follows it, with a `/` between
abbrev pub joined : List ℕ → List ℕ → List ℕ
joined path rest = path ++ 47 ∷ rest

-- the target of a source
abbrev pub target_text : Destination → List ℕ → List ℕ
target_text (Push root identity) source = joined root (joined identity source)
target_text (Pull root) source = joined root source

-- what `target_of` answers: the target exactly where it is not too long, unless memory is refused
abbrev pub IsTarget : Destination → List ℕ → Result (List ℕ) TargetFault → Type 0
IsTarget place source (Ok path) = (path ≡ target_text place source) × (length path ≤ LONGEST_PATH)
IsTarget place source (Err (NameTooLong n)) = (n ≡ length (target_text place source)) × (LONGEST_PATH < n)
IsTarget place source (Err NoMemory) = length (target_text place source) ≤ LONGEST_PATH

-- the root of a destination
abbrev pub root_of : Destination → List ℕ
root_of (Push root identity) = root
root_of (Pull root) = root

-- a path is below a root
abbrev pub IsBelow : List ℕ → List ℕ → Type 0
IsBelow root path = (rest : List ℕ) × (path ≡ joined root rest)

-- neither root is the other or below it
pub record RootsApart (r s : List ℕ) : Type 0 where
  pub differ : r ≢ s
  pub not_below : IsBelow s r → ⊥
  pub not_above : IsBelow r s → ⊥

-- two destinations are apart: neither root is the other or below it, or two clients push under one root
abbrev pub AreApart : Destination → Destination → Type 0
AreApart (Push r i) (Push s j) = RootsApart r s ⊎ ((r ≡ s) × (i ≢ j))
AreApart (Push r i) (Pull s) = RootsApart r s
AreApart (Pull r) (Push s j) = RootsApart r s
AreApart (Pull r) (Pull s) = RootsApart r s

-- the identity of a destination, where it has one, is an identity
abbrev pub HasIdentity : Destination → Type 0
HasIdentity (Push root identity) = IsIdentity identity
HasIdentity (Pull root) = ⊤

-- a fault that tells the length of a target tells it exactly, and there is one that is too long
abbrev pub TellsLength : Option Destination → List ℕ → TargetFault → Type 0
TellsLength (Some place) source (NameTooLong n) = (n ≡ length (target_text place source)) × (LONGEST_PATH < n)
TellsLength None source (NameTooLong n) = ⊥
TellsLength place source NoMemory = ⊤
