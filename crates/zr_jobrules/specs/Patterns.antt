-- The patterns of rules (zrepl's documentation, "Pruning Policies").
use Rattle.std.specs.Prelude.{◌≡◌, ◌≤◌, ◌⊎◌, ℕ, List, Option, Some, None, length}
use Rattle.std.specs.Str.{IsUtf8}
use Rattle.zr_base.specs.Count.{Rose}
use Rattle.zr_names.specs.Tree.{Tree}
use Rattle.zr_jobwalk.specs.declared.fault.JobFault.{JobFault}
use Rattle.zr_jobwalk.specs.declared.fault.JobFault.TheVariants.{BadRegex}
use Rattle.zr_jobwalk.specs.Faults.{IsBad}
use Rattle.zr_jobwalk.specs.Values.{IsText}
use Rattle.zr_jobrules.specs.declared.patterns.TheConstants.{MAX_PATTERN}

-- the text of a pattern
abbrev pub IsPattern : List ℕ → List ℕ → Type 0
IsPattern text pattern = (pattern ≡ text) × (length text ≤ MAX_PATTERN) × IsUtf8 text

-- the same where it may be left out
abbrev pub IsSomePattern : List ℕ → Option (List ℕ) → Type 0
IsSomePattern text None = ⊥
IsSomePattern text (Some pattern) = IsPattern text pattern

-- how many patterns were refused before a call and after it, and which last
pub record Asked : Type 0 where
  pub before : ℕ
  pub after : ℕ
  pub last : Option (List ℕ)

abbrev pub asked : ℕ → ℕ → Option (List ℕ) → Asked
asked before after last = record { before = before; after = after; last = last }

-- the build of a pattern was refused in the call, and no other after it
abbrev pub WasRefused : Asked → List ℕ → Type 0
WasRefused asked pattern = Rose asked.before asked.after × (asked.last ≡ Some pattern)

abbrev pub IsRefused : Asked → List ℕ → List ℕ → Type 0
IsRefused asked text pattern = IsPattern text pattern × WasRefused asked pattern

-- what is no text of a pattern is a bad value; a pattern whose build was refused is told so
abbrev pub PatternFault : Asked → List ℕ → Tree → JobFault → Type 0
PatternFault asked name tree fault =
    IsBad (IsText IsPattern) name tree fault
    ⊎ ((fault ≡ BadRegex name) × ((pattern : List ℕ) × IsText (IsRefused asked) tree pattern))
