-- A pattern whose build was refused, as the fault of its field.
use Rattle.std.proofs.Common.{◌≡◌, ℕ, List, Option, Some, None, inr}
use Rattle.zr_names.specs.Tree.{Tree}
use Rattle.zr_jobwalk.specs.declared.fault.JobFault.{JobFault}
use Rattle.zr_jobwalk.specs.declared.fault.JobFault.TheVariants.{BadRegex}
use Rattle.zr_jobwalk.specs.Faults.{MissingOr}
use Rattle.zr_jobwalk.specs.Values.{HasText}
use Rattle.zr_jobrules.specs.Patterns.{Asked, IsPattern, PatternFault, WasRefused}

pub refused_pattern : (asked : Asked) (name : List ℕ) (found : Option Tree) (text pattern : List ℕ) (fault : JobFault) → HasText found text → IsPattern text pattern → WasRefused asked pattern → fault ≡ BadRegex name → MissingOr (PatternFault asked) name found fault
refused_pattern asked name None text pattern fault has is was told = absurd has
refused_pattern asked name (Some tree) text pattern fault has is was told = inr (told, (pattern, rw has (is, was)))
