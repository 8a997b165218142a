-- The identities of clients.
use Rattle.std.specs.Prelude.{◌≡◌, ◌||◌, ℕ, Bool, true, false, List, Result, Ok, Err, codes}
use Rattle.std.specs.Str.{bytes_eq}
use Rattle.zr_names.specs.Names.{IsName, Reads, name_is_bad}
use Rattle.zr_names.specs.declared.names.TheConstants.{JOB_LIMIT}
use Rattle.zr_jobs.specs.declared.identity.IdentityFault.{IdentityFault}
use Rattle.zr_jobs.specs.declared.identity.IdentityFault.TheVariants.{Dots, Name}

-- the two names that can be no component of a path
abbrev pub is_dot_name : List ℕ → Bool
is_dot_name text = bytes_eq text (codes ".") || bytes_eq text (codes "..")

-- an identity is a job's name that is neither `.` nor `..`
pub record IsIdentity (text : List ℕ) : Type 0 where
  pub name : IsName name_is_bad JOB_LIMIT text
  pub no_dots : is_dot_name text ≡ false

-- what the reader answers: the identity exactly where the text is one; else that it is dots, or the fault of the name
abbrev pub ReadsIdentity : List ℕ → Result (List ℕ) IdentityFault → Type 0
ReadsIdentity text (Ok identity) = (identity ≡ text) × IsIdentity text
ReadsIdentity text (Err Dots) = is_dot_name text ≡ true
ReadsIdentity text (Err (Name fault)) = (is_dot_name text ≡ false) × Reads name_is_bad JOB_LIMIT text (Err fault)
