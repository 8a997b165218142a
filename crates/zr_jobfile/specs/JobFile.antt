-- How a job file is read.
use Rattle.std.specs.Prelude.{⊤, ◌≡◌, ◌⊎◌, ℕ, ◌<◌, ◌≤◌, List, Some, None, Result, Ok, Err, length, IsUtf8}
use Rattle.toml.specs.Data.{Members}
use Rattle.toml.specs.Parse.{parse_document}
use Rattle.zr_filter.specs.declared.entry.FilterEntry.{FilterEntry}
use Rattle.zr_jobset.specs.Sets.{Jobs}
use Rattle.zr_jobset.specs.declared.checking.CheckFault.{CheckFault}
use Rattle.zr_jobset.specs.declared.checking.CheckFault.TheVariants as check
use Rattle.zr_jobfile.specs.SnapFile.{IsPattern, IsSnapFile}
use Rattle.zr_jobfile.specs.PushFile.{IsPushFile}
use Rattle.zr_jobfile.specs.declared.TheConstants.{FILE_LIMIT}
use Rattle.zr_jobfile.specs.declared.JobFault.{JobFault}
use Rattle.zr_jobfile.specs.declared.JobFault.TheVariants.{TooManyBytes, NotToml, NotBuilt, NoMemory}

-- the tree is that of a job file, and these are its jobs
abbrev pub IsJobFile : Members → Jobs → Type 0
IsJobFile tree jobs = IsSnapFile tree jobs ⊎ IsPushFile tree jobs

-- what comes of something of some form: this value exactly where it is of the form
abbrev pub Gives : {X : Type 0} → Type 0 → X → Result X JobFault → Type 0
Gives good wanted (Ok value) = (value ≡ wanted) × good
Gives good wanted (Err NotBuilt) = ¬ good
Gives good wanted (Err NoMemory) = ⊤
Gives good wanted (Err other) = ⊥

-- why a set of jobs that a check refuses gives none
abbrev pub refusal : CheckFault → JobFault
refusal check.NoMemory = NoMemory
refusal other = NotBuilt

-- a fault that comes of building: what there is has not the form, or memory was refused
abbrev pub IsOfBuilding : JobFault → Type 0
IsOfBuilding NotBuilt = ⊤
IsOfBuilding NoMemory = ⊤
IsOfBuilding other = ⊥

-- what a text is answered as a name of some kind: the name exactly where it is one
abbrev pub Names : (List ℕ → Type 0) → List ℕ → Result (List ℕ) JobFault → Type 0
Names IsGood text result = Gives (IsGood text) text result

-- what a text is answered as a pattern: the entry exactly where it is one
abbrev pub Patterns : List ℕ → Result FilterEntry JobFault → Type 0
Patterns text (Ok entry) = IsPattern text entry
Patterns text (Err NotBuilt) = (entry : FilterEntry) → ¬ IsPattern text entry
Patterns text (Err NoMemory) = ⊤
Patterns text (Err other) = ⊥

-- what a tree is built to: its jobs exactly where it is that of a file of this kind
abbrev pub Builds : (Members → Jobs → Type 0) → Members → Result Jobs JobFault → Type 0
Builds IsFile tree (Ok jobs) = IsFile tree jobs
Builds IsFile tree (Err NotBuilt) = (jobs : Jobs) → ¬ IsFile tree jobs
Builds IsFile tree (Err NoMemory) = ⊤
Builds IsFile tree (Err other) = ⊥

-- the bytes are the TOML text of a tree
pub record IsText (bytes : List ℕ) (tree : Members) : Type 0 where
  pub short : length bytes ≤ FILE_LIMIT
  pub utf8 : IsUtf8 bytes
  pub parsed : parse_document bytes ≡ Some tree

-- how the bytes of a job file are answered; the cases exclude each other, so each holds exactly there
abbrev pub ReadsJobs : List ℕ → Result Jobs JobFault → Type 0
ReadsJobs bytes (Ok jobs) = (tree : Members) × IsText bytes tree × IsJobFile tree jobs
ReadsJobs bytes (Err TooManyBytes) = FILE_LIMIT < length bytes
ReadsJobs bytes (Err NotToml) =
    (length bytes ≤ FILE_LIMIT) × (IsUtf8 bytes → parse_document bytes ≡ None)
ReadsJobs bytes (Err NotBuilt) =
    (tree : Members) × IsText bytes tree × ((jobs : Jobs) → ¬ IsJobFile tree jobs)
ReadsJobs bytes (Err NoMemory) = length bytes ≤ FILE_LIMIT
