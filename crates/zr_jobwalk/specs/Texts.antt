-- The texts that fields take, and what they stand for.
use Rattle.std.specs.Prelude.{◌≡◌, ◌≢◌, ◌⊎◌, ⊤, ℕ, ◌≤◌, ◌*◌, List, Option, Some, None, Result, Ok, Err, codes}
use Rattle.zr_names.specs.Names.{IsName, name_is_bad, path_is_bad}
use Rattle.zr_names.specs.declared.names.TheConstants.{JOB_LIMIT, PATH_LIMIT}
use Rattle.zr_names.specs.declared.policy.Initial.{Initial}
use Rattle.zr_names.specs.declared.policy.Initial.TheVariants as initial
use Rattle.zr_names.specs.declared.policy.Protection.{Protection}
use Rattle.zr_names.specs.declared.policy.Protection.TheVariants as protection
use Rattle.zr_grid.specs.Grammar.{Span}
use Rattle.zr_grid.specs.declared.span.TheConstants.{MAX_SPAN}
use Rattle.zr_schedule.specs.Read.{IsCron}
use Rattle.zr_schedule.specs.declared.schedule.When.{When}
use Rattle.zr_schedule.specs.declared.schedule.When.TheVariants.{Every, Cron, Never}
use Rattle.zr_schedule.specs.declared.spec.CronSpec.{CronSpec}
use Rattle.zr_jobs.specs.Identities.{IsIdentity}
use Rattle.zr_jobwalk.specs.declared.texts.Unread.{Unread}
use Rattle.zr_jobwalk.specs.declared.texts.Unread.TheVariants.{Bad, NoMemory}

-- the name of a job or of a listener, or what the names of snapshots begin with
abbrev pub IsJobName : List ℕ → List ℕ → Type 0
IsJobName text name = (name ≡ text) × IsName name_is_bad JOB_LIMIT text

-- the path of a dataset
abbrev pub IsPath : List ℕ → List ℕ → Type 0
IsPath text path = (path ≡ text) × IsName path_is_bad PATH_LIMIT text

-- the name by which a server knows a client
abbrev pub NamesClient : List ℕ → List ℕ → Type 0
NamesClient text identity = (identity ≡ text) × IsIdentity text

-- the one type of connection
abbrev pub IsLocal : List ℕ → Unit {0} → Type 0
IsLocal text unit = text ≡ codes "local"

-- what is guaranteed of a replication
abbrev pub IsProtection : List ℕ → Protection → Type 0
IsProtection text protection.Resumability = text ≡ codes "guarantee_resumability"
IsProtection text protection.Incremental = text ≡ codes "guarantee_incremental"
IsProtection text protection.Nothing = text ≡ codes "guarantee_nothing"

-- which snapshots are replicated first
abbrev pub IsInitial : List ℕ → Initial → Type 0
IsInitial text initial.MostRecent = text ≡ codes "most_recent"
IsInitial text initial.All = text ≡ codes "all"
IsInitial text initial.Fail = text ≡ codes "fail"

-- what the names of a job's snapshots begin with
abbrev pub IsPrefix : List ℕ → Option (List ℕ) → Type 0
IsPrefix text None = ⊥
IsPrefix text (Some prefix) = IsJobName text prefix

-- a span, in milliseconds
pub record IsEvery (text : List ℕ) (when : When) : Type 0 where
  pub seconds : ℕ
  pub span : Span seconds text
  pub short : seconds ≤ MAX_SPAN
  pub every : when ≡ Every (seconds * 1000)

-- when a pull job fetches: by hand, or after each span
abbrev pub IsInterval : List ℕ → When → Type 0
IsInterval text when = ((text ≡ codes "manual") × (when ≡ Never)) ⊎ IsEvery text when

-- the minutes of a cron text
pub record IsMinutes (text : List ℕ) (when : When) : Type 0 where
  pub spec : CronSpec
  pub minutes : IsCron text spec
  pub cron : when ≡ Cron spec

-- how a text is read that stands for something: it is bad exactly where it stands for nothing
abbrev pub ReadsText : {X : Type 0} → (List ℕ → X → Type 0) → List ℕ → Result X Unread → Type 0
ReadsText {X} Is text (Ok x) = Is text x
ReadsText {X} Is text (Err Bad) = (x : X) → ¬ Is text x
ReadsText {X} Is text (Err NoMemory) = ⊤
