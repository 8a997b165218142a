-- What the jobs of a set work on, keep and replicate, and which units are theirs.
use Rattle.std.specs.Prelude.{⊤, ◌≡◌, ◌&&◌, ℕ, Bool, true, false, not, List, [], ◌∷◌, ◌++◌, Option, Some, None, is_some, All, nat_le, nat_lt, Contains, IsPermutation, filter, map, flat_map, length, slice_get}
use Rattle.std.specs.List.Sorted.{IsSorted}
use Rattle.std.specs.Option.{option_map, option_map_or}
use Rattle.std.specs.Ordering.{nat_cmp}
use Rattle.std.specs.Cmp.Lexicographic.{slice_cmp}
use Rattle.zr_names.specs.declared.unit.Unit.{Unit}
use Rattle.zr_names.specs.declared.unit.Work.{Work}
use Rattle.zr_names.specs.declared.unit.Work.TheVariants as work
use Rattle.zr_command.specs.declared.version.SetRow.{SetRow}
use Rattle.zr_filter.specs.Rule.{matches}
use Rattle.zr_filter.specs.declared.filter.Filter.{Filter}
use Rattle.zr_rules.specs.declared.rule.RuleSpec.{RuleSpec}
use Rattle.zr_rules.specs.Specs.{HasGrid, pattern_in}
use Rattle.zr_jobs.specs.Targets.{root_of, target_text}
use Rattle.zr_jobs.specs.declared.target.Destination.{Destination}
use Rattle.zr_jobs.specs.declared.target.TheConstants.{LONGEST_PATH}
use Rattle.zr_jobs.specs.declared.pair.Pair.{Pair}
use Rattle.zr_jobset.specs.declared.job.Job.{Job}
use Rattle.zr_jobset.specs.Fields.{is_default}
use Rattle.zr_jobset.specs.Kinds.{is_sink, some_passes}
use Rattle.zr_jobset.specs.Places.{filter_at, place_at}
use Rattle.zr_jobset.specs.Sets.{Jobs, job_at}

-- a job's name
abbrev pub name_of : Jobs → ℕ → List ℕ
name_of jobs number = option_map_or (λ (name : List ℕ). name) (slice_get jobs.names number) []

-- the rules by which a job's source snapshots are kept
abbrev pub rules_of : Jobs → ℕ → List RuleSpec
rules_of jobs number = option_map_or (λ (job : Job). job.keep_source) (job_at jobs number) []

-- the rules of each job
abbrev pub all_rules : Jobs → List (List RuleSpec)
all_rules jobs = map (λ (job : Job). job.keep_source) jobs.jobs

-- a rule without a pattern, whose grid, if it has one, `read_grid` can give
pub record IsPlain (rule : RuleSpec) : Type 0 where
  pub no_pattern : pattern_in rule ≡ None
  pub grid : HasGrid rule

-- all rules of all jobs are plain
abbrev pub ArePlain : Jobs → Type 0
ArePlain jobs = All (All IsPlain) (all_rules jobs)

-- a job's filter matches a path
abbrev pub matches_in : Jobs → ℕ → List ℕ → Bool
matches_in jobs number path = some_passes (λ (own : Filter). matches own path) (filter_at jobs number)

-- what a job of this name replicates from this source to this destination
abbrev pub pair_at : List ℕ → List ℕ → Destination → Pair
pair_at name source place =
    record { job = name; source = source; target = target_text place source; root = root_of place }

-- what a job replicates from this source, if it replicates: a push goes below its sink's root, a pull below its own
abbrev pub pair_of : Jobs → ℕ → List ℕ → Option Pair
pair_of jobs number source = option_map (pair_at (name_of jobs number) source) (place_at jobs number)

-- the listed paths that a job's filter matches
abbrev pub matched : Jobs → ℕ → List SetRow → List (List ℕ)
matched jobs number rows = filter (matches_in jobs number) (map (λ row. row.path) rows)

-- a path that a unit can work on: a bookmark's name still fits behind it
abbrev pub fits : List ℕ → Bool
fits path = nat_le (length path) LONGEST_PATH

-- the same of its target, where there is one
abbrev pub fits_target : Option Destination → List ℕ → Bool
fits_target None source = true
fits_target (Some place) source = fits (target_text place source)

-- a path that a job's units can work on: neither the path nor its target is too long
abbrev pub fits_in : Jobs → ℕ → List ℕ → Bool
fits_in jobs number path = fits path && fits_target (place_at jobs number) path

-- a listed path of which a scan of a job gives units
abbrev pub takes : Jobs → ℕ → List ℕ → Bool
takes jobs number path = matches_in jobs number path && fits_in jobs number path

-- whether a scan of a job gives such work, for some listing
abbrev pub gives : Jobs → ℕ → Work → Bool
gives jobs number work.Scan = true
gives jobs number (work.Replicate path) = takes jobs number path && is_some (place_at jobs number)
gives jobs number (work.PruneSource path) = takes jobs number path && nat_lt 0 (length (rules_of jobs number))
gives jobs number other = false

-- a path is replicated where its job has a destination
abbrev pub replications : Option Destination → ℕ → ℕ → List ℕ → List Unit
replications None number moment path = []
replications (Some place) number moment path =
    record { job = number; moment = moment; work = work.Replicate path } ∷ []

-- its snapshots are pruned where its job has rules
abbrev pub prunings : List RuleSpec → ℕ → ℕ → List ℕ → List Unit
prunings [] number moment path = []
prunings (rule ∷ rules) number moment path =
    record { job = number; moment = moment; work = work.PruneSource path } ∷ []

-- the units of one path: it is replicated first, then pruned
abbrev pub units_at : Jobs → ℕ → ℕ → List ℕ → List Unit
units_at jobs number moment path =
    replications (place_at jobs number) number moment path ++ prunings (rules_of jobs number) number moment path

-- the units that a scan of a job gives over a listing: those of each matched path that is not too long,
-- in byte order of paths, all with the moment of the scan
pub record UnitsOf (jobs : Jobs) (number moment : ℕ) (rows : List SetRow) (units : List Unit) : Type 0 where
  pub paths : List (List ℕ)
  pub listed : IsPermutation (filter (fits_in jobs number) (matched jobs number rows)) paths
  pub rising : IsSorted (slice_cmp nat_cmp) paths
  pub units_are : units ≡ flat_map (units_at jobs number moment) paths

-- a unit that a scan of its job gives for some listing
pub record IsScanned (jobs : Jobs) (unit : Unit) : Type 0 where
  pub rows : List SetRow
  pub units : List Unit
  pub scanned : UnitsOf jobs unit.job unit.moment rows units
  pub among : Contains units unit

-- the work is a scan, or a scan gives it
abbrev pub IsWorkOf : Jobs → Unit → Work → Type 0
IsWorkOf jobs unit work.Scan = ⊤
IsWorkOf jobs unit other = IsScanned jobs unit

-- the job of this number is there and is no sink: a sink does nothing by itself, so it is never scanned
abbrev pub is_scanned : Jobs → ℕ → Bool
is_scanned jobs number = some_passes (λ (job : Job). not (is_sink job.kind)) (job_at jobs number)

-- a unit of the job file: a scan of a job that is scanned, or a unit that such a scan gives
pub record IsOfFile (jobs : Jobs) (unit : Unit) : Type 0 where
  pub of_job : is_scanned jobs unit.job ≡ true
  pub work_is : IsWorkOf jobs unit unit.work

-- a job replicates as it does by default: guaranteed resumability, and the most recent snapshot first
abbrev pub has_default_policy : Jobs → ℕ → Bool
has_default_policy jobs number = some_passes (λ (job : Job). is_default job.policy) (job_at jobs number)
