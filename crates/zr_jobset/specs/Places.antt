-- Whose filter a job goes by, and where it puts what it replicates.
use Rattle.std.specs.Prelude.{◌≡◌, ⊤, ℕ, ◌<◌, ◌≤◌, Bool, if◌then◌else◌, List, Option, Some, None, Result, Ok, Err, length}
use Rattle.std.specs.List.{find}
use Rattle.std.specs.Option.{option_and_then, option_map}
use Rattle.zr_filter.specs.declared.filter.Filter.{Filter}
use Rattle.zr_jobs.specs.Targets.{target_text}
use Rattle.zr_jobs.specs.declared.target.Destination.{Destination}
use Rattle.zr_jobs.specs.declared.target.Destination.TheVariants as place
use Rattle.zr_jobs.specs.declared.target.TargetFault.{TargetFault}
use Rattle.zr_jobs.specs.declared.target.TargetFault.TheVariants.{NameTooLong, NoMemory}
use Rattle.zr_jobs.specs.declared.target.TheConstants.{LONGEST_PATH}
use Rattle.zr_jobset.specs.declared.job.Job.{Job}
use Rattle.zr_jobset.specs.Kinds.{is_client, is_pull, is_push, serves, some_passes}
use Rattle.zr_jobset.specs.Sets.{Jobs, job_at}

-- the job that serves a listener; a check has seen to it that there is one at most
abbrev pub server_of : List Job → Option (List ℕ) → Option Job
server_of jobs None = None
server_of jobs (Some name) = find (serves name) jobs

abbrev pub filter_or : Filter → Option Job → Filter
filter_or own None = own
filter_or own (Some server) = server.filter

-- a pull goes by the filter of its source, every other job by its own
abbrev pub filter_of : List Job → Job → Filter
filter_of jobs job =
    if is_pull job.kind then filter_or job.filter (server_of jobs job.listener) else job.filter

abbrev pub filter_at : Jobs → ℕ → Option Filter
filter_at set number = option_map (filter_of set.jobs) (job_at set number)

-- the root of a server
abbrev pub root_of_server : Option Job → Option (List ℕ)
root_of_server None = None
root_of_server (Some server) = server.root

abbrev pub pushed_to : Option (List ℕ) → Option (List ℕ) → Option Destination
pushed_to None identity = None
pushed_to (Some root) None = None
pushed_to (Some root) (Some identity) = Some (place.Push root identity)

abbrev pub pulled_to : Option (List ℕ) → Option Destination
pulled_to None = None
pulled_to (Some root) = Some (place.Pull root)

-- a push goes below its sink's root and its identity, a pull below its own root
abbrev pub place_of : List Job → Job → Option Destination
place_of jobs job =
    if is_push job.kind then pushed_to (root_of_server (server_of jobs job.listener)) job.identity
    else (if is_pull job.kind then pulled_to job.root else None)

abbrev pub place_at : Jobs → ℕ → Option Destination
place_at set number = option_and_then (place_of set.jobs) (job_at set number)

-- the job of this number is a push or a pull
abbrev pub replicates : Jobs → ℕ → Bool
replicates set number = some_passes (λ job. is_client job.kind) (job_at set number)

-- what `target_of` answers: the target exactly where it is not too long, unless memory is refused
abbrev pub IsTargetOf : Option Destination → List ℕ → Result (List ℕ) TargetFault → Type 0
IsTargetOf place source (Err NoMemory) = ⊤
IsTargetOf None source (Err (NameTooLong n)) = ⊥
IsTargetOf None source (Ok path) = ⊥
IsTargetOf (Some place) source (Ok path) =
    (path ≡ target_text place source) × (length path ≤ LONGEST_PATH)
IsTargetOf (Some place) source (Err (NameTooLong n)) =
    (n ≡ length (target_text place source)) × (LONGEST_PATH < n)
