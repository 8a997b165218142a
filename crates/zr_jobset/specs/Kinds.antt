-- What jobs of each kind do (zrepl's documentation, "Job Types").
use Rattle.std.specs.Prelude.{ℕ, ◌&&◌, ◌||◌, Bool, true, false, List, Option, Some, None, nat_eq}
use Rattle.std.specs.Cmp.Lexicographic.{pointwise}
use Rattle.zr_jobset.specs.declared.job.JobKind.{JobKind}
use Rattle.zr_jobset.specs.declared.job.JobKind.TheVariants.{Push, Pull, Sink, Source, Snap}
use Rattle.zr_jobset.specs.declared.job.Job.{Job}

abbrev pub is_push : JobKind → Bool
is_push Push = true
is_push Pull = false
is_push Sink = false
is_push Source = false
is_push Snap = false

abbrev pub is_pull : JobKind → Bool
is_pull Push = false
is_pull Pull = true
is_pull Sink = false
is_pull Source = false
is_pull Snap = false

abbrev pub is_sink : JobKind → Bool
is_sink Push = false
is_sink Pull = false
is_sink Sink = true
is_sink Source = false
is_sink Snap = false

abbrev pub is_source : JobKind → Bool
is_source Push = false
is_source Pull = false
is_source Sink = false
is_source Source = true
is_source Snap = false

abbrev pub is_snap : JobKind → Bool
is_snap Push = false
is_snap Pull = false
is_snap Sink = false
is_snap Source = false
is_snap Snap = true

-- a client connects to a listener, a server serves one
abbrev pub is_client : JobKind → Bool
is_client kind = is_push kind || is_pull kind

abbrev pub is_server : JobKind → Bool
is_server kind = is_sink kind || is_source kind

-- a push works with a sink, a pull with a source
abbrev pub meets : JobKind → JobKind → Bool
meets client server = (is_push client && is_sink server) || (is_pull client && is_source server)

-- something is there that passes a test
abbrev pub some_passes : {X : Type 0} → (X → Bool) → Option X → Bool
some_passes test None = false
some_passes test (Some x) = test x

-- a name is there and is this one
abbrev pub is_named : List ℕ → Option (List ℕ) → Bool
is_named name own = some_passes (λ own. pointwise nat_eq own name) own

-- a job serves the listener of this name
abbrev pub serves : List ℕ → Job → Bool
serves name job = is_server job.kind && is_named name job.listener
