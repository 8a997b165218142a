-- The servers of the clients in a checked set.
use Rattle.std.proofs.Common.{◌≡◌, ◌≢◌, ℕ, suc, ◌∙◌, Bool, true, false, not, ◌&&◌, ◌||◌, cond, List, [], ◌∷◌, Option, Some, None, is_some, refl, ap, sym, subst}
use Rattle.std.specs.Prelude.{All, slice_get}
use Rattle.std.specs.List.{find, list_any}
use Rattle.std.specs.Option.{option_and_then}
use Rattle.std.proofs.lemmas.List.Elements.{All-get_or}
use Rattle.std.proofs.lemmas.List.Folds.{list_any_at}
use Rattle.std.proofs.lemmas.Option.{get_or_from_slice_get, slice_get_within}
use Rattle.zr_jobset.specs.declared.job.JobKind.{JobKind}
use Rattle.zr_jobset.specs.declared.job.JobKind.TheVariants.{Push, Pull, Sink, Source, Snap}
use Rattle.zr_jobset.specs.declared.job.Job.{Job}
use Rattle.zr_jobset.specs.declared.checks.Check.TheVariants as checks
use Rattle.zr_jobset.specs.Kinds.{is_client, is_pull, is_push, is_server, is_sink, is_source, meets, serves, some_passes}
use Rattle.zr_jobset.specs.Fields.{IsWhole, is_there}
use Rattle.zr_jobset.specs.Checks.{has_no_listener, has_wrong_listener, serves_others, shows_at}
use Rattle.zr_jobset.specs.Sets.{IsChecked, Jobs, job_at}
use Rattle.zr_jobset.specs.Places.{replicates, place_at, place_of, pulled_to, pushed_to, root_of_server, server_of}

and_parts : (a b : Bool) → (a && b) ≡ true → (a ≡ true) × (b ≡ true)
and_parts true true e = (refl, refl)
and_parts true false e = cc
and_parts false b e = cc

not_false : (a : Bool) → not a ≡ false → a ≡ true
not_false true e = refl
not_false false e = cc

-- a job that stands at a number
pub at_number : {X : Type 0} (P : X → Type 0) (xs : List X) (number : ℕ) (x : X) → slice_get xs number ≡ Some x → All P xs → P x
at_number P xs number x at all =
    subst P (get_or_from_slice_get xs number x x at) (All-get_or P xs number x (slice_get_within xs number x at) all)

-- what is found passes the test, and stands at a number
pub record Found {X : Type 0} (test : X → Bool) (xs : List X) : Type 0 where
  pub x : X
  pub number : ℕ
  pub is_found : find test xs ≡ Some x
  pub at : slice_get xs number ≡ Some x
  pub passes : test x ≡ true

found_next : {X : Type 0} (test : X → Bool) (x : X) (xs : List X) → test x ≡ false → Found test xs → Found test (x ∷ xs)
found_next test x xs fails rest = record {
  x = rest.x;
  number = suc rest.number;
  is_found = ap (λ t. cond t (Some x) (find test xs)) fails ∙ rest.is_found;
  at = rest.at;
  passes = rest.passes;
}

found_here : {X : Type 0} (test : X → Bool) (x : X) (xs : List X) → (list_any test xs ≡ true → Found test xs) → list_any test (x ∷ xs) ≡ true → Found test (x ∷ xs)
found_here test x xs next e = choose (test x) refl where
  choose : (b : Bool) → test x ≡ b → Found test (x ∷ xs)
  choose true b = record { x = x; number = 0; is_found = ap (λ t. cond t (Some x) (find test xs)) b; at = refl; passes = b }
  choose false b = found_next test x xs b (next (sym (ap (λ t. t || list_any test xs) b) ∙ e))

pub found : {X : Type 0} (test : X → Bool) (xs : List X) → list_any test xs ≡ true → Found test xs
found test [] e = cc
found test (x ∷ xs) e = found_here test x xs (λ rest. found test xs rest) e

sink_of : (client server : JobKind) → is_push client ≡ true → meets client server ≡ true → is_sink server ≡ true
sink_of Push Push push met = cc
sink_of Push Pull push met = cc
sink_of Push Sink push met = refl
sink_of Push Source push met = cc
sink_of Push Snap push met = cc
sink_of Pull server push met = cc
sink_of Sink server push met = cc
sink_of Source server push met = cc
sink_of Snap server push met = cc

source_of : (client server : JobKind) → is_pull client ≡ true → meets client server ≡ true → is_source server ≡ true
source_of Pull Push pull met = cc
source_of Pull Pull pull met = cc
source_of Pull Sink pull met = cc
source_of Pull Source pull met = refl
source_of Pull Snap pull met = cc
source_of Push server pull met = cc
source_of Sink server pull met = cc
source_of Source server pull met = cc
source_of Snap server pull met = cc

there : {X : Type 0} (wanted : Bool) (o : Option X) → wanted ≡ true → is_there wanted o ≡ true → is_some o ≡ true
there true o w e = e
there false o w e = cc

-- what a whole job has
listener_there : (job : Job) → IsWhole job → is_client job.kind ≡ true → is_some job.listener ≡ true
listener_there job whole client =
    there (is_client job.kind || is_server job.kind) job.listener (ap (λ b. b || is_server job.kind) client)
    (and_parts _ _ whole.ends).0

identity_there : (job : Job) → IsWhole job → is_client job.kind ≡ true → is_some job.identity ≡ true
identity_there job whole client =
    there (is_client job.kind) job.identity client (and_parts _ _ (and_parts _ _ whole.ends).1).1

root_there : (job : Job) → IsWhole job → (is_pull job.kind || is_sink job.kind) ≡ true → is_some job.root ≡ true
root_there job whole rooted =
    there (is_pull job.kind || is_sink job.kind) job.root rooted (and_parts _ _ (and_parts _ _ whole.ends).1).0

or_right : (a b : Bool) → b ≡ true → (a || b) ≡ true
or_right true b e = refl
or_right false b e = e

-- a job of a checked set
pub record IsAt (set : Jobs) (number : ℕ) (job : Job) : Type 0 where
  pub checked : IsChecked set
  pub at : slice_get set.jobs number ≡ Some job

pub whole_at : (set : Jobs) (number : ℕ) (job : Job) → IsAt set number job → IsWhole job
whole_at set number job is = at_number IsWhole set.jobs number job is.at is.checked.whole.each

-- the server of a client: its kind is the one that the client works with
pub record Served (set : Jobs) (job : Job) : Type 0 where
  pub name : List ℕ
  pub listener : job.listener ≡ Some name
  pub server : Found (serves name) set.jobs
  pub met : meets job.kind server.x.kind ≡ true

met_by : (jobs : List Job) (job : Job) (name : List ℕ) → list_any (serves_others job name) jobs ≡ false → (server : Found (serves name) jobs) → meets job.kind server.x.kind ≡ true
met_by jobs job name fails server = choose (meets job.kind server.x.kind) refl where
  choose : (b : Bool) → meets job.kind server.x.kind ≡ b → meets job.kind server.x.kind ≡ true
  choose true met = met
  choose false met =
      let other : serves_others job name server.x ≡ true = ap (λ t. t && not (meets job.kind server.x.kind)) server.passes ∙ ap not met in
      let some : list_any (serves_others job name) jobs ≡ true =
      list_any_at (serves_others job name) jobs server.number server.x (slice_get_within jobs server.number server.x server.at) (ap (serves_others job name) (get_or_from_slice_get jobs server.number server.x server.x server.at) ∙ other) in
      let e : true ≡ false = sym some ∙ fails in cc

pub served : (set : Jobs) (number : ℕ) (job : Job) → IsAt set number job → is_client job.kind ≡ true → Served set job
served set number job is client = named job.listener refl (listener_there job (whole_at set number job is) client) where
  none : has_no_listener set.jobs job ≡ false
  none = sym (ap (some_passes (shows_at set.names set.jobs number checks.NoListener)) is.at) ∙ is.checked.accepted checks.NoListener number

  wrong : has_wrong_listener set.jobs job ≡ false
  wrong = sym (ap (some_passes (shows_at set.names set.jobs number checks.WrongListenerType)) is.at) ∙ is.checked.accepted checks.WrongListenerType number

  passes : (test : List ℕ → Bool) (name : List ℕ) → job.listener ≡ Some name → (is_client job.kind && some_passes test job.listener) ≡ false → test name ≡ false
  passes test name e fails = sym (ap (λ b. b && some_passes test job.listener) client ∙ ap (some_passes test) e) ∙ fails

  named : (o : Option (List ℕ)) → job.listener ≡ o → is_some o ≡ true → Served set job
  named None e some = cc
  named (Some name) e some =
      let server = found (serves name) set.jobs (not_false _ (passes (λ name. not (list_any (serves name) set.jobs)) name e none)) in
      record {
        name = name;
        listener = e;
        server = server;
        met = met_by set.jobs job name (passes (λ name. list_any (serves_others job name) set.jobs) name e wrong) server;
      }

pushed_somewhere : (root identity : Option (List ℕ)) → is_some root ≡ true → is_some identity ≡ true → pushed_to root identity ≢ None
pushed_somewhere None identity r i = cc
pushed_somewhere (Some root) None r i = cc
pushed_somewhere (Some root) (Some identity) r i = λ e. cc

pulled_somewhere : (root : Option (List ℕ)) → is_some root ≡ true → pulled_to root ≢ None
pulled_somewhere None r = cc
pulled_somewhere (Some root) r = λ e. cc

-- where a push puts what it replicates
pub push_place : (set : Jobs) (job : Job) → is_push job.kind ≡ true → (s : Served set job) → place_of set.jobs job ≡ pushed_to s.server.x.root job.identity
push_place set job push s =
    ap (λ b. cond b (pushed_to (root_of_server (server_of set.jobs job.listener)) job.identity) (cond (is_pull job.kind) (pulled_to job.root) None)) push
    ∙ ap (λ o. pushed_to (root_of_server (server_of set.jobs o)) job.identity) s.listener
    ∙ ap (λ o. pushed_to (root_of_server o) job.identity) s.server.is_found

-- and a pull
pub pull_place : (set : Jobs) (job : Job) → is_push job.kind ≡ false → is_pull job.kind ≡ true → place_of set.jobs job ≡ pulled_to job.root
pull_place set job push pull =
    ap (λ b. cond b (pushed_to (root_of_server (server_of set.jobs job.listener)) job.identity) (cond (is_pull job.kind) (pulled_to job.root) None)) push
    ∙ ap (λ b. cond b (pulled_to job.root) None) pull

client_place : (set : Jobs) (number : ℕ) (job : Job) → IsAt set number job → is_client job.kind ≡ true → place_of set.jobs job ≢ None
client_place set number job is client = choose (is_push job.kind) refl where
  choose : (b : Bool) → is_push job.kind ≡ b → place_of set.jobs job ≢ None
  choose true push =
      let s = served set number job is client in
      let whole = whole_at set s.server.number s.server.x (record { checked = is.checked; at = s.server.at }) in
      let root = root_there s.server.x whole (or_right (is_pull s.server.x.kind) (is_sink s.server.x.kind) (sink_of job.kind s.server.x.kind push s.met)) in
      λ none.
      pushed_somewhere s.server.x.root job.identity root (identity_there job (whole_at set number job is) client)
      (sym (push_place set job push s) ∙ none)
  choose false push =
      let pull : is_pull job.kind ≡ true = sym (ap (λ b. b || is_pull job.kind) push) ∙ client in
      λ none.
      pulled_somewhere job.root (root_there job (whole_at set number job is) (ap (λ b. b || is_sink job.kind) pull))
      (sym (pull_place set job push pull) ∙ none)

-- a push or pull job has a place
pub somewhere : (set : Jobs) (number : ℕ) → IsChecked set → replicates set number ≡ true → place_at set number ≢ None
somewhere set number checked client = at (job_at set number) refl client where
  at : (o : Option Job) → slice_get set.jobs number ≡ o → some_passes (λ job. is_client job.kind) o ≡ true → option_and_then (place_of set.jobs) o ≢ None
  at None e client = cc
  at (Some job) e client = client_place set number job (record { checked = checked; at = e }) client
