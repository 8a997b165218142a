use Rattle.std.proofs.Common.{◌≡◌, ◌∙◌, ◌||◌, ℕ, ◌+◌, ◌<◌, Bool, true, false, List, [], ◌∷◌, ◌++◌, Option, Some, None, ap, arith, cond, filter, inl, inr, length, map, not, refl, subst, sym, zero-add}
use Rattle.std.specs.List.{All, sum_by}
use Rattle.std.proofs.lemmas.List.Sums.{sum_by-append}
use Rattle.std.proofs.lemmas.List.Elements.{All-cons, All-head, All-nil, All-tail}
use Rattle.zr_names.specs.declared.outcome.Outcome.{Outcome}
use Rattle.zr_names.specs.declared.outcome.Outcome.TheVariants as outcome
use Rattle.zr_names.specs.declared.unit.Work.{Work}
use Rattle.zr_names.specs.declared.unit.Work.TheVariants as work
use Rattle.zr_command.specs.declared.command.Answer.{Answer}
use Rattle.zr_command.specs.declared.command.Answer.TheVariants as answer
use Rattle.zr_command.specs.declared.command.Cmd.{Cmd}
use Rattle.zr_command.specs.declared.command.Cmd.TheVariants as cmd
use Rattle.zr_command.specs.declared.command.Reply.{Reply}
use Rattle.zr_command.specs.declared.command.Reply.TheVariants as reply
use Rattle.zr_command.specs.declared.version.VersionName.TheVariants.{Snap}
use Rattle.zr_command.specs.declared.version.VersionRow.{VersionRow}
use Rattle.zr_command.specs.Names.{same_text}
use Rattle.zr_command.specs.Plain.{plain}
use Rattle.zr_world.specs.declared.pools.Dataset.{Dataset}
use Rattle.zr_world.specs.declared.pools.Pools.{Pools}
use Rattle.zr_world.specs.declared.pools.Version.{Version}
use Rattle.zr_world.specs.Answering.{Acts, Answers, AnswersWords}
use Rattle.zr_world.specs.Effect.{first_changed, Leaves, Replies, with_set, without, without_all}
use Rattle.zr_world.specs.Lookup.{has_name, is_at}
use Rattle.zr_world.proofs.Moments.{came-whole}
use Rattle.std.specs.Cmp.Lexicographic.{nat_list_eq_equiv}
use Rattle.zr_names.specs.declared.unit.Unit.{Unit}
use Rattle.zr_jobset.specs.Sets.{Jobs}
use Rattle.zr_permit.specs.Result.{capped, failed_names}
use Rattle.zr_permit.specs.Sight.{ActedBy, HasJustBegun, Sight, Went}
use Rattle.zr_permit.specs.Transcript.{doomed_in, GoesOn, later_of, listed as last_listed, rows_told, Transcript, Turn}
use Rattle.zr_prune.specs.Alone.{is_snap_among, PrunesAlone, rows_at, without_snaps}
use Rattle.zr_prune.specs.Groups.{destroy_of, groups}
use Rattle.zr_prune.specs.Pruning.{HasGivenAll, IsPruned, IsPruning}
use Rattle.zr_prune.proofs.Groups.{groups-joined, groups-some, names_in}
use Rattle.zr_prune.proofs.Steps.{commands}

-- what a command that came whole has left and given back
came : (before after : Pools) (command : Cmd) (given : Reply) → Answers command before after (answer.Done given)
    → Leaves before before command after × Replies [] before command given
came before after command given effect = let whole = came-whole before after command given effect in (whole.1, whole.2)

plain-versions : (given : Cmd) (path : List ℕ) → plain given ≡ cmd.Versions path → given ≡ cmd.Versions path
plain-versions cmd.Sets path e = cc
plain-versions (cmd.Versions p) path e = e
plain-versions (cmd.Holds p name) path e = cc
plain-versions (cmd.Token token) path e = cc
plain-versions (cmd.Snapshot p name) path e = cc
plain-versions (cmd.Hold kind job p name) path e = cc
plain-versions (cmd.Release kind job p name) path e = cc
plain-versions (cmd.Bookmark p version name) path e = cc
plain-versions (cmd.DestroySnaps p names) path e = cc
plain-versions (cmd.DestroyMark p name) path e = cc
plain-versions (cmd.Create p) path e = cc
plain-versions (cmd.Transfer transfer) path e = cc
plain-versions (cmd.Abort p) path e = cc

plain-destroy : (given : Cmd) (path : List ℕ) (group : List (List ℕ)) → plain given ≡ destroy_of path group
    → given ≡ destroy_of path group
plain-destroy cmd.Sets path group e = cc
plain-destroy (cmd.Versions p) path group e = cc
plain-destroy (cmd.Holds p n) path group e = cc
plain-destroy (cmd.Token token) path group e = cc
plain-destroy (cmd.Snapshot p n) path group e = cc
plain-destroy (cmd.Hold kind job p n) path group e = cc
plain-destroy (cmd.Release kind job p n) path group e = cc
plain-destroy (cmd.Bookmark p version n) path group e = cc
plain-destroy (cmd.DestroySnaps p ns) path group e = e
plain-destroy (cmd.DestroyMark p n) path group e = cc
plain-destroy (cmd.Create p) path group e = cc
plain-destroy (cmd.Transfer transfer) path group e = cc
plain-destroy (cmd.Abort p) path group e = cc

-- a listing that was done shows the rows of its moment, and leaves the pools
listed : (before after : Pools) (path : List ℕ) (given : Reply)
    → AnswersWords (cmd.Versions path) before after (answer.Done given)
    → (after ≡ before) × (given ≡ reply.Versions (rows_at before path))
listed before after path given (inl answers) = came before after (cmd.Versions path) given answers
listed before after path given (inr (other, is_given, answers)) =
    let same = plain-versions other path is_given.same_words in
    let By : Cmd → Type 0 = λ c. Answers c before after (answer.Done given) in
    came before after (cmd.Versions path) given (subst By same answers)

-- a destroy that was done takes its snapshots
destroyed : (before after : Pools) (path : List ℕ) (group : List (List ℕ)) (given : Reply)
    → AnswersWords (destroy_of path group) before after (answer.Done given)
    → after ≡ without_all before path (map Snap group)
destroyed before after path group given (inl answers) = (came before after (destroy_of path group) given answers).0
destroyed before after path group given (inr (other, is_given, answers)) =
    let same = plain-destroy other path group is_given.same_words in
    let By : Cmd → Type 0 = λ c. Answers c before after (answer.Done given) in
    (came before after (destroy_of path group) given (subst By same answers)).0

-- the turn was done
abbrev pub IsDone : Turn → Type 0
IsDone turn = (given : Reply) × (turn.1 ≡ answer.Done given)

-- the pools after the destroys of some groups one after another
abbrev destroyed_all : Pools → List ℕ → List (List (List ℕ)) → Pools
destroyed_all pools path [] = pools
destroyed_all pools path (group ∷ given) = destroyed_all (without_all pools path (map Snap group)) path given

-- a runner that tells its pools goes on telling them
record IsTold (command : Cmd) (before : Pools) (mid : Option Pools) (given : Answer) : Type 0 where
  pools : Pools
  told : mid ≡ Some pools
  acts : AnswersWords command before pools given

mid-told : (command : Cmd) (before : Pools) (mid : Option Pools) (given : Answer)
    → Acts command (Some before) mid given → IsTold command before mid given
mid-told command before None given acts = absurd acts
mid-told command before (Some pools) given acts = record { pools = pools; told = refl; acts = acts }

turn-of : (turn : Turn) (command : Cmd) (given : Reply) → turn.0 ≡ command → turn.1 ≡ answer.Done given
    → (before : Pools) (mid : Option Pools) → Acts turn.0 (Some before) mid turn.1
    → Acts command (Some before) mid (answer.Done given)
turn-of turn command given is done before mid acts =
    let By : Cmd → Type 0 = λ c. Acts c (Some before) mid turn.1 in
    let With : Answer → Type 0 = λ a. Acts command (Some before) mid a in
    subst With done (subst By is acts)

head-is : (command other : Cmd) (rest others : List Cmd) → command ∷ rest ≡ other ∷ others
    → (command ≡ other) × (rest ≡ others)
head-is command other rest others e = (cc, cc)

all-destroyed : (path : List ℕ) (given : List (List (List ℕ))) (turns : Transcript) (before after : Pools)
    → commands turns ≡ map (destroy_of path) given → All IsDone turns → ActedBy turns (Some before) (Some after)
    → after ≡ destroyed_all before path given
all-destroyed path [] [] before after are done acted = cc
all-destroyed path [] (turn ∷ turns) before after are done acted = cc
all-destroyed path (group ∷ given) [] before after are done acted = cc
all-destroyed path (group ∷ given) (turn ∷ turns) before after are done (mid, acts, rest) =
    let heads = head-is turn.0 (destroy_of path group) (commands turns) (map (destroy_of path) given) are in
    let first = All-head IsDone turn turns done in
    let now = mid-told (destroy_of path group) before mid (answer.Done first.0) (turn-of turn (destroy_of path group) first.0 heads.0 first.1 before mid acts) in
    let From : Option Pools → Type 0 = λ pools. ActedBy turns pools (Some after) in
    all-destroyed path given turns now.pools after heads.1 (All-tail IsDone turn turns done) (subst From now.told rest)
    ∙ ap (λ (pools : Pools). destroyed_all pools path given) (destroyed before now.pools path group first.0 now.acts)

first_changed-twice : (path : List ℕ) (change other : Dataset → Dataset)
    → ((set : Dataset) → (change set).path ≡ set.path) → (sets : List Dataset)
    → first_changed (is_at path) other (first_changed (is_at path) change sets) ≡ first_changed (is_at path) (λ set. other (change set)) sets
first_changed-twice path change other keeps [] = refl
first_changed-twice path change other keeps (set ∷ sets) = choose (is_at path set) refl (first_changed-twice path change other keeps sets) where
  choose : (b : Bool) → is_at path set ≡ b
      → first_changed (is_at path) other (first_changed (is_at path) change sets) ≡ first_changed (is_at path) (λ set. other (change set)) sets
      → first_changed (is_at path) other (cond b (change set ∷ sets) (set ∷ first_changed (is_at path) change sets)) ≡ cond b (other (change set) ∷ sets) (set ∷ first_changed (is_at path) (λ set. other (change set)) sets)
  choose true is rest =
      let same : is_at path (change set) ≡ true = ap (λ (p : List ℕ). same_text p path) (keeps set) ∙ is in
      ap (λ (b : Bool). cond b (other (change set) ∷ sets) (change set ∷ first_changed (is_at path) other sets)) same
  choose false is rest =
      ap (λ (b : Bool). cond b (other set ∷ first_changed (is_at path) change sets) (set ∷ first_changed (is_at path) other (first_changed (is_at path) change sets))) is
      ∙ ap (λ (more : List Dataset). set ∷ more) rest

first_changed-same : (path : List ℕ) (change other : Dataset → Dataset)
    → ((set : Dataset) → change set ≡ other set) → (sets : List Dataset)
    → first_changed (is_at path) change sets ≡ first_changed (is_at path) other sets
first_changed-same path change other same [] = refl
first_changed-same path change other same (set ∷ sets) = choose (is_at path set) (first_changed-same path change other same sets) where
  choose : (b : Bool) → first_changed (is_at path) change sets ≡ first_changed (is_at path) other sets
      → cond b (change set ∷ sets) (set ∷ first_changed (is_at path) change sets) ≡ cond b (other set ∷ sets) (set ∷ first_changed (is_at path) other sets)
  choose true rest = ap (λ (s : Dataset). s ∷ sets) (same set)
  choose false rest = ap (λ (more : List Dataset). set ∷ more) rest

keep-twice : (p q : Bool) (version : Version) (one other : List Version) → one ≡ other
    → cond (not q) (cond (not p) (version ∷ one) one) one ≡ cond (not (q || p)) (version ∷ other) other
keep-twice p true version one other same = same
keep-twice true false version one other same = same
keep-twice false false version one other same = ap (λ (rest : List Version). version ∷ rest) same

filter-cond : (p : Version → Bool) (b : Bool) (version : Version) (rest : List Version)
    → filter p (cond b (version ∷ rest) rest) ≡ cond b (cond (p version) (version ∷ filter p rest) (filter p rest)) (filter p rest)
filter-cond p true version rest = refl
filter-cond p false version rest = refl

filter-twice : (p q : Version → Bool) (versions : List Version)
    → filter (λ v. not (p v)) (filter (λ v. not (q v)) versions) ≡ filter (λ v. not (q v || p v)) versions
filter-twice p q [] = refl
filter-twice p q (version ∷ versions) =
    filter-cond (λ v. not (p v)) (not (q version)) version (filter (λ v. not (q v)) versions)
    ∙ keep-twice (p version) (q version) version (filter (λ v. not (p v)) (filter (λ v. not (q v)) versions)) (filter (λ v. not (q v || p v)) versions) (filter-twice p q versions)

without-more : (name : List ℕ) (names : List (List ℕ)) (set : Dataset)
    → without_snaps names (without (Snap name) set) ≡ without_snaps (name ∷ names) set
without-more name names set =
    ap (λ (versions : List Version). record set { versions = versions }) (filter-twice (is_snap_among names) (has_name (Snap name)) set.versions)

with_set-same : (pools : Pools) (path : List ℕ) (change other : Dataset → Dataset)
    → ((set : Dataset) → change set ≡ other set) → with_set pools path change ≡ with_set pools path other
with_set-same pools path change other same =
    ap (λ (sets : List Dataset). record pools { sets = sets }) (first_changed-same path change other same pools.sets)

with_set-twice : (pools : Pools) (path : List ℕ) (change other : Dataset → Dataset)
    → ((set : Dataset) → (change set).path ≡ set.path)
    → with_set (with_set pools path change) path other ≡ with_set pools path (λ set. other (change set))
with_set-twice pools path change other keeps =
    ap (λ (sets : List Dataset). record pools { sets = sets }) (first_changed-twice path change other keeps pools.sets)

filter-none : (versions : List Version) → filter (λ v. not (is_snap_among [] v)) versions ≡ versions
filter-none [] = refl
filter-none (version ∷ versions) = ap (λ (rest : List Version). version ∷ rest) (filter-none versions)

first_changed-none : (path : List ℕ) (change : Dataset → Dataset) → ((set : Dataset) → change set ≡ set)
    → (sets : List Dataset) → first_changed (is_at path) change sets ≡ sets
first_changed-none path change same [] = refl
first_changed-none path change same (set ∷ sets) = choose (is_at path set) (first_changed-none path change same sets) where
  choose : (b : Bool) → first_changed (is_at path) change sets ≡ sets
      → cond b (change set ∷ sets) (set ∷ first_changed (is_at path) change sets) ≡ set ∷ sets
  choose true rest = ap (λ (s : Dataset). s ∷ sets) (same set)
  choose false rest = ap (λ (more : List Dataset). set ∷ more) rest

-- snapshots that go away one after another are all gone
without-each : (path : List ℕ) (names : List (List ℕ)) (pools : Pools)
    → without_all pools path (map Snap names) ≡ with_set pools path (without_snaps names)
without-each path [] pools =
    ap (λ (sets : List Dataset). record pools { sets = sets }) (sym (first_changed-none path (without_snaps []) (λ set. ap (λ (versions : List Version). record set { versions = versions }) (filter-none set.versions)) pools.sets))
without-each path (name ∷ names) pools =
    without-each path names (with_set pools path (without (Snap name)))
    ∙ with_set-twice pools path (without (Snap name)) (without_snaps names) (λ set. refl)
    ∙ with_set-same pools path (λ set. without_snaps names (without (Snap name) set)) (without_snaps (name ∷ names)) (without-more name names)

without-both : (path : List ℕ) (xs ys : List (List ℕ)) (pools : Pools)
    → without_all (without_all pools path (map Snap xs)) path (map Snap ys) ≡ without_all pools path (map Snap (xs ++ ys))
without-both path [] ys pools = refl
without-both path (x ∷ xs) ys pools = without-both path xs ys (with_set pools path (without (Snap x)))

-- so are those of groups
destroyed-each : (path : List ℕ) (given : List (List (List ℕ))) (pools : Pools)
    → destroyed_all pools path given ≡ without_all pools path (map Snap (names_in given))
destroyed-each path [] pools = refl
destroyed-each path (group ∷ given) pools =
    destroyed-each path given (without_all pools path (map Snap group)) ∙ without-both path group (names_in given) pools

-- destroys one after another take all their snapshots
destroyed-are : (path : List ℕ) (names : List (List ℕ)) (pools : Pools)
    → destroyed_all pools path (groups names) ≡ with_set pools path (without_snaps names)
destroyed-are path names pools =
    destroyed-each path (groups names) pools
    ∙ ap (λ (those : List (List ℕ)). without_all pools path (map Snap those)) (groups-joined names) ∙ without-each path names pools

-- a listing and then destroys, all of which were done, leave the dataset without their snapshots
pub pruned : (path : List ℕ) (names : List (List ℕ)) (turns : Transcript) (before after : Pools)
    → commands turns ≡ cmd.Versions path ∷ map (destroy_of path) (groups names) → All IsDone turns
    → ActedBy turns (Some before) (Some after) → after ≡ with_set before path (without_snaps names)
pruned path names [] before after are done acted = cc
pruned path names (turn ∷ turns) before after are done (mid, acts, rest) =
    let heads = head-is turn.0 (cmd.Versions path) (commands turns) (map (destroy_of path) (groups names)) are in
    let first = All-head IsDone turn turns done in
    let now = mid-told (cmd.Versions path) before mid (answer.Done first.0) (turn-of turn (cmd.Versions path) first.0 heads.0 first.1 before mid acts) in
    let From : Option Pools → Type 0 = λ pools. ActedBy turns pools (Some after) in
    let same = (listed before now.pools path first.0 now.acts).0 in
    all-destroyed path (groups names) turns now.pools after heads.1 (All-tail IsDone turn turns done) (subst From now.told rest)
    ∙ ap (λ (pools : Pools). destroyed_all pools path (groups names)) same ∙ destroyed-are path names before

-- a listing that the unit goes on after was done
listing-done : (own path : List ℕ) (given : Answer) → GoesOn (work.PruneSource own) (cmd.Versions path) given
    → (got : Reply) × (given ≡ answer.Done got)
listing-done own path (answer.Done got) goes = (got, refl)
listing-done own path answer.Failed goes = absurd goes
listing-done own path (answer.Garbled line) goes = absurd goes
listing-done own path answer.NoMemory goes = absurd goes

-- and so was a destroy, unless it failed
destroy-done : (own path : List ℕ) (group : List (List ℕ)) → 0 < length group → (given : Answer)
    → GoesOn (work.PruneSource own) (destroy_of path group) given
    → failed_names (destroy_of path group) given ≡ 0 → (got : Reply) × (given ≡ answer.Done got)
destroy-done own path group some (answer.Done got) goes sound = (got, refl)
destroy-done own path group some answer.Failed goes sound = absurd (omega (arith, some, sound))
destroy-done own path group some (answer.Garbled line) goes sound = absurd goes
destroy-done own path group some answer.NoMemory goes sound = absurd goes

abbrev failed_in : Turn → ℕ
failed_in turn = failed_names turn.0 turn.1

abbrev Goes_in : Work → Turn → Type 0
Goes_in unit_work turn = GoesOn unit_work turn.0 turn.1

both-zero : (one other : ℕ) → one + other ≡ 0 → (one ≡ 0) × (other ≡ 0)
both-zero one other e = (omega (arith, e), omega (arith, e))

none-failed : (turn : Turn) (turns : Transcript) → sum_by failed_in (turn ∷ turns) ≡ 0
    → (failed_in turn ≡ 0) × (sum_by failed_in turns ≡ 0)
none-failed turn turns none =
    both-zero (failed_in turn) (sum_by failed_in turns)
    (sym (sum_by-append failed_in (turn ∷ []) turns ∙ ap (λ (n : ℕ). n + sum_by failed_in turns) (zero-add (failed_in turn))) ∙ none)

-- each group has a name
abbrev HaveNames : List (List (List ℕ)) → Type 0
HaveNames given = All (λ (group : List (List ℕ)). 0 < length group) given

destroys-done : (own path : List ℕ) (given : List (List (List ℕ))) (turns : Transcript) → HaveNames given
    → commands turns ≡ map (destroy_of path) given → All (Goes_in (work.PruneSource own)) turns
    → sum_by failed_in turns ≡ 0 → All IsDone turns
destroys-done own path [] [] some are goes none = All-nil IsDone
destroys-done own path [] (turn ∷ turns) some are goes none = cc
destroys-done own path (group ∷ given) [] some are goes none = cc
destroys-done own path (group ∷ given) (turn ∷ turns) some are goes none =
    let heads = head-is turn.0 (destroy_of path group) (commands turns) (map (destroy_of path) given) are in
    let parts = none-failed turn turns none in
    let Goes : Cmd → Type 0 = λ c. GoesOn (work.PruneSource own) c turn.1 in
    let Fails : Cmd → Type 0 = λ c. failed_names c turn.1 ≡ 0 in
    let goes_on = subst Goes heads.0 (All-head (Goes_in (work.PruneSource own)) turn turns goes) in
    All-cons IsDone turn turns (destroy-done own path group (All-head (λ (g : List (List ℕ)). 0 < length g) group given some) turn.1 goes_on (subst Fails heads.0 parts.0))
    (destroys-done own path given turns (All-tail (λ (g : List (List ℕ)). 0 < length g) group given some) heads.1 (All-tail (Goes_in (work.PruneSource own)) turn turns goes) parts.1)

all-done : (own path : List ℕ) (given : List (List (List ℕ))) (turns : Transcript) → HaveNames given
    → commands turns ≡ cmd.Versions path ∷ map (destroy_of path) given
    → All (Goes_in (work.PruneSource own)) turns → sum_by failed_in turns ≡ 0 → All IsDone turns
all-done own path given [] some are goes none = cc
all-done own path given (turn ∷ turns) some are goes none =
    let heads = head-is turn.0 (cmd.Versions path) (commands turns) (map (destroy_of path) given) are in
    let parts = none-failed turn turns none in
    let Goes : Cmd → Type 0 = λ c. GoesOn (work.PruneSource own) c turn.1 in
    let goes_on = subst Goes heads.0 (All-head (Goes_in (work.PruneSource own)) turn turns goes) in
    All-cons IsDone turn turns (listing-done own path turn.1 goes_on)
    (destroys-done own path given turns some heads.1 (All-tail (Goes_in (work.PruneSource own)) turn turns goes) parts.1)

destroy-lists-nothing : (path : List ℕ) (group : List (List ℕ)) (command : Cmd) (given : Answer)
    → command ≡ destroy_of path group → rows_told path command given ≡ None
destroy-lists-nothing path group command given is =
    let Tells : Cmd → Type 0 = λ c. rows_told path c given ≡ None in
    subst Tells (sym is) refl

none-listed : (path : List ℕ) (given : List (List (List ℕ))) (turns : Transcript)
    → commands turns ≡ map (destroy_of path) given → last_listed path turns ≡ None
none-listed path [] [] are = refl
none-listed path [] (turn ∷ turns) are = cc
none-listed path (group ∷ given) [] are = cc
none-listed path (group ∷ given) (turn ∷ turns) are =
    let heads = head-is turn.0 (destroy_of path group) (commands turns) (map (destroy_of path) given) are in
    ap (later_of (rows_told path turn.0 turn.1)) (none-listed path given turns heads.1) ∙ destroy-lists-nothing path group turn.0 turn.1 heads.0

rows-itself : (path : List ℕ) (rows : List VersionRow)
    → rows_told path (cmd.Versions path) (answer.Done (reply.Versions rows)) ≡ Some rows
rows-itself path rows = rw (nat_list_eq_equiv.refl path)

-- the rows of the one listing are those of the dataset before
rows-listed : (path : List ℕ) (given : List (List (List ℕ))) (turns : Transcript) (rows : List VersionRow) (before after : Pools)
    → commands turns ≡ cmd.Versions path ∷ map (destroy_of path) given → All IsDone turns
    → ActedBy turns (Some before) (Some after) → last_listed path turns ≡ Some rows → rows ≡ rows_at before path
rows-listed path given [] rows before after are done acted told = cc
rows-listed path given (turn ∷ turns) rows before after are done (mid, acts, rest) told =
    let heads = head-is turn.0 (cmd.Versions path) (commands turns) (map (destroy_of path) given) are in
    let first = All-head IsDone turn turns done in
    let now = mid-told (cmd.Versions path) before mid (answer.Done first.0) (turn-of turn (cmd.Versions path) first.0 heads.0 first.1 before mid acts) in
    let shows = (listed before now.pools path first.0 now.acts).1 in
    let turn_is : turn ≡ (cmd.Versions path, answer.Done (reply.Versions (rows_at before path))) =
    turn-same turn (cmd.Versions path) (answer.Done (reply.Versions (rows_at before path))) heads.0 (first.1 ∙ ap answer.Done shows) in
    let by_turn : Turn → Option (List VersionRow) = λ t. rows_told path t.0 t.1 in
    let only : last_listed path (turn ∷ turns) ≡ Some (rows_at before path) =
    ap (later_of (rows_told path turn.0 turn.1)) (none-listed path given turns heads.1) ∙ ap by_turn turn_is ∙ rows-itself path (rows_at before path) in
    some-same rows (rows_at before path) (sym told ∙ only)
  where
    turn-same : (turn : Turn) (command : Cmd) (given : Answer) → turn.0 ≡ command → turn.1 ≡ given
        → turn ≡ (command, given)
    turn-same (c, a) command given is gives = ap (λ (x : Cmd). (x, a)) is ∙ ap (λ (y : Answer). (command, y)) gives

    some-same : (one other : List VersionRow) → Some one ≡ Some other → one ≡ other
    some-same one other e = cc

same-path : (one other : List ℕ) → work.PruneSource one ≡ work.PruneSource other → one ≡ other
same-path one other e = cc

none-capped : (count : ℕ) → 0 ≡ capped count → count ≡ 0
none-capped count e = omega (arith, e)

-- a prune that has given all and of which no command failed has left its dataset without the doomed snapshots
has-given-alone : (before now : Sight) → HasJustBegun before → Went before now → HasGivenAll now 0
    → (path : List ℕ) (pools after : Pools) → before.unit.work ≡ work.PruneSource path
    → before.pools ≡ Some pools → now.pools ≡ Some after
    → after ≡ with_set pools path (without_snaps (doomed_in before.jobs before.unit.job (Some (rows_at pools path))))
has-given-alone before now begun went given path pools after is told_before told_now =
    let own = same-path given.path path (sym given.pruning.work_is ∙ ap (λ (u : Unit). u.work) went.same_unit ∙ is) in
    let At : List ℕ → Type 0 = λ p. IsPruning now p given.names (groups given.names) in
    let pruning = subst At own given.pruning in
    let turns : now.turns ≡ went.more = went.turns_are ∙ ap (λ (ts : Transcript). ts ++ went.more) begun.no_turns in
    let Works : Work → Type 0 = λ w. All (Goes_in w) now.turns in
    let done = all-done path path (groups given.names) now.turns (groups-some given.names) pruning.commands (subst Works pruning.work_is pruning.goes_on) (none-capped (sum_by failed_in now.turns) given.busy_are) in
    let From : Option Pools → Type 0 = λ p. ActedBy now.turns p (Some after) in
    let To : Option Pools → Type 0 = λ p. ActedBy now.turns before.pools p in
    let By : Transcript → Type 0 = λ ts. ActedBy ts before.pools now.pools in
    let acted = subst From told_before (subst To told_now (subst By (sym turns) went.acted)) in
    let rows = rows-listed path (groups given.names) now.turns pruning.rows pools after pruning.commands done acted pruning.told in
    let of_rows : List VersionRow → List (List ℕ) = λ r. doomed_in now.jobs now.unit.job (Some r) in
    let same : doomed_in now.jobs now.unit.job (Some (rows_at pools path)) ≡ doomed_in before.jobs before.unit.job (Some (rows_at pools path)) =
    ap (λ (j : Jobs). doomed_in j now.unit.job (Some (rows_at pools path))) went.same_jobs ∙ ap (λ (u : Unit). doomed_in before.jobs u.job (Some (rows_at pools path))) went.same_unit in
    pruned path given.names now.turns pools after pruning.commands done acted
    ∙ ap (λ (names : List (List ℕ)). with_set pools path (without_snaps names)) (pruning.names_are ∙ ap of_rows rows ∙ same)

pub prunes-alone : (before now : Sight) (ended : Outcome) → HasJustBegun before → Went before now
    → IsPruned now ended → PrunesAlone before now ended
prunes-alone before now (outcome.Pruned count busy) begun went pruned_is = λ none.
    has-given-alone before now begun went (subst (λ (n : ℕ). HasGivenAll now n) none pruned_is)
prunes-alone before now other begun went pruned_is = tt
