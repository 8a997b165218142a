use Rattle.std.proofs.Common.{◌≡◌, ◌≢◌, ◌∙◌, ℕ, ◌+◌, ◌-◌, ◌<◌, ◌^◌, true, false, List, [], ◌∷◌, ◌++◌, Option, Some, ap, refl, sym, subst, arith, append_assoc, append-nil, length, map, min, get_or, zero-add, add-zero, ◌⊎◌, inl, inr}
use Rattle.std.specs.List.{All, AllPairs, Any, Contains, sum_by}
use Rattle.std.proofs.lemmas.List.Sums.{sum_by-append}
use Rattle.std.proofs.lemmas.List.{get_or-map, get_or_default, length-map, map-append}
use Rattle.std.proofs.lemmas.List.Elements.{All-cons, All-head, All-map, All-nil, All-push, All-tail, Contains-append_right, Contains-get_or}
use Rattle.zr_base.specs.Count.{Rose}
use Rattle.zr_names.specs.declared.outcome.Outcome.{Outcome}
use Rattle.zr_names.specs.declared.outcome.Outcome.TheVariants as outcome
use Rattle.zr_names.specs.declared.unit.Unit.{Unit}
use Rattle.zr_names.specs.declared.unit.Work.{Work}
use Rattle.zr_names.specs.declared.unit.Work.TheVariants as work
use Rattle.zr_command.specs.declared.command.Answer.{Answer}
use Rattle.zr_command.specs.declared.command.Answer.TheVariants as answer
use Rattle.zr_command.specs.declared.command.Cmd.{Cmd}
use Rattle.zr_command.specs.declared.command.Cmd.TheVariants as cmd
use Rattle.zr_command.specs.declared.command.Entry.{Entry}
use Rattle.std.specs.Cmp.Lexicographic.{nat_list_eq_equiv, pointwise}
use Rattle.std.specs.Prelude.{nat_eq}
use Rattle.zr_command.specs.declared.command.Reply.{Reply}
use Rattle.zr_command.specs.declared.command.Reply.TheVariants as reply
use Rattle.zr_command.specs.declared.version.VersionRow.{VersionRow}
use Rattle.zr_world.specs.Answering.{IsReplyTo}
use Rattle.zr_command.specs.Listings.{IsVersionList}
use Rattle.zr_permit.proofs.Dooming.{doomed-differ}
use Rattle.zr_jobset.specs.Sets.{Jobs}
use Rattle.zr_permit.specs.declared.told.Told.{Told}
use Rattle.zr_permit.specs.declared.told.Told.TheVariants as told
use Rattle.zr_jobset.specs.Units.{name_of, rules_of}
use Rattle.zr_permit.specs.Keep.{doomed}
use Rattle.zr_permit.specs.Result.{capped, ended_as, done_names, failed_names, HasPruned}
use Rattle.zr_permit.specs.Transcript.{Allowed, Destroys, doomed_in, GoesOn, listed, Permits, Transcript, Turn}
use Rattle.zr_permit.specs.Turned.{HasTurned, IsRecordOf, IsRecordAfter, told_of, Turns}
use Rattle.zr_permit.specs.Sight.{Follows, HasEnded, HasJustBegun, Sight, Went}
use Rattle.zr_permit.proofs.Ending.{begun-at-work, ended-on, ended-undone}
use Rattle.zr_permit.proofs.Listing.{listed-more}
use Rattle.zr_command.specs.Group.{AreNames}
use Rattle.zr_prune.specs.Groups.{destroy_of, groups}
use Rattle.zr_prune.specs.Pruning.{DestroysInGroups, HasGivenAll, IsPruned, IsPruning, Pruning}
use Rattle.zr_prune.proofs.Groups.{among-middle, before-other, contains-map, group-of-name, groups-joined, groups-more, groups-none, middle-differs, name-of-group, names_in, names-parted}

-- the commands of some turns
abbrev pub commands : Transcript → List Cmd
commands turns = map (λ (turn : Turn). turn.0) turns

-- what holds of the commands of some turns
All-commands : (P : Cmd → Type 0) (turns : Transcript) → All P (commands turns)
    → All (λ (turn : Turn). P turn.0) turns
All-commands P [] each = All-nil (λ (turn : Turn). P turn.0)
All-commands P (turn ∷ turns) each =
    All-cons (λ (t : Turn). P t.0) turn turns (All-head P turn.0 (commands turns) each) (All-commands P turns (All-tail P turn.0 (commands turns) each))

-- a destroy of another name than those given so far is new
is_new-destroy : (path : List ℕ) (given : List (List (List ℕ))) (name : List ℕ) (turns : Transcript)
    → commands turns ≡ cmd.Versions path ∷ map (destroy_of path) given → (Contains (names_in given) name → ⊥)
    → All (λ (turn : Turn). Destroys path name turn.0 → ⊥) turns
is_new-destroy path given name turns are other =
    let Other : Cmd → Type 0 = λ c. Destroys path name c → ⊥ in
    let listing : Other (cmd.Versions path) = λ e. e in
    let destroys = All-map Other (destroy_of path) given (λ k d inside e. other (name-of-group given k d name inside e.1)) in
    let each = All-cons Other (cmd.Versions path) (map (destroy_of path) given) listing destroys in
    let all : List Cmd → Type 0 = All Other in
    All-commands Other turns (subst all (sym are) each)

permits-destroy : (jobs : Jobs) (unit : Unit) (unit_work : Work) (path : List ℕ) (names group : List (List ℕ)) (turns : Transcript)
    → unit_work ≡ work.PruneSource path → names ≡ doomed_in jobs unit.job (listed path turns)
    → All (Contains names) group → Permits jobs unit.job unit_work turns (destroy_of path group)
permits-destroy jobs unit unit_work path names group turns is doomed among =
    let permits : Work → Type 0 = λ w. Permits jobs unit.job w turns (destroy_of path group) in
    let within : List (List ℕ) → Type 0 = λ ns. All (Contains ns) group in
    subst permits (sym is) (refl, subst within doomed among)

-- the next group of doomed snapshots may be given for destruction
next-allowed : (jobs : Jobs) (unit : Unit) (path : List ℕ) (names group rest : List (List ℕ)) (given : List (List (List ℕ))) (turns : Transcript)
    → Pruning jobs unit path names given turns → names ≡ names_in given ++ (group ++ rest)
    → Allowed jobs unit turns (destroy_of path group)
next-allowed jobs unit path names group rest given turns pruning parts = record {
  goes_on = pruning.goes_on;
  is_new = λ k d inside.
      is_new-destroy path given (get_or group k d) turns pruning.commands
      (before-other names (names_in given) group rest parts pruning.names_differ k d inside);
  permits = permits-destroy jobs unit unit.work path names group turns pruning.work_is (pruning.names_are ∙ ap (doomed_in jobs unit.job) (sym pruning.told))
      (subst (λ (ns : List (List ℕ)). All (Contains ns) group) (sym parts) (among-middle (names_in given) group rest));
}

-- a destroy that was done or failed lets a prune unit go on
goes-on : (unit_work : Work) (own path : List ℕ) (group : List (List ℕ)) (got : Answer) (given : Told)
    → unit_work ≡ work.PruneSource own → given ≡ told_of got → (given ≡ told.Done) ⊎ (given ≡ told.Failed)
    → GoesOn unit_work (destroy_of path group) got
goes-on unit_work own path group got given is told_is answered =
    let goes : Work → Type 0 = λ w. GoesOn w (destroy_of path group) got in
    subst goes (sym is) (by-answer got told_is) where
      by-answer : (a : Answer) → given ≡ told_of a → GoesOn (work.PruneSource own) (destroy_of path group) a
      by-answer (answer.Done reply) e = tt
      by-answer answer.Failed e = tt
      by-answer (answer.Garbled line) e = elim answered [ inl done ↦ cc | inr failed ↦ cc ]
      by-answer answer.NoMemory e = elim answered [ inl done ↦ cc | inr failed ↦ cc ]

-- one more group was given for destruction
pruning-more : (jobs : Jobs) (unit : Unit) (path : List ℕ) (names group : List (List ℕ)) (given : List (List (List ℕ))) (before after : Transcript) (told_it : Told)
    → Pruning jobs unit path names given before → HasTurned before after (destroy_of path group) told_it
    → (told_it ≡ told.Done) ⊎ (told_it ≡ told.Failed) → Pruning jobs unit path names (given ++ group ∷ []) after
pruning-more jobs unit path names group given before after told_it pruning turned answered =
    let destroy = destroy_of path group in
    let turn : Turn = (destroy, turned.got) in
    let Goes : Turn → Type 0 = λ t. GoesOn unit.work t.0 t.1 in
    let all : Transcript → Type 0 = All Goes in
    let goes = goes-on unit.work path path group turned.got told_it pruning.work_is turned.told_is answered in
    record {
      work_is = pruning.work_is;
      goes_on = subst all (sym turned.turns_are) (All-push Goes before turn pruning.goes_on goes);
      rows = pruning.rows;
      told = ap (listed path) turned.turns_are ∙ listed-more path before turn refl ∙ pruning.told;
      names_are = pruning.names_are;
      names_differ = pruning.names_differ;
      commands =
          ap commands turned.turns_are ∙ map-append (λ (t : Turn). t.0) before (turn ∷ [])
          ∙ ap (λ cs. cs ++ destroy ∷ []) pruning.commands
          ∙ ap (λ cs. cmd.Versions path ∷ cs) (sym (map-append (destroy_of path) given (group ∷ [])));
    }

-- the same unit of the same jobs
pub pruning-same : (jobs jobs' : Jobs) (unit unit' : Unit) (path : List ℕ) (names : List (List ℕ)) (given : List (List (List ℕ))) (turns : Transcript)
    → jobs' ≡ jobs → unit' ≡ unit → Pruning jobs unit path names given turns
    → Pruning jobs' unit' path names given turns
pruning-same jobs jobs' unit unit' path names given turns same_jobs same_unit pruning =
    let by_jobs : Jobs → Type 0 = λ j. Pruning j unit path names given turns in
    let by_unit : Unit → Type 0 = λ u. Pruning jobs' u path names given turns in
    subst by_unit (sym same_unit) (subst by_jobs (sym same_jobs) pruning)

-- of the doomed snapshots these are left: the groups before them were given for destruction
pub record HasGiven (now : Sight) (path : List ℕ) (names rest : List (List ℕ)) : Type 0 where
  pub given : List (List (List ℕ))
  pub pruning : IsPruning now path names given
  pub parts : groups names ≡ given ++ groups rest

pub given-begun : (now : Sight) (path : List ℕ) (names rest : List (List ℕ)) → IsPruning now path names []
    → rest ≡ names → HasGiven now path names rest
given-begun now path names rest pruning whole = record { given = []; pruning = pruning; parts = ap groups (sym whole) }

-- what was given, the next group and the rest are the doomed snapshots
parted : (now : Sight) (path : List ℕ) (names all group rest : List (List ℕ))
    → (given : HasGiven now path names all) → all ≡ group ++ rest
    → names ≡ names_in given.given ++ (group ++ rest)
parted now path names all group rest given cut =
    names-parted names all given.given given.parts ∙ ap (λ (others : List (List ℕ)). names_in given.given ++ others) cut

-- the next group is such as one command names together
pub next-names : (now : Sight) (path : List ℕ) (names all group rest : List (List ℕ))
    → HasGiven now path names all → all ≡ group ++ rest → length group ≡ min 64 (length all) → 0 < length all
    → AreNames group
next-names now path names all group rest given cut size some = record {
  some = omega (arith, size, some);
  few = omega (arith, size);
  differ = middle-differs names (names_in given.given) group rest (parted now path names all group rest given cut) given.pruning.names_differ;
}

-- and it may be given for destruction
pub group-allowed : (now : Sight) (path : List ℕ) (names all group rest : List (List ℕ))
    → HasGiven now path names all → all ≡ group ++ rest
    → Allowed now.jobs now.unit now.turns (destroy_of path group)
group-allowed now path names all group rest given cut =
    next-allowed now.jobs now.unit path names group rest given.given now.turns given.pruning (parted now path names all group rest given cut)

-- one more group was given
pub given-more : (before now : Sight) (path : List ℕ) (names all group rest : List (List ℕ)) (told_it : Told)
    → HasGiven before path names all → all ≡ group ++ rest → length group ≡ min 64 (length all) → 0 < length all
    → Went before now → HasTurned before.turns now.turns (destroy_of path group) told_it
    → (told_it ≡ told.Done) ⊎ (told_it ≡ told.Failed) → HasGiven now path names rest
given-more before now path names all group rest told_it given cut size some went turned answered = record {
  given = given.given ++ group ∷ [];
  pruning = pruning-same before.jobs now.jobs before.unit now.unit path names (given.given ++ group ∷ []) now.turns went.same_jobs went.same_unit (pruning-more before.jobs before.unit path names group given.given before.turns now.turns told_it given.pruning turned answered);
  parts = given.parts ∙ ap (λ (others : List (List (List ℕ))). given.given ++ others) (groups-more all group rest cut size some) ∙ sym (append_assoc given.given (group ∷ []) (groups rest));
}

-- where nothing is left, all groups were given
all-given : (now : Sight) (path : List ℕ) (names rest : List (List ℕ)) → HasGiven now path names rest
    → length rest ≡ 0 → IsPruning now path names (groups names)
all-given now path names rest given none =
    let Given : List (List (List ℕ)) → Type 0 = λ these. IsPruning now path names these in
    let are : groups names ≡ given.given = given.parts ∙ ap (λ (others : List (List (List ℕ))). given.given ++ others) (groups-none rest none) ∙ append-nil given.given in
    subst Given (sym are) given.pruning

abbrev pub done_count : Transcript → ℕ
done_count turns = sum_by (λ (t : Turn). done_names t.0 t.1) turns

abbrev pub failed_count : Transcript → ℕ
failed_count turns = sum_by (λ (t : Turn). failed_names t.0 t.1) turns

count-more : (of : Turn → ℕ) (turns : Transcript) (turn : Turn)
    → sum_by of (turns ++ turn ∷ []) ≡ sum_by of turns + of turn
count-more of turns turn =
    sum_by-append of turns (turn ∷ []) ∙ ap (λ n. sum_by of turns + n) (zero-add (of turn))

not-failed : told.Failed ≡ told.Done → ⊥
not-failed e = cc

not-garbled : (line : ℕ) → told.Failed ≡ told.Garbled line → ⊥
not-garbled line e = cc

not-short : told.Failed ≡ told.NoMemory → ⊥
not-short e = cc

-- what a destroy that was done adds to the counts
pub counts-done : (path : List ℕ) (group : List (List ℕ)) (before after : Transcript)
    → HasTurned before after (destroy_of path group) told.Done
    → (done_count after ≡ done_count before + length group) × (failed_count after ≡ failed_count before)
counts-done path group before after turned = by-answer turned.got turned.told_is turned.turns_are where
  by-answer : (a : Answer) → told.Done ≡ told_of a → after ≡ before ++ (destroy_of path group, a) ∷ []
      → (done_count after ≡ done_count before + length group) × (failed_count after ≡ failed_count before)
  by-answer (answer.Done reply) e turns =
      (ap done_count turns ∙ count-more (λ (t : Turn). done_names t.0 t.1) before (destroy_of path group, answer.Done reply), ap failed_count turns ∙ count-more (λ (t : Turn). failed_names t.0 t.1) before (destroy_of path group, answer.Done reply) ∙ add-zero (failed_count before))
  by-answer answer.Failed e turns = cc
  by-answer (answer.Garbled line) e turns = cc
  by-answer answer.NoMemory e turns = cc

-- what a destroy that failed adds to the counts
pub counts-failed : (path : List ℕ) (group : List (List ℕ)) (before after : Transcript)
    → HasTurned before after (destroy_of path group) told.Failed
    → (done_count after ≡ done_count before) × (failed_count after ≡ failed_count before + length group)
counts-failed path group before after turned = by-answer turned.got turned.told_is turned.turns_are where
  by-answer : (a : Answer) → told.Failed ≡ told_of a → after ≡ before ++ (destroy_of path group, a) ∷ []
      → (done_count after ≡ done_count before) × (failed_count after ≡ failed_count before + length group)
  by-answer answer.Failed e turns =
      (ap done_count turns ∙ count-more (λ (t : Turn). done_names t.0 t.1) before (destroy_of path group, answer.Failed) ∙ add-zero (done_count before), ap failed_count turns ∙ count-more (λ (t : Turn). failed_names t.0 t.1) before (destroy_of path group, answer.Failed))
  by-answer (answer.Done reply) e turns = absurd (not-failed e)
  by-answer (answer.Garbled line) e turns = absurd (not-garbled line e)
  by-answer answer.NoMemory e turns = absurd (not-short e)

-- a capped count goes on as the count does
pub capped-more : (n more : ℕ) → min (capped n + more) (2 ^ 32 - 1) ≡ capped (n + more)
capped-more n more = omega arith

-- a turn of which a command is
turn-of-command : (P : Cmd → Type 0) (turns : Transcript) (command : Cmd) → Contains (commands turns) command
    → P command → Any (λ (turn : Turn). P turn.0) turns
turn-of-command P turns command (k, inside, at) p =
    let none : Turn = (command, answer.Failed) in
    let low : k < length turns = omega (arith, inside, length-map turns (λ (t : Turn). t.0)) in
    let turn = get_or turns k none in
    let is : command ≡ turn.0 = sym at ∙ get_or-map (λ (t : Turn). t.0) turns k none command low in
    (k, turn, low, get_or_default turns k turn none low, subst P is p)

-- all doomed snapshots were given for destruction
all-issued : (jobs : Jobs) (unit : Unit) (path : List ℕ) (names : List (List ℕ)) (turns : Transcript)
    → Pruning jobs unit path names (groups names) turns
    → All (λ name. Any (λ (turn : Turn). Destroys path name turn.0) turns) names
all-issued jobs unit path names turns pruning =
    let destroys = map (destroy_of path) (groups names) in
    λ k d inside.
    let name = get_or names k d in
    let among : List (List ℕ) → Type 0 = λ ns. Contains ns name in
    let found = group-of-name (groups names) name (subst among (sym (groups-joined names)) (Contains-get_or names k d inside)) in
    let has : List Cmd → Type 0 = λ cs. Contains cs (destroy_of path found.0) in
    let is_given = Contains-append_right (cmd.Versions path ∷ []) destroys (destroy_of path found.0) (contains-map (destroy_of path) (groups names) found.0 found.1) in
    turn-of-command (Destroys path name) turns (destroy_of path found.0) (subst has (sym pruning.commands) is_given) (refl, found.2)

-- a prune unit that has given all doomed snapshots for destruction has finished
has-pruned : (jobs : Jobs) (unit : Unit) (path : List ℕ) (names : List (List ℕ)) (turns : Transcript) (destroyed busy : ℕ)
    → Pruning jobs unit path names (groups names) turns → destroyed ≡ capped (done_count turns)
    → busy ≡ capped (failed_count turns) → HasPruned jobs unit turns destroyed busy
has-pruned jobs unit path names turns destroyed busy pruning done failed =
    let issued : List (List ℕ) → Type 0 = λ ns. All (λ name. Any (λ (turn : Turn). Destroys path name turn.0) turns) ns in
    record {
      path = path;
      work_is = pruning.work_is;
      goes_on = pruning.goes_on;
      rows = pruning.rows;
      told = pruning.told;
      issued = subst issued pruning.names_are (all-issued jobs unit path names turns pruning);
      destroyed_are = done;
      busy_are = failed;
    }

pointwise-same : (text : List ℕ) → pointwise nat_eq text text ≡ true
pointwise-same text = nat_list_eq_equiv.refl text

listed-own : (path : List ℕ) (rows : List VersionRow)
    → listed path ((cmd.Versions path, answer.Done (reply.Versions rows)) ∷ []) ≡ Some rows
listed-own path rows = rw (pointwise-same path)

-- what the first listing of a dataset dooms
begun : (jobs : Jobs) (unit : Unit) (path : List ℕ) (names : List (List ℕ)) (rows : List VersionRow) (turns : Transcript)
    → unit.work ≡ work.PruneSource path → IsVersionList rows
    → turns ≡ (cmd.Versions path, answer.Done (reply.Versions rows)) ∷ []
    → names ≡ doomed_in jobs unit.job (listed path turns) → Pruning jobs unit path names [] turns
begun jobs unit path names rows turns is list turns_are names_are =
    let turn : Turn = (cmd.Versions path, answer.Done (reply.Versions rows)) in
    let Goes : Turn → Type 0 = λ t. GoesOn unit.work t.0 t.1 in
    let all : Transcript → Type 0 = All Goes in
    let listed_are : listed path turns ≡ Some rows = ap (listed path) turns_are ∙ listed-own path rows in
    let doomed_are = names_are ∙ ap (doomed_in jobs unit.job) listed_are in
    let differ : List (List ℕ) → Type 0 = AllPairs (λ a b. a ≢ b) in
    record {
      work_is = is;
      goes_on = subst all (sym turns_are) (All-cons Goes turn [] (tt) (All-nil Goes));
      rows = rows;
      told = listed_are;
      names_are = doomed_are;
      names_differ = subst differ (sym doomed_are) (doomed-differ (name_of jobs unit.job) (rules_of jobs unit.job) rows list.names_differ);
      commands = ap commands turns_are;
    }

-- a prune unit has begun where its listing was done
pub pruning-begun : (jobs : Jobs) (unit : Unit) (path : List ℕ) (names : List (List ℕ)) (turns : Transcript)
    → unit.work ≡ work.PruneSource path → HasTurned [] turns (cmd.Versions path) told.Done
    → names ≡ doomed_in jobs unit.job (listed path turns) → Pruning jobs unit path names [] turns
pruning-begun jobs unit path names turns is turned names_are =
    by-answer turned.got turned.told_is turned.shape turned.turns_are where
      by-reply : (r : Reply) → IsReplyTo (cmd.Versions path) (answer.Done r)
          → turns ≡ (cmd.Versions path, answer.Done r) ∷ [] → Pruning jobs unit path names [] turns
      by-reply (reply.Versions rows) fits turns_are = begun jobs unit path names rows turns is fits turns_are names_are
      by-reply (reply.Sets rows) fits turns_are = absurd fits
      by-reply (reply.Holds tags) fits turns_are = absurd fits
      by-reply (reply.Token info) fits turns_are = absurd fits
      by-reply reply.Nothing fits turns_are = absurd fits

      by-answer : (a : Answer) → told.Done ≡ told_of a → IsReplyTo (cmd.Versions path) a
          → turns ≡ (cmd.Versions path, a) ∷ [] → Pruning jobs unit path names [] turns
      by-answer (answer.Done r) e fits turns_are = by-reply r fits turns_are
      by-answer answer.Failed e fits turns_are = cc
      by-answer (answer.Garbled line) e fits turns_are = cc
      by-answer answer.NoMemory e fits turns_are = cc

-- a prune unit ends where its listing failed
pub listing-ends : (unit_work : Work) (own path : List ℕ) → unit_work ≡ work.PruneSource own
    → GoesOn unit_work (cmd.Versions path) answer.Failed → ⊥
listing-ends unit_work own path is goes =
    let Goes : Work → Type 0 = λ w. GoesOn w (cmd.Versions path) answer.Failed in
    subst Goes is goes

no-fault : false ≡ true → ⊥
no-fault e = cc

-- the unit has ended once all doomed snapshots were given for destruction
pub pruned-ended : (before now : Sight) (path : List ℕ) (names rest : List (List ℕ)) (destroyed busy : ℕ)
    → Went before now → Follows before now → HasGiven now path names rest → length rest ≡ 0
    → destroyed ≡ capped (done_count now.turns) → busy ≡ capped (failed_count now.turns)
    → HasEnded before now (outcome.Pruned destroyed busy)
pruned-ended before now path names rest destroyed busy went follows given none done failed = record {
  went = went;
  result = has-pruned before.jobs before.unit path names now.turns destroyed busy (pruning-same now.jobs before.jobs now.unit before.unit path names (groups names) now.turns (sym went.same_jobs) (sym went.same_unit) (all-given now path names rest given none)) done failed;
  records = follows;
  rose = λ fault. absurd (no-fault fault);
}

memory-undone : told.NoMemory ≢ told.Done
memory-undone e = cc

not-failing : told.NoMemory ≡ told.Failed → ⊥
not-failing e = cc

-- and where memory was refused to a destroy
pub destroys-ended : (first before now : Sight) (path : List ℕ) (names rest : List (List ℕ)) (command : Cmd)
    → Went first before → Follows first before → before.out_of_memory ≡ false → HasGiven before path names rest
    → Went before now → Turns before.turns now.turns command told.NoMemory
    → ((base : Option (List Entry)) → IsRecordOf base before.history before.turns → IsRecordAfter base now.history before.turns now.turns command told.NoMemory)
    → HasEnded first now outcome.NoMemory
destroys-ended first before now path names rest command went follows memory given more turns records =
    ended-on first before now outcome.NoMemory went follows
    (ended-undone before now command told.NoMemory outcome.NoMemory (record { with_memory = memory; goes_on = given.pruning.goes_on }) more turns (λ failed. absurd (not-failing failed)) records memory-undone (λ failed. absurd (not-failing failed)) refl)

-- the unit has ended where its listing was not done
pub listing-ended : (before now : Sight) (path : List ℕ) (given : Told) (ended : Outcome) → HasJustBegun before
    → before.unit.work ≡ work.PruneSource path → Went before now
    → Turns before.turns now.turns (cmd.Versions path) given
    → (given ≡ told.Failed → Rose before.faults now.faults)
    → ((base : Option (List Entry)) → IsRecordOf base before.history before.turns → IsRecordAfter base now.history before.turns now.turns (cmd.Versions path) given)
    → given ≢ told.Done → ended ≡ ended_as (length now.turns) given → HasEnded before now ended
listing-ended before now path given ended begun is went turns rose records undone ended_is =
    ended-undone before now (cmd.Versions path) given ended (begun-at-work before begun) went turns rose records undone (λ failed. listing-ends before.unit.work path path is) ended_is

-- each doomed snapshot was given for destruction once
pub given-all : (now : Sight) (path : List ℕ) (names rest : List (List ℕ)) (busy : ℕ)
    → HasGiven now path names rest → length rest ≡ 0 → busy ≡ capped (failed_count now.turns)
    → HasGivenAll now busy
given-all now path names rest busy given none failed = record {
  path = path;
  names = names;
  pruning = all-given now path names rest given none;
  busy_are = failed;
}

same-source : (one other : List ℕ) → work.PruneSource one ≡ work.PruneSource other → one ≡ other
same-source one other e = cc

-- the destroys of a prune that has finished are those of the groups of doomed snapshots
pub destroys-in-groups : (now : Sight) (ended : Outcome) → IsPruned now ended → DestroysInGroups now ended
destroys-in-groups now (outcome.Pruned destroyed busy) all = λ path is.
    let pruning = all.pruning in
    let own : all.path ≡ path = same-source all.path path (sym pruning.work_is ∙ is) in
    let At : List ℕ → Type 0 = λ p. IsPruning now p all.names (groups all.names) in
    let here = subst At own pruning in
    here.commands
    ∙ ap (λ (names : List (List ℕ)). cmd.Versions path ∷ map (destroy_of path) (groups names)) (here.names_are ∙ ap (doomed_in now.jobs now.unit.job) (sym here.told))
destroys-in-groups now other pruned = tt
