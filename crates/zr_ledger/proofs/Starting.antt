-- Where something waits and nothing is out, something is ready.
use Rattle.std.proofs.Common.{◌≡◌, ◌==◌, ◌&&◌, not, ◌<◌, ◌≤◌, ℕ, suc, zero, Bool, true, false, List, [], ◌∷◌, Some, None, All, get_or, length, position, slice_index, refl, sym, ◌∙◌, subst, arith, ltb, nat_eq, ⊎_elim}
use Rattle.std.specs.List.{list_any, position_or_len, starts_with}
use Rattle.std.proofs.lemmas.List.Sums.{fails_before_first}
use Rattle.std.proofs.lemmas.Option.{none-some}
use Rattle.std.proofs.lemmas.Bool.{and_from, and_parts, cases_Bool, cond-true, cases_lt, or_left, true≢false, false_from_ne_true, false≢true, lt-ltb, ltb-true, or_from, or_parts, not_from_false, eqb-true}
use Rattle.std.proofs.lemmas.List.{get_or_past, nil_from_length}
use Rattle.std.proofs.lemmas.List.Folds.{Any-from_list_any, list_any_at}
use Rattle.std.proofs.lemmas.List.Quantifiers.{position-Some}
use Rattle.zr_names.specs.declared.unit.Unit.{Unit}
use Rattle.zr_names.specs.declared.unit.Work.{Work}
use Rattle.zr_names.specs.declared.unit.Work.TheVariants.{Scan, Parents, Snap, Replicate, PruneSource, PruneTarget}
use Rattle.zr_ledger.specs.Kept.{AllowsSome, HasLimit, IsKept}
use Rattle.zr_ledger.specs.Out.{Out}
use Rattle.zr_ledger.specs.Ready.{first_ready, is_free, is_live, is_ready}
use Rattle.zr_ledger.specs.Seats.{has_key, is_ancestor_of, is_replicate, is_replicate_above, is_scan, is_snap_of, lies_below, same_kind, same_seat, seat_at, seat_of}
use Rattle.zr_ledger.specs.declared.limits.Limits.{Limits}
use Rattle.zr_ledger.specs.declared.state.State.{State}

-- where none passes the wider test, none passes the narrower
pub none-within : {X : Type 0} (p q : X → Bool) (xs : List X) → ((x : X) → p x ≡ true → q x ≡ true) → list_any q xs ≡ false → list_any p xs ≡ false
none-within p q xs within none =
    false_from_ne_true (list_any p xs) (λ some.
    let at = Any-from_list_any p xs some in
    false≢true (sym none ∙ list_any_at q xs at.0 at.1 at.2
    (within (get_or xs at.0 at.1) (subst (λ x. p x ≡ true) (sym at.3) at.4))))

-- kinds that need no other to be done first
abbrev is_early : Work → Bool
is_early Scan = true
is_early Parents = true
is_early (Snap path prefix) = true
is_early (Replicate path) = false
is_early (PruneSource path) = false
is_early (PruneTarget path) = false

early-free : (limits : Limits) (waiting : List Unit) (job : ℕ) (work : Work) → is_early work ≡ true → is_free limits waiting [] job work ≡ true
early-free limits waiting job Scan early = refl
early-free limits waiting job Parents early = refl
early-free limits waiting job (Snap path prefix) early = refl
early-free limits waiting job (Replicate path) early = absurd (false≢true early)
early-free limits waiting job (PruneSource path) early = absurd (false≢true early)
early-free limits waiting job (PruneTarget path) early = absurd (false≢true early)

early-scan : (work : Work) → is_scan work ≡ true → is_early work ≡ true
early-scan Scan is = refl
early-scan Parents is = refl
early-scan (Snap path prefix) is = refl
early-scan (Replicate path) is = is
early-scan (PruneSource path) is = is
early-scan (PruneTarget path) is = is

early-snap : (path : List ℕ) (work : Work) → is_snap_of path work ≡ true → is_early work ≡ true
early-snap own Scan is = refl
early-snap own Parents is = refl
early-snap own (Snap path prefix) is = refl
early-snap own (Replicate path) is = is
early-snap own (PruneSource path) is = is
early-snap own (PruneTarget path) is = is

early-parents : (work : Work) → same_kind Parents work ≡ true → is_early work ≡ true
early-parents Scan is = refl
early-parents Parents is = refl
early-parents (Snap path prefix) is = refl
early-parents (Replicate path) is = is
early-parents (PruneSource path) is = is
early-parents (PruneTarget path) is = is

replicates : (path : List ℕ) (work : Work) → same_kind (Replicate path) work ≡ true → is_replicate work ≡ true
replicates own Scan is = is
replicates own Parents is = is
replicates own (Snap path prefix) is = is
replicates own (Replicate path) is = refl
replicates own (PruneSource path) is = is
replicates own (PruneTarget path) is = is

-- how long the path of a replication is
abbrev reach : Work → ℕ
reach Scan = 0
reach Parents = 0
reach (Snap path prefix) = 0
reach (Replicate path) = length path
reach (PruneSource path) = 0
reach (PruneTarget path) = 0

-- a path below another is longer
below-longer : (root path : List ℕ) → lies_below root path ≡ true → length root < length path
below-longer root path below =
    let both = and_parts (starts_with nat_eq path root) (slice_index path (length root) == 47) below in
    let slash = eqb-true (slice_index path (length root)) 47 both.1 in
    ⊎_elim (λ lt. lt) (λ (past : length path ≤ length root). absurd (let zero_there = get_or_past path (length root) 0 past in omega arith)) (cases_lt (length root) (length path))

above-shorter : (path : List ℕ) (work : Work) → is_replicate_above path work ≡ true → (is_replicate work ≡ true) × (reach work < length path)
above-shorter own Scan is = absurd (false≢true is)
above-shorter own Parents is = absurd (false≢true is)
above-shorter own (Snap path prefix) is = absurd (false≢true is)
above-shorter own (Replicate path) is = (refl, below-longer path own is)
above-shorter own (PruneSource path) is = absurd (false≢true is)
above-shorter own (PruneTarget path) is = absurd (false≢true is)

-- a replication that is shorter than a path
abbrev is_shorter : ℕ → Unit → Bool
is_shorter n unit = is_replicate unit.work && ltb (reach unit.work) n

shorter-than : (a b : ℕ) → a ≤ b → (unit : Unit) → is_shorter a unit ≡ true → is_shorter b unit ≡ true
shorter-than a b le unit is =
    let both = and_parts (is_replicate unit.work) (ltb (reach unit.work) a) is in
    let lt = ltb-true (reach unit.work) a both.1 in
    and_from (is_replicate unit.work) (ltb (reach unit.work) b) both.0 (lt-ltb (reach unit.work) b (omega arith))

-- of the replications one is shortest
shortest : (n : ℕ) (units : List Unit) → list_any (is_shorter n) units ≡ true → (unit : Unit) × (k : ℕ) × (k < length units) × (get_or units k unit ≡ unit) × (is_replicate unit.work ≡ true) × (list_any (is_shorter (reach unit.work)) units ≡ false)
shortest zero units some =
    let at = Any-from_list_any (is_shorter zero) units some in
    let both = and_parts (is_replicate at.1.work) (ltb (reach at.1.work) zero) at.4 in
    let lt = ltb-true (reach at.1.work) zero both.1 in
    absurd (omega arith)
shortest (suc n) units some =
    let at = Any-from_list_any (is_shorter (suc n)) units some in
    let both = and_parts (is_replicate at.1.work) (ltb (reach at.1.work) (suc n)) at.4 in
    let lt = ltb-true (reach at.1.work) (suc n) both.1 in
    ⊎_elim
    (λ (more : list_any (is_shorter n) units ≡ true). shortest n units more)
    (λ (none : list_any (is_shorter n) units ≡ false).
    (at.1, at.0, at.2, at.3, both.0, none-within (is_shorter (reach at.1.work)) (is_shorter n) units (shorter-than (reach at.1.work) n (omega arith)) none))
    (cases_Bool (list_any (is_shorter n) units))

key-kind : (job : ℕ) (work : Work) (unit : Unit) → has_key job work unit ≡ true → same_kind work unit.work ≡ true
key-kind job work unit key = (and_parts (same_kind work unit.work) (same_seat (seat_at job work) (seat_of unit)) key).0

ancestor-shorter : (job : ℕ) (path : List ℕ) (unit : Unit) → is_ancestor_of job path unit ≡ true → is_shorter (length path) unit ≡ true
ancestor-shorter job path unit is =
    let above = above-shorter path unit.work (and_parts (unit.job == job) (is_replicate_above path unit.work) is).1 in
    and_from (is_replicate unit.work) (ltb (reach unit.work) (length path)) above.0 (lt-ltb (reach unit.work) (length path) above.1)

-- none of these waits, and nothing is out
not-live : (p : Unit → Bool) (waiting : List Unit) → list_any p waiting ≡ false → not (is_live p waiting []) ≡ true
not-live p waiting none = not_from_false (is_live p waiting []) (or_from (list_any p waiting) false none refl)

-- the shortest replication is free where none of the early kinds waits
shortest-free : (limits : Limits) (waiting : List Unit) (job : ℕ) (work : Work) → AllowsSome limits → job < length limits.steps → is_replicate work ≡ true → list_any (λ (unit : Unit). is_early unit.work) waiting ≡ false → list_any (is_shorter (reach work)) waiting ≡ false → is_free limits waiting [] job work ≡ true
shortest-free limits waiting job Scan allows has is early shorter = refl
shortest-free limits waiting job Parents allows has is early shorter = refl
shortest-free limits waiting job (Snap path prefix) allows has is early shorter = refl
shortest-free limits waiting job (PruneSource path) allows has is early shorter = absurd (false≢true is)
shortest-free limits waiting job (PruneTarget path) allows has is early shorter = absurd (false≢true is)
shortest-free limits waiting job (Replicate path) allows has is early shorter =
    let step = allows.steps job 0 has in
    let all = allows.replicators in
    let within = and_from (ltb 0 (slice_index limits.steps job)) (ltb 0 limits.replicators) (lt-ltb 0 (slice_index limits.steps job) (omega arith)) (lt-ltb 0 limits.replicators (omega arith)) in
    let scans = not-live (λ (unit : Unit). is_scan unit.work) waiting (none-within (λ (unit : Unit). is_scan unit.work) (λ (unit : Unit). is_early unit.work) waiting (λ unit. early-scan unit.work) early) in
    let parents = not-live (has_key job Parents) waiting (none-within (has_key job Parents) (λ (unit : Unit). is_early unit.work) waiting (λ unit key. early-parents unit.work (key-kind job Parents unit key)) early) in
    let snaps = not-live (λ (unit : Unit). is_snap_of path unit.work) waiting (none-within (λ (unit : Unit). is_snap_of path unit.work) (λ (unit : Unit). is_early unit.work) waiting (λ unit. early-snap path unit.work) early) in
    let above = not-live (is_ancestor_of job path) waiting (none-within (is_ancestor_of job path) (is_shorter (length path)) waiting (ancestor-shorter job path) shorter) in
    and_from _ _ (and_from _ _ (and_from _ _ (and_from _ _ within scans) parents) snaps) above

-- a prune is free where no snapshot and no replication waits
prune-free : (limits : Limits) (waiting : List Unit) (job : ℕ) (work : Work) → is_early work ≡ false → is_replicate work ≡ false → list_any (λ (unit : Unit). is_early unit.work) waiting ≡ false → list_any (λ (unit : Unit). is_replicate unit.work) waiting ≡ false → is_free limits waiting [] job work ≡ true
prune-free limits waiting job Scan late other early none = refl
prune-free limits waiting job Parents late other early none = refl
prune-free limits waiting job (Snap path prefix) late other early none = refl
prune-free limits waiting job (Replicate path) late other early none = absurd (true≢false other)
prune-free limits waiting job (PruneSource path) late other early none =
    and_from (not (is_live (has_key job (Replicate path)) waiting [])) (not (is_live (λ (unit : Unit). is_snap_of path unit.work) waiting []))
    (not-live (has_key job (Replicate path)) waiting (none-within (has_key job (Replicate path)) (λ (unit : Unit). is_replicate unit.work) waiting (λ unit key. replicates path unit.work (key-kind job (Replicate path) unit key)) none))
    (not-live (λ (unit : Unit). is_snap_of path unit.work) waiting (none-within (λ (unit : Unit). is_snap_of path unit.work) (λ (unit : Unit). is_early unit.work) waiting (λ unit. early-snap path unit.work) early))
prune-free limits waiting job (PruneTarget path) late other early none =
    not-live (has_key job (Replicate path)) waiting (none-within (has_key job (Replicate path)) (λ (unit : Unit). is_replicate unit.work) waiting (λ unit key. replicates path unit.work (key-kind job (Replicate path) unit key)) none)

early-ready : (limits : Limits) (waiting : List Unit) → list_any (λ (unit : Unit). is_early unit.work) waiting ≡ true → list_any (is_ready limits waiting []) waiting ≡ true
early-ready limits waiting early =
    let at = Any-from_list_any (λ (unit : Unit). is_early unit.work) waiting early in
    list_any_at (is_ready limits waiting []) waiting at.0 at.1 at.2
    (subst (λ (unit : Unit). is_ready limits waiting [] unit ≡ true) (sym at.3) (early-free limits waiting at.1.job at.1.work at.4))

replicate-ready : (limits : Limits) (waiting : List Unit) → AllowsSome limits → All (HasLimit limits) waiting → list_any (λ (unit : Unit). is_early unit.work) waiting ≡ false → list_any (λ (unit : Unit). is_replicate unit.work) waiting ≡ true → list_any (is_ready limits waiting []) waiting ≡ true
replicate-ready limits waiting allows has late is =
    let at = Any-from_list_any (λ (unit : Unit). is_replicate unit.work) waiting is in
    let below = and_from (is_replicate at.1.work) (ltb (reach at.1.work) (suc (reach at.1.work))) at.4 (lt-ltb (reach at.1.work) (suc (reach at.1.work)) (omega arith)) in
    let some = list_any_at (is_shorter (suc (reach at.1.work))) waiting at.0 at.1 at.2 (subst (λ (unit : Unit). is_shorter (suc (reach at.1.work)) unit ≡ true) (sym at.3) below) in
    let one = shortest (suc (reach at.1.work)) waiting some in
    let limit : HasLimit limits one.0 = subst (HasLimit limits) one.3 (has one.1 one.0 one.2) in
    list_any_at (is_ready limits waiting []) waiting one.1 one.0 one.2
    (subst (λ (unit : Unit). is_ready limits waiting [] unit ≡ true) (sym one.3)
    (shortest-free limits waiting one.0.job one.0.work allows limit one.4 late one.5))

prune-ready : (limits : Limits) (waiting units : List Unit) → list_any (λ (unit : Unit). is_early unit.work) waiting ≡ false → list_any (λ (unit : Unit). is_replicate unit.work) waiting ≡ false → units ≡ waiting → 0 < length units → list_any (is_ready limits waiting []) waiting ≡ true
prune-ready limits waiting [] late none same some = absurd (omega arith)
prune-ready limits waiting (unit ∷ units) late none same some =
    let late_all = subst (λ (us : List Unit). list_any (λ (u : Unit). is_early u.work) us ≡ false) (sym same) late in
    let none_all = subst (λ (us : List Unit). list_any (λ (u : Unit). is_replicate u.work) us ≡ false) (sym same) none in
    let early = or_parts (is_early unit.work) (list_any (λ (u : Unit). is_early u.work) units) late_all in
    let other = or_parts (is_replicate unit.work) (list_any (λ (u : Unit). is_replicate u.work) units) none_all in
    subst (λ (us : List Unit). list_any (is_ready limits waiting []) us ≡ true) same
    (or_left (is_ready limits waiting [] unit) (list_any (is_ready limits waiting []) units)
    (prune-free limits waiting unit.job unit.work early.0 other.0 late none))

-- where a unit waits and nothing is out, one is ready
pub some-ready : (limits : Limits) (waiting : List Unit) → AllowsSome limits → All (HasLimit limits) waiting → 0 < length waiting → list_any (is_ready limits waiting []) waiting ≡ true
some-ready limits waiting allows has some =
    ⊎_elim
    (λ (early : list_any (λ (unit : Unit). is_early unit.work) waiting ≡ true). early-ready limits waiting early)
    (λ (late : list_any (λ (unit : Unit). is_early unit.work) waiting ≡ false).
    ⊎_elim
    (λ (is : list_any (λ (unit : Unit). is_replicate unit.work) waiting ≡ true). replicate-ready limits waiting allows has late is)
    (λ (none : list_any (λ (unit : Unit). is_replicate unit.work) waiting ≡ false). prune-ready limits waiting waiting late none refl some)
    (cases_Bool (list_any (λ (unit : Unit). is_replicate unit.work) waiting)))
    (cases_Bool (list_any (λ (unit : Unit). is_early unit.work) waiting))

-- what is found passes somewhere
pub found-some : {X : Type 0} (p : X → Bool) (xs : List X) (k : ℕ) (d : X) → position p xs ≡ Some k → list_any p xs ≡ true
found-some p xs k d found =
    let at = position-Some p xs k d found in list_any_at p xs k d at.0 at.1

-- what is not found passes nowhere
pub not-found : {X : Type 0} (p : X → Bool) (xs : List X) → position p xs ≡ None → list_any p xs ≡ false
not-found p xs none =
    false_from_ne_true (list_any p xs) (λ some.
    let at = Any-from_list_any p xs some in
    ⊎_elim
    (λ (within : position_or_len p xs < length xs).
    none-some (position_or_len p xs) (sym none ∙ cond-true (ltb (position_or_len p xs) (length xs)) (Some (position_or_len p xs)) None (lt-ltb (position_or_len p xs) (length xs) within)))
    (λ (past : length xs ≤ position_or_len p xs).
    let inside = at.2 in
    false≢true (sym (fails_before_first p xs at.0 at.1 (omega arith)) ∙ subst (λ x. p x ≡ true) (sym at.3) at.4))
    (cases_lt (position_or_len p xs) (length xs)))

-- where nothing is ready and nothing is out, nothing waits
pub none-waits : (s : State) → IsKept s → s.outs ≡ [] → first_ready s.limits s.waiting s.outs ≡ None → s.waiting ≡ []
none-waits s keeps none unready =
    ⊎_elim
    (λ (some : 0 < length s.waiting).
    let idle = subst (λ (outs : List Out). first_ready s.limits s.waiting outs ≡ None) none unready in
    absurd (false≢true (sym (not-found (is_ready s.limits s.waiting []) s.waiting idle) ∙ some-ready s.limits s.waiting keeps.allows keeps.waiting some)))
    (λ (few : length s.waiting ≤ 0). nil_from_length s.waiting (omega arith))
    (cases_lt 0 (length s.waiting))
