use Rattle.std.proofs.Common.{◌≡◌, ◌≢◌, ◌||◌, ℕ, ◌+◌, ◌-◌, ◌<◌, Bool, true, false, not, List, [], ◌∷◌, ◌++◌, Option, Some, None, find, map, length, get_or, refl, ap, sym, subst, arith, ◌∙◌, All, inl, inr, reverse}
use Rattle.std.specs.Bool.{if◌then◌else◌}
use Rattle.std.specs.Cmp.Lexicographic.{bytes_decides, nat_list_cmp_total, slice_cmp}
use Rattle.std.specs.Ordering.{nat_cmp, is_lt, ordering_reverse}
use Rattle.std.specs.declared.cmp.Ordering.{Ordering}
use Rattle.std.specs.declared.cmp.Ordering.TheVariants.{Less, Equal, Greater}
use Rattle.std.specs.Option.{is_none, is_some, option_and_then, option_map_or}
use Rattle.std.proofs.lemmas.List.Elements.{All-head, All-tail}
use Rattle.std.proofs.lemmas.List.{get_or-reverse, length-reverse, reverse-reverse}
use Rattle.zr_base.proofs.Lists.{AllPairs-map, AllPairs-nil, found_from_All}
use Rattle.zr_names.specs.Marks.{tag_text}
use Rattle.zr_command.specs.declared.command.Answer.TheVariants.{Done}
use Rattle.zr_command.specs.declared.command.Base.{Base}
use Rattle.zr_command.specs.declared.command.Base.TheVariants as base
use Rattle.zr_command.specs.declared.command.Cmd.{Cmd}
use Rattle.zr_command.specs.declared.command.Cmd.TheVariants as cmd
use Rattle.zr_command.specs.declared.command.Transfer.{Transfer}
use Rattle.zr_world.specs.declared.effects.Refusal.{Refusal}
use Rattle.zr_world.specs.declared.effects.Refusal.TheVariants.{NoSuch, Exists, TagThere, NotNewest, HasPartial, Spent}
use Rattle.zr_world.specs.declared.pools.Dataset.{Dataset}
use Rattle.zr_world.specs.declared.pools.Pools.{Pools}
use Rattle.zr_world.specs.declared.pools.Version.{Version}
use Rattle.zr_command.specs.declared.version.VersionName.{VersionName}
use Rattle.zr_command.specs.declared.version.VersionName.TheVariants.{Snap, Mark}
use Rattle.zr_names.specs.declared.unit.Guid.{Guid}
use Rattle.zr_command.specs.declared.version.VersionRow.{VersionRow}
use Rattle.zr_world.specs.Answering.{IsReplyTo}
use Rattle.zr_world.specs.Effect.{aborted, Aborts, after_since, bookmark_of, bookmarked, chosen, chosen_of, first_receive_at, Leaves, new_set, part_of, partial_of, received, reply_to, snapshotted, taken, transferred, with_new, with_partial, with_set, with_tags, with_target, with_version, without_set, without_tag, without, without_all, arriving, cut}
use Rattle.zr_world.specs.Lookup.{dataset_at, has_guid, has_name, in_first_receive, is_at, is_snapshot, newest, parent_at, tags_at, version_at}
use Rattle.zr_command.specs.Kinds.{names_snap}
use Rattle.zr_command.specs.Names.{is_below, is_tagged, same_name}
use Rattle.zr_command.specs.Listings.{stands_before, IsSetList, IsVersionList}
use Rattle.zr_world.specs.Pools.{IsWellFormed, IsWellFormedSet, MarkIsFree}
use Rattle.zr_world.specs.Reasons.{are_spent, arrival_reasons, first_that_applies, full_reasons, increment_reasons, is_spent, partial_reasons, refusal_since, source_reasons, transfer_reasons}
use Rattle.zr_world.specs.Rows.{row_of_set, row_of_version}
use Rattle.zr_world.proofs.Keeping.{found-none, found-passes}
use Rattle.zr_world.proofs.WellFormed.{added-keeps, arrived-keeps, fewer-differ, later-keeps, more-differ, partial-keeps, partial_gone-keeps, placeholder-keeps, removal-keeps, tags-keep, tags_at-differ, version_at-All, TagsDiffer, without_set-keeps}

-- where no reason applies, neither does the first
pub none-first : (b : Bool) (why : Refusal) (more : List (Bool × Refusal)) → first_that_applies ((b, why) ∷ more) ≡ None → (b ≡ false) × (first_that_applies more ≡ None)
none-first true why more e = cc
none-first false why more e = (refl, e)

nothing-there : {T : Type 0} (o : Option T) → is_some o ≡ false → o ≡ None
nothing-there None e = refl
nothing-there (Some x) e = cc

hold-keeps : (pools : Pools) (path name tag : List ℕ) → is_tagged (tags_at pools path (Snap name)) tag ≡ false → IsWellFormed pools → TagsDiffer (tags_at pools path (Snap name) ++ tag ∷ [])
hold-keeps pools path name tag other formed =
    more-differ (tags_at pools path (Snap name)) tag other (tags_at-differ pools path (Snap name) formed)

bookmark-keeps : (pools : Pools) (path mark : List ℕ) (version : VersionName) → version_at pools path (Mark mark) ≡ None → IsWellFormed pools → IsWellFormed (bookmarked pools path mark (version_at pools path version))
bookmark-keeps pools path mark version none formed = choose (version_at pools path version) refl where
  choose : (found : Option Version) → version_at pools path version ≡ found → IsWellFormed (bookmarked pools path mark found)
  choose None is = formed
  choose (Some v) is =
      added-keeps pools path (bookmark_of mark v) none (AllPairs-nil (λ (a : List ℕ) (b : List ℕ). a ≢ b)) (λ marked. refl)
      (version_at-All (λ w. w.txg < pools.next_txg) pools path version v (λ set set_formed. set_formed.made_before) formed is) formed

-- a version that is found under a name has it
found-name : (name : List ℕ) (version : Version) → has_name (Snap name) version ≡ true → version.name ≡ Snap name
found-name name version has = by-name version.name has where
  by-name : (n : VersionName) → same_name (Snap name) n ≡ true → n ≡ Snap name
  by-name (Snap other) same = ap Snap ((bytes_decides other name).0 same)
  by-name (Mark other) same = cc

version_at-name : (pools : Pools) (path name : List ℕ) (version : Version) → version_at pools path (Snap name) ≡ Some version → version.name ≡ Snap name
version_at-name pools path name version found = by-set (dataset_at pools path) found where
  by-set : (set : Option Dataset) → option_and_then (λ s. find (has_name (Snap name)) s.versions) set ≡ Some version → version.name ≡ Snap name
  by-set None e = cc
  by-set (Some set) e = found-name name version (found-passes (has_name (Snap name)) set.versions version e)

-- the next transaction group is changed before or after the target
bumped : (pools : Pools) (path : List ℕ) (change : Dataset → Dataset) (next : ℕ) → record (with_target pools path change) { next_txg = next } ≡ with_target (record pools { next_txg = next }) path change
bumped pools path change next = choose (is_some (dataset_at pools path)) where
  choose : (b : Bool) → record (if b then with_set pools path change else with_new pools (change (new_set path))) { next_txg = next } ≡ (if b then with_set (record pools { next_txg = next }) path change else with_new (record pools { next_txg = next }) (change (new_set path)))
  choose true = refl
  choose false = refl

-- a snapshot of a new name arrives in a new transaction group
received-keeps : (pools : Pools) (target : List ℕ) (from : Base) (version : Version) → version_at pools target version.name ≡ None → (names_snap version.name ≡ true) → IsWellFormed pools → IsWellFormed (record (with_target pools target (arriving from (received pools.next_txg version))) { next_txg = pools.next_txg + 1 })
received-keeps pools target from version none snapshot formed =
    let next : Pools = record pools { next_txg = pools.next_txg + 1 } in
    let free : MarkIsFree (received pools.next_txg version) = λ marked. refl in
    subst IsWellFormed (sym (bumped pools target (arriving from (received pools.next_txg version)) (pools.next_txg + 1)))
    (arrived-keeps next target from (received pools.next_txg version) none (AllPairs-nil (λ (a : List ℕ) (b : List ℕ). a ≢ b)) free (omega arith) (later-keeps pools pools.next_guid formed))

transfer-keeps : (earlier pools : Pools) (transfer : Transfer) → version_at pools transfer.target (Snap transfer.to) ≡ None → IsWellFormed pools → IsWellFormed (transferred pools transfer (version_at earlier transfer.source (Snap transfer.to)))
transfer-keeps earlier pools transfer none formed = choose (version_at earlier transfer.source (Snap transfer.to)) refl where
  choose : (found : Option Version) → version_at earlier transfer.source (Snap transfer.to) ≡ found → IsWellFormed (transferred pools transfer found)
  choose None is = formed
  choose (Some version) is =
      let name = version_at-name earlier transfer.source transfer.to version is in
      received-keeps pools transfer.target transfer.base version (ap (version_at pools transfer.target) name ∙ none) (ap names_snap name) formed

-- a snapshot of a new name is taken in a new transaction group
snapshot-keeps : (pools : Pools) (path name : List ℕ) → version_at pools path (Snap name) ≡ None → IsWellFormed pools → IsWellFormed (snapshotted pools path name)
snapshot-keeps pools path name none formed =
    let next : Pools = record pools { next_txg = pools.next_txg + 1; next_guid = pools.next_guid + 1 } in
    added-keeps next path (taken pools name) none (AllPairs-nil (λ (a : List ℕ) (b : List ℕ). a ≢ b)) (λ marked. cc) (omega arith) (later-keeps pools (pools.next_guid + 1) formed)

-- the pools after an abort
abort-keeps : (pools after : Pools) (path : List ℕ) → Aborts pools path after → IsWellFormed pools → IsWellFormed after
abort-keeps pools after path aborts formed = elim aborts [
  | inl stays ↦ subst IsWellFormed (sym stays) (partial_gone-keeps pools path formed)
  | inr goes ↦ subst IsWellFormed (sym goes.1) (without_set-keeps pools path formed)
]

all-reversed : {T : Type 0} (P : T → Type 0) (xs : List T) → All P (reverse xs) → All P xs
all-reversed {T} P xs each = λ k d inside.
    let long = length-reverse xs in
    let at = get_or-reverse (reverse xs) k d (omega arith) in
    let back = ap (λ (ys : List T). get_or ys k d) (reverse-reverse xs) in
    subst P (sym at ∙ back) (each (length (reverse xs) - 1 - k) d (omega arith))

pub none-found : {T : Type 0} (test : T → Bool) (xs : List T) → All (λ x. test x ≡ false) xs → find test xs ≡ None
none-found test [] each = refl
none-found {T} test (x ∷ xs) each =
    let first : test x ≡ false = All-head (λ (y : T). test y ≡ false) x xs each in
    rw first (none-found test xs (All-tail (λ (y : T). test y ≡ false) x xs each))

-- a version that is no snapshot has no snapshot's name
no-snapshot : (name : List ℕ) (version : Version) → is_snapshot version ≡ false → has_name (Snap name) version ≡ false
no-snapshot name version none = by-name version.name none where
  by-name : (n : VersionName) → names_snap n ≡ false → same_name (Snap name) n ≡ false
  by-name (Snap other) e = cc
  by-name (Mark other) e = refl

-- a dataset without a newest snapshot has no snapshot of any name
no-newest : (pools : Pools) (path name : List ℕ) (set : Dataset) → dataset_at pools path ≡ Some set → newest set ≡ None → version_at pools path (Snap name) ≡ None
no-newest pools path name set is none =
    let snapshots = all-reversed (λ (v : Version). is_snapshot v ≡ false) set.versions (found-none is_snapshot (reverse set.versions) none) in
    ap (λ (o : Option Dataset). option_and_then (λ s. find (has_name (Snap name)) s.versions) o) is
    ∙ none-found (has_name (Snap name)) set.versions (λ k d inside. no-snapshot name (get_or set.versions k d) (snapshots k d inside))

no-set : (pools : Pools) (path name : List ℕ) → dataset_at pools path ≡ None → version_at pools path (Snap name) ≡ None
no-set pools path name none = ap (λ (o : Option Dataset). option_and_then (λ s. find (has_name (Snap name)) s.versions) o) none

or-left : (a b : Bool) → (a || b) ≡ false → a ≡ false
or-left true b e = cc
or-left false b e = refl

-- the reasons of a sending end come first
reasons-behind : (first more : List (Bool × Refusal)) → first_that_applies (first ++ more) ≡ None → first_that_applies more ≡ None
reasons-behind [] more e = e
reasons-behind ((b, why) ∷ first) more e = reasons-behind first more (none-first b why (first ++ more) e).1

-- where a transfer is not refused, its target has no snapshot of the name that arrives
full-new : (pools : Pools) (transfer : Transfer) → first_that_applies (full_reasons pools transfer (dataset_at pools transfer.target)) ≡ None → version_at pools transfer.target (Snap transfer.to) ≡ None
full-new pools transfer allowed = choose (dataset_at pools transfer.target) refl allowed where
  choose : (found : Option Dataset) → dataset_at pools transfer.target ≡ found → first_that_applies (full_reasons pools transfer found) ≡ None → version_at pools transfer.target (Snap transfer.to) ≡ None
  choose None is e = no-set pools transfer.target transfer.to is
  choose (Some set) is e =
      let one = none-first (is_some set.partial) HasPartial ((is_some (newest set) || not transfer.force, Exists) ∷ (is_spent pools, Spent) ∷ []) e in
      let two = none-first (is_some (newest set) || not transfer.force) Exists ((is_spent pools, Spent) ∷ []) one.1 in
      no-newest pools transfer.target transfer.to set is (nothing-there (newest set) (or-left (is_some (newest set)) (not transfer.force) two.0))

increment-new : (pools : Pools) (transfer : Transfer) (guid : Guid) (found : Option Dataset) → first_that_applies (increment_reasons pools transfer guid found) ≡ None → version_at pools transfer.target (Snap transfer.to) ≡ None
increment-new pools transfer guid None e = cc
increment-new pools transfer guid (Some set) e =
    let newer = not (option_map_or (has_guid guid) (newest set) false) in
    let there = is_some (version_at pools transfer.target (Snap transfer.to)) in
    let one = none-first (is_some set.partial) HasPartial ((newer, NotNewest) ∷ (there, Exists) ∷ (is_spent pools, Spent) ∷ []) e in
    let two = none-first newer NotNewest ((there, Exists) ∷ (is_spent pools, Spent) ∷ []) one.1 in
    let three = none-first there Exists ((is_spent pools, Spent) ∷ []) two.1 in
    nothing-there (version_at pools transfer.target (Snap transfer.to)) three.0

-- where nothing may be found there, nothing is
first-none : {T : Type 0} (found : Option T) (why : Refusal) (more : List (Bool × Refusal)) → first_that_applies ((is_some found, why) ∷ more) ≡ None → found ≡ None
first-none found why more allowed = nothing-there found (none-first (is_some found) why more allowed).0

-- where a resume is not refused, its target has no snapshot of the name that arrives
resume-new : (pools : Pools) (transfer : Transfer) → first_that_applies (arrival_reasons pools transfer) ≡ None → version_at pools transfer.target (Snap transfer.to) ≡ None
resume-new pools transfer e = first-none (version_at pools transfer.target (Snap transfer.to)) Exists ((is_spent pools, Spent) ∷ []) e

arrival-new : (earlier pools : Pools) (transfer : Transfer) (from : Base) → first_that_applies (transfer_reasons earlier pools transfer from) ≡ None → version_at pools transfer.target (Snap transfer.to) ≡ None
arrival-new earlier pools transfer base.Full e =
    full-new pools transfer (reasons-behind (source_reasons earlier transfer base.Full) (full_reasons pools transfer (dataset_at pools transfer.target)) e)
arrival-new earlier pools transfer (base.From mark guid) e =
    increment-new pools transfer guid (dataset_at pools transfer.target)
    (reasons-behind (source_reasons earlier transfer (base.From mark guid)) (increment_reasons pools transfer guid (dataset_at pools transfer.target)) e)
arrival-new earlier pools transfer (base.Resume token from) e =
    let source = source_reasons earlier transfer (base.Resume token from) in
    let behind = reasons-behind (partial_reasons token (dataset_at pools transfer.target)) (source ++ arrival_reasons pools transfer) e in
    resume-new pools transfer (reasons-behind source (arrival_reasons pools transfer) behind)

removals-keep : (pools : Pools) (path : List ℕ) (names : List VersionName) → IsWellFormed pools → IsWellFormed (without_all pools path names)
removals-keep pools path [] formed = formed
removals-keep pools path (name ∷ names) formed =
    removals-keep (with_set pools path (without name)) path names (removal-keeps pools path name formed)

-- what `apply` leaves after an abort is what an abort may leave
aborted-aborts : (pools : Pools) (path : List ℕ) → Aborts pools path (aborted pools path)
aborted-aborts pools path = choose (first_receive_at pools path) refl where
  choose : (b : Bool) → first_receive_at pools path ≡ b → Aborts pools path (if b then without_set pools path else with_set pools path (with_partial None))
  choose true is = inr (is, refl)
  choose false is = inl refl

-- what the table leaves is what a command may leave
pub table-leaves : (earlier pools : Pools) (command : Cmd) → Leaves earlier pools command (after_since earlier pools command)
table-leaves earlier pools cmd.Sets = refl
table-leaves earlier pools (cmd.Versions path) = refl
table-leaves earlier pools (cmd.Holds path name) = refl
table-leaves earlier pools (cmd.Token token) = refl
table-leaves earlier pools (cmd.Snapshot path name) = refl
table-leaves earlier pools (cmd.Hold kind job path name) = refl
table-leaves earlier pools (cmd.Release kind job path name) = refl
table-leaves earlier pools (cmd.Bookmark path version mark) = refl
table-leaves earlier pools (cmd.DestroySnaps path names) = refl
table-leaves earlier pools (cmd.DestroyMark path mark) = refl
table-leaves earlier pools (cmd.Create path) = refl
table-leaves earlier pools (cmd.Transfer transfer) = refl
table-leaves earlier pools (cmd.Abort path) = aborted-aborts pools path

hold-whole : (pools : Pools) (path name tag : List ℕ) → first_that_applies ((is_none (version_at pools path (Snap name)), NoSuch) ∷ (is_tagged (tags_at pools path (Snap name)) tag, TagThere) ∷ []) ≡ None → IsWellFormed pools → IsWellFormed (with_set pools path (with_tags (Snap name) (tags_at pools path (Snap name) ++ tag ∷ [])))
hold-whole pools path name tag allowed formed =
    let held = is_tagged (tags_at pools path (Snap name)) tag in
    let one = none-first (is_none (version_at pools path (Snap name))) NoSuch ((held, TagThere) ∷ []) allowed in
    let two = none-first held TagThere [] one.1 in
    tags-keep pools path name (tags_at pools path (Snap name) ++ tag ∷ []) (hold-keeps pools path name tag two.0 formed) formed

-- where nothing of this kind is found there, the second reason does not apply
second-none : {T : Type 0} (first : Bool) (found : Option T) (why other : Refusal) (more : List (Bool × Refusal)) → first_that_applies ((first, why) ∷ (is_some found, other) ∷ more) ≡ None → found ≡ None
second-none first found why other more allowed =
    let one = none-first first why ((is_some found, other) ∷ more) allowed in
    let two = none-first (is_some found) other more one.1 in
    nothing-there found two.0

-- a command that is not refused leaves well-formed pools well formed
pub after-keeps : (earlier pools after : Pools) (command : Cmd) → refusal_since earlier pools command ≡ None → Leaves earlier pools command after → IsWellFormed pools → IsWellFormed after
after-keeps earlier pools after cmd.Sets allowed leaves formed = subst IsWellFormed (sym leaves) formed
after-keeps earlier pools after (cmd.Versions path) allowed leaves formed = subst IsWellFormed (sym leaves) formed
after-keeps earlier pools after (cmd.Holds path name) allowed leaves formed = subst IsWellFormed (sym leaves) formed
after-keeps earlier pools after (cmd.Token token) allowed leaves formed = subst IsWellFormed (sym leaves) formed
after-keeps earlier pools after (cmd.Snapshot path name) allowed leaves formed =
    let none = second-none (is_none (dataset_at pools path)) (version_at pools path (Snap name)) NoSuch Exists ((are_spent pools, Spent) ∷ []) allowed in
    subst IsWellFormed (sym leaves) (snapshot-keeps pools path name none formed)
after-keeps earlier pools after (cmd.Hold kind job path name) allowed leaves formed =
    subst IsWellFormed (sym leaves) (hold-whole pools path name (tag_text kind job) allowed formed)
after-keeps earlier pools after (cmd.Release kind job path name) allowed leaves formed =
    let tag = tag_text kind job in
    subst IsWellFormed (sym leaves) (tags-keep pools path name (without_tag tag (tags_at pools path (Snap name))) (fewer-differ tag (tags_at pools path (Snap name)) (tags_at-differ pools path (Snap name) formed)) formed)
after-keeps earlier pools after (cmd.Bookmark path version mark) allowed leaves formed =
    let none = second-none (is_none (version_at pools path version)) (version_at pools path (Mark mark)) NoSuch Exists [] allowed in
    subst IsWellFormed (sym leaves) (bookmark-keeps pools path mark version none formed)
after-keeps earlier pools after (cmd.DestroySnaps path names) allowed leaves formed =
    subst IsWellFormed (sym leaves) (removals-keep pools path (map Snap names) formed)
after-keeps earlier pools after (cmd.DestroyMark path mark) allowed leaves formed =
    subst IsWellFormed (sym leaves) (removal-keeps pools path (Mark mark) formed)
after-keeps earlier pools after (cmd.Create path) allowed leaves formed =
    let none = first-none (dataset_at pools path) Exists ((is_none (parent_at pools path), NoSuch) ∷ (option_map_or in_first_receive (parent_at pools path) false, HasPartial) ∷ []) allowed in
    subst IsWellFormed (sym leaves) (placeholder-keeps pools path none formed)
after-keeps earlier pools after (cmd.Transfer transfer) allowed leaves formed =
    subst IsWellFormed (sym leaves) (transfer-keeps earlier pools transfer (arrival-new earlier pools transfer transfer.base allowed) formed)
after-keeps earlier pools after (cmd.Abort path) allowed leaves formed = abort-keeps pools after path leaves formed

cut-keeps : (pools : Pools) (transfer : Transfer) (from : Base) → IsWellFormed pools → IsWellFormed (cut pools transfer from)
cut-keeps pools transfer base.Full formed =
    partial-keeps pools transfer.target (with_partial (Some (partial_of transfer))) (λ set. refl) (λ set. refl) formed
cut-keeps pools transfer (base.From mark guid) formed =
    partial-keeps pools transfer.target (with_partial (Some (partial_of transfer))) (λ set. refl) (λ set. refl) formed
cut-keeps pools transfer (base.Resume token from) formed = formed

-- so does a chosen extent of it
pub chosen-keeps : (pools : Pools) (command : Cmd) (bits : ℕ) → IsWellFormed pools → IsWellFormed (chosen_of pools command bits)
chosen-keeps pools cmd.Sets bits formed = formed
chosen-keeps pools (cmd.Versions path) bits formed = formed
chosen-keeps pools (cmd.Holds path name) bits formed = formed
chosen-keeps pools (cmd.Token token) bits formed = formed
chosen-keeps pools (cmd.Snapshot path name) bits formed = formed
chosen-keeps pools (cmd.Hold kind job path name) bits formed = formed
chosen-keeps pools (cmd.Release kind job path name) bits formed = formed
chosen-keeps pools (cmd.Bookmark path version mark) bits formed = formed
chosen-keeps pools (cmd.DestroySnaps path names) bits formed = removals-keep pools path (map Snap (chosen bits names)) formed
chosen-keeps pools (cmd.DestroyMark path mark) bits formed = formed
chosen-keeps pools (cmd.Create path) bits formed = formed
chosen-keeps pools (cmd.Transfer transfer) bits formed = formed
chosen-keeps pools (cmd.Abort path) bits formed = formed

-- so does a part of it
pub part-keeps : (pools : Pools) (command : Cmd) → IsWellFormed pools → IsWellFormed (part_of pools command)
part-keeps pools cmd.Sets formed = formed
part-keeps pools (cmd.Versions path) formed = formed
part-keeps pools (cmd.Holds path name) formed = formed
part-keeps pools (cmd.Token token) formed = formed
part-keeps pools (cmd.Snapshot path name) formed = formed
part-keeps pools (cmd.Hold kind job path name) formed = formed
part-keeps pools (cmd.Release kind job path name) formed = formed
part-keeps pools (cmd.Bookmark path version mark) formed = formed
part-keeps pools (cmd.DestroySnaps path names) formed = formed
part-keeps pools (cmd.DestroyMark path mark) formed = formed
part-keeps pools (cmd.Create path) formed = formed
part-keeps pools (cmd.Transfer transfer) formed = cut-keeps pools transfer transfer.base formed
part-keeps pools (cmd.Abort path) formed = formed

not-below-itself : (o : Ordering) → o ≡ ordering_reverse o → is_lt o ≡ true → ⊥
not-below-itself Less e lt = cc
not-below-itself Equal e lt = cc
not-below-itself Greater e lt = cc

-- names in rising order differ
pub below-differs : (a b : List ℕ) → is_below a b ≡ true → a ≢ b
below-differs a b below same =
    let at : List ℕ → Type 0 = λ c. is_below a c ≡ true in
    not-below-itself (slice_cmp nat_cmp a a) (nat_list_cmp_total.antisymm a a) (subst at (sym same) below)

-- the rows of well-formed pools are a listing of datasets
sets-list : (pools : Pools) → IsWellFormed pools → IsSetList (map row_of_set pools.sets)
sets-list pools formed =
    AllPairs-map row_of_set (λ a b. a.path ≢ b.path) pools.sets (λ i j d below inside. below-differs _ _ (formed.rising i j d below inside))

versions-list : (next : ℕ) (set : Dataset) → IsWellFormedSet next set → IsVersionList (map row_of_version set.versions)
versions-list next set formed = record {
  in_order = AllPairs-map row_of_version (λ a b. stands_before a.txg a.name b.txg b.name ≡ true) set.versions formed.in_order;
  names_differ = AllPairs-map row_of_version (λ a b. a.name ≢ b.name) set.versions formed.names_differ;
}

-- the rows of a well-formed dataset are a listing of its versions
versions-list-at : (pools : Pools) (path : List ℕ) (found : Option Dataset) → dataset_at pools path ≡ found → IsWellFormed pools → IsVersionList (map row_of_version (option_map_or (λ set. set.versions) found []))
versions-list-at pools path None is formed = record {
  in_order = AllPairs-nil (λ (a : VersionRow) (b : VersionRow). stands_before a.txg a.name b.txg b.name ≡ true);
  names_differ = AllPairs-nil (λ (a : VersionRow) (b : VersionRow). a.name ≢ b.name);
}
versions-list-at pools path (Some set) is formed =
    versions-list pools.next_txg set (found_from_All (IsWellFormedSet pools.next_txg) (is_at path) pools.sets set is formed.each)

-- the reply to a command fits it
pub reply-fits : (pools : Pools) (command : Cmd) → IsWellFormed pools → IsReplyTo command (Done (reply_to pools command))
reply-fits pools cmd.Sets formed = sets-list pools formed
reply-fits pools (cmd.Versions path) formed = versions-list-at pools path (dataset_at pools path) refl formed
reply-fits pools (cmd.Holds path name) formed = tags_at-differ pools path (Snap name) formed
reply-fits pools (cmd.Token token) formed = tt
reply-fits pools (cmd.Snapshot path name) formed = tt
reply-fits pools (cmd.Hold kind job path name) formed = tt
reply-fits pools (cmd.Release kind job path name) formed = tt
reply-fits pools (cmd.Bookmark path version mark) formed = tt
reply-fits pools (cmd.DestroySnaps path names) formed = tt
reply-fits pools (cmd.DestroyMark path mark) formed = tt
reply-fits pools (cmd.Create path) formed = tt
reply-fits pools (cmd.Transfer transfer) formed = tt
reply-fits pools (cmd.Abort path) formed = tt
