use Rattle.std.proofs.Common.{◌≡◌, ◌≢◌, ◌||◌, ℕ, ◌+◌, ◌<◌, Bool, true, false, not, List, [], ◌∷◌, ◌++◌, Option, Some, None, find, get_or, refl, ap, sym, subst, arith, ◌∙◌, All, AllPairs}
use Rattle.std.specs.Bool.{if◌then◌else◌}
use Rattle.std.specs.Cmp.Lexicographic.{nat_list_eq_equiv}
use Rattle.std.specs.List.{list_any}
use Rattle.std.specs.Option.{is_some, option_and_then, option_map_or}
use Rattle.std.proofs.lemmas.List.Elements.{All-cons, All-filter, All-nil}
use Rattle.std.proofs.lemmas.List.Kept.{AllPairs-filter}
use Rattle.std.proofs.lemmas.List.Quantifiers.{all_pairs_push}
use Rattle.zr_base.proofs.Lists.{AllPairs-nil, found_from_All}
use Rattle.zr_command.specs.declared.command.Base.{Base}
use Rattle.zr_command.specs.declared.command.Base.TheVariants as base
use Rattle.zr_world.specs.declared.pools.Dataset.{Dataset}
use Rattle.zr_world.specs.declared.pools.Pools.{Pools}
use Rattle.zr_world.specs.declared.pools.Version.{Version}
use Rattle.zr_command.specs.declared.version.VersionName.{VersionName}
use Rattle.zr_command.specs.declared.version.VersionName.TheVariants.{Snap, Mark}
use Rattle.zr_world.specs.Effect.{arriving, new_placeholder, new_set, put_in, set_before, version_before, with_new, with_partial, with_set, with_tags, with_target, with_version, without, without_set, without_tag}
use Rattle.zr_world.specs.Lookup.{dataset_at, has_name, is_at, tags_at, version_at}
use Rattle.zr_command.specs.Names.{is_below, is_tagged, same_name, same_text}
use Rattle.zr_command.specs.Listings.{stands_before}
use Rattle.zr_world.specs.Pools.{MarkIsFree, IsWellFormed, IsWellFormedSet}
use Rattle.zr_world.proofs.Keeping.{first_changed-All, first_changed-pairs, found-none, found-passes, put_in-All, put_in-ordered, put_in-pairs}
use Rattle.zr_world.proofs.Order.{set-chained, set-flipped, version-chained, version-flipped}

-- the tags of one version differ
abbrev pub TagsDiffer : List (List ℕ) → Type 0
TagsDiffer tags = AllPairs (λ a b. a ≢ b) tags

abbrev Before : Version → Version → Type 0
Before a b = stands_before a.txg a.name b.txg b.name ≡ true

abbrev Other : Version → Version → Type 0
Other a b = a.name ≢ b.name

-- a name is that of a version, or is not
pub other-name : (name : VersionName) (version : Version) → has_name name version ≡ false → name ≢ version.name
other-name (Snap one) version other same =
    let at : VersionName → Type 0 = λ n. same_name (Snap one) n ≡ false in
    let itself : same_text one one ≡ false = subst at (sym same) other in
    let equal = nat_list_eq_equiv.refl one in
    cc
other-name (Mark one) version other same =
    let at : VersionName → Type 0 = λ n. same_name (Mark one) n ≡ false in
    let itself : same_text one one ≡ false = subst at (sym same) other in
    let equal = nat_list_eq_equiv.refl one in
    cc

-- a dataset without some of its versions
without-keeps : (next : ℕ) (name : VersionName) (set : Dataset) → IsWellFormedSet next set → IsWellFormedSet next (without name set)
without-keeps next name set formed = record {
  in_order = AllPairs-filter Before (λ v. not (has_name name v)) set.versions formed.in_order;
  names_differ = AllPairs-filter Other (λ v. not (has_name name v)) set.versions formed.names_differ;
  tags_differ = All-filter (λ v. not (has_name name v)) (λ (v : Version). TagsDiffer v.tags) set.versions formed.tags_differ;
  marks_free = All-filter (λ v. not (has_name name v)) MarkIsFree set.versions formed.marks_free;
  made_before = All-filter (λ v. not (has_name name v)) (λ (v : Version). v.txg < next) set.versions formed.made_before;
}

-- a snapshot's tags may change
snap-free : (name : List ℕ) (tags : List (List ℕ)) (version : Version) → has_name (Snap name) version ≡ true → MarkIsFree (record version { tags = tags })
snap-free name tags version has = by-name version.name has where
  by-name : (n : VersionName) → same_name (Snap name) n ≡ true → MarkIsFree (record version { name = n; tags = tags })
  by-name (Snap other) same mark = cc
  by-name (Mark other) same mark = cc

with_tags-keeps : (next : ℕ) (name : List ℕ) (tags : List (List ℕ)) (set : Dataset) → TagsDiffer tags → IsWellFormedSet next set → IsWellFormedSet next (with_tags (Snap name) tags set)
with_tags-keeps next name tags set differ formed =
    let test = has_name (Snap name) in
    let change : Version → Version = λ version. record version { tags = tags } in
    record {
      in_order = first_changed-pairs Before test change (λ x y r. r) (λ x y r. r) set.versions formed.in_order;
      names_differ = first_changed-pairs Other test change (λ x y r. r) (λ x y r. r) set.versions formed.names_differ;
      tags_differ = first_changed-All (λ (v : Version). TagsDiffer v.tags) test change set.versions (λ x found d. differ) formed.tags_differ;
      marks_free = first_changed-All MarkIsFree test change set.versions (λ x found free. snap-free name tags x (found-passes test set.versions x found)) formed.marks_free;
      made_before = first_changed-All (λ (v : Version). v.txg < next) test change set.versions (λ x found made. made) formed.made_before;
    }

-- a version of a name that no other has
with_version-keeps : (next : ℕ) (version : Version) (set : Dataset) → All (λ v. version.name ≢ v.name) set.versions → TagsDiffer version.tags → MarkIsFree version → version.txg < next → IsWellFormedSet next set → IsWellFormedSet next (with_version version set)
with_version-keeps next version set others differ free made formed = record {
  in_order = put_in-ordered version_before version-chained version set.versions (λ k d inside low. version-flipped version (get_or set.versions k d) low (others k d inside)) formed.in_order;
  names_differ = put_in-pairs Other version_before version set.versions others (λ k d inside same. others k d inside (sym same)) formed.names_differ;
  tags_differ = put_in-All (λ (v : Version). TagsDiffer v.tags) version_before version set.versions differ formed.tags_differ;
  marks_free = put_in-All MarkIsFree version_before version set.versions free formed.marks_free;
  made_before = put_in-All (λ (v : Version). v.txg < next) version_before version set.versions made formed.made_before;
}

-- the pools stay well formed where one dataset is changed so that it stays so
pub with_set-keeps : (pools : Pools) (path : List ℕ) (change : Dataset → Dataset) → ((set : Dataset) → (change set).path ≡ set.path) → ((set : Dataset) → dataset_at pools path ≡ Some set → IsWellFormedSet pools.next_txg set → IsWellFormedSet pools.next_txg (change set)) → IsWellFormed pools → IsWellFormed (with_set pools path change)
with_set-keeps pools path change same keeps formed =
    let Rising : Dataset → Dataset → Type 0 = λ a b. is_below a.path b.path ≡ true in
    record {
      rising = first_changed-pairs Rising (is_at path) change
          (λ x y r. subst (λ (p : List ℕ). is_below p y.path ≡ true) (sym (same x)) r)
          (λ x y r. subst (λ (p : List ℕ). is_below x.path p ≡ true) (sym (same y)) r) pools.sets formed.rising;
      each = first_changed-All (IsWellFormedSet pools.next_txg) (is_at path) change pools.sets keeps formed.each;
    }

-- a path at which no dataset stands
absent-path : (path : List ℕ) (set : Dataset) → is_at path set ≡ false → path ≢ set.path
absent-path path set other same =
    let at : List ℕ → Type 0 = λ p. same_text p path ≡ false in
    let itself : same_text path path ≡ false = subst at (sym same) other in
    let equal = nat_list_eq_equiv.refl path in
    cc

-- the pools stay well formed with one dataset more at a path at which none stands
make_set-keeps : (pools : Pools) (set : Dataset) → dataset_at pools set.path ≡ None → IsWellFormedSet pools.next_txg set → IsWellFormed pools → IsWellFormed (with_new pools set)
make_set-keeps pools set none new formed =
    let absent = found-none (is_at set.path) pools.sets none in
    record {
      rising = put_in-ordered set_before set-chained set pools.sets (λ k d inside low. set-flipped set (get_or pools.sets k d) low (absent-path set.path (get_or pools.sets k d) (absent k d inside))) formed.rising;
      each = put_in-All (IsWellFormedSet pools.next_txg) set_before set pools.sets new formed.each;
    }

-- the pools stay well formed where the target of a transfer is changed so that it stays so, and made before where it is absent
pub with_target-keeps : (pools : Pools) (path : List ℕ) (change : Dataset → Dataset) → ((set : Dataset) → (change set).path ≡ set.path) → ((set : Dataset) → dataset_at pools path ≡ Some set → IsWellFormedSet pools.next_txg set → IsWellFormedSet pools.next_txg (change set)) → (dataset_at pools path ≡ None → IsWellFormedSet pools.next_txg (change (new_set path))) → IsWellFormed pools → IsWellFormed (with_target pools path change)
with_target-keeps pools path change same keeps new formed = choose (dataset_at pools path) refl where
  choose : (found : Option Dataset) → dataset_at pools path ≡ found → IsWellFormed (if is_some found then with_set pools path change else with_new pools (change (new_set path)))
  choose (Some set) is = with_set-keeps pools path change same keeps formed
  choose None is =
      make_set-keeps pools (change (new_set path)) (ap (dataset_at pools) (same (new_set path)) ∙ is) (new is) formed

-- what each version of well-formed pools has, the one that is found has
pub version_at-All : (P : Version → Type 0) (pools : Pools) (path : List ℕ) (name : VersionName) (version : Version) → ((set : Dataset) → IsWellFormedSet pools.next_txg set → All P set.versions) → IsWellFormed pools → version_at pools path name ≡ Some version → P version
version_at-All P pools path name version each formed found = by-set (dataset_at pools path) refl found where
  by-set : (set : Option Dataset) → dataset_at pools path ≡ set → option_and_then (λ s. find (has_name name) s.versions) set ≡ Some version → P version
  by-set None is e = cc
  by-set (Some set) is e =
      found_from_All P (has_name name) set.versions version e
      (each set (found_from_All (IsWellFormedSet pools.next_txg) (is_at path) pools.sets set is formed.each))

-- the tags of a snapshot differ
pub tags_at-differ : (pools : Pools) (path : List ℕ) (name : VersionName) → IsWellFormed pools → TagsDiffer (tags_at pools path name)
tags_at-differ pools path name formed = choose (version_at pools path name) refl where
  choose : (found : Option Version) → version_at pools path name ≡ found → TagsDiffer (option_map_or (λ version. version.tags) found [])
  choose None is = AllPairs-nil (λ (a : List ℕ) (b : List ℕ). a ≢ b)
  choose (Some version) is =
      version_at-All (λ v. TagsDiffer v.tags) pools path name version (λ set set_formed. set_formed.tags_differ) formed is

or-right : (a b : Bool) → (a || b) ≡ false → (a ≡ false) × (b ≡ false)
or-right true b e = cc
or-right false b e = (refl, e)

-- a tag that is not among others differs from each of them
tagged-others : (tags : List (List ℕ)) (tag : List ℕ) → is_tagged tags tag ≡ false → All (λ other. other ≢ tag) tags
tagged-others [] tag e = All-nil (λ (other : List ℕ). other ≢ tag)
tagged-others (x ∷ xs) tag e =
    let both = or-right (same_text x tag) (list_any (λ other. same_text other tag) xs) e in
    All-cons (λ (other : List ℕ). other ≢ tag) x xs (λ same.
    let at : List ℕ → Type 0 = λ t. same_text t tag ≡ false in
    let itself = subst at same both.0 in
    let equal = nat_list_eq_equiv.refl tag in
    cc) (tagged-others xs tag both.1)

pub more-differ : (tags : List (List ℕ)) (tag : List ℕ) → is_tagged tags tag ≡ false → TagsDiffer tags → TagsDiffer (tags ++ tag ∷ [])
more-differ tags tag other differ =
    let others = tagged-others tags tag other in
    all_pairs_push (λ (a : List ℕ) (b : List ℕ). a ≢ b) tags tag differ (λ k d inside. others k d inside)

pub fewer-differ : (tag : List ℕ) (tags : List (List ℕ)) → TagsDiffer tags → TagsDiffer (without_tag tag tags)
fewer-differ tag tags differ =
    AllPairs-filter (λ (a : List ℕ) (b : List ℕ). a ≢ b) (λ other. not (same_text other tag)) tags differ

pub tags-keep : (pools : Pools) (path name : List ℕ) (tags : List (List ℕ)) → TagsDiffer tags → IsWellFormed pools → IsWellFormed (with_set pools path (with_tags (Snap name) tags))
tags-keep pools path name tags differ formed =
    with_set-keeps pools path (with_tags (Snap name) tags) (λ set. refl) (λ set found set_formed. with_tags-keeps pools.next_txg name tags set differ set_formed) formed

pub removal-keeps : (pools : Pools) (path : List ℕ) (name : VersionName) → IsWellFormed pools → IsWellFormed (with_set pools path (without name))
removal-keeps pools path name formed =
    with_set-keeps pools path (without name) (λ set. refl) (λ set found set_formed. without-keeps pools.next_txg name set set_formed) formed

-- no version of the dataset has a name at which none is found
others-in : (pools : Pools) (path : List ℕ) (name : VersionName) (set : Dataset) → version_at pools path name ≡ None → dataset_at pools path ≡ Some set → All (λ v. name ≢ v.name) set.versions
others-in pools path name set none is =
    let at : Option Dataset → Type 0 = λ o. option_and_then (λ s. find (has_name name) s.versions) o ≡ None in
    let absent = found-none (has_name name) set.versions (subst at is none) in
    λ k d inside. other-name name (get_or set.versions k d) (absent k d inside)

-- a version of a new name is added
pub added-keeps : (pools : Pools) (path : List ℕ) (version : Version) → version_at pools path version.name ≡ None → TagsDiffer version.tags → MarkIsFree version → version.txg < pools.next_txg → IsWellFormed pools → IsWellFormed (with_set pools path (with_version version))
added-keeps pools path version none differ free made formed =
    with_set-keeps pools path (with_version version) (λ set. refl)
    (λ set found set_formed. with_version-keeps pools.next_txg version set (others-in pools path version.name set none found) differ free made set_formed) formed

new_set-formed : (next : ℕ) (path : List ℕ) → IsWellFormedSet next (new_set path)
new_set-formed next path = record {
  in_order = AllPairs-nil Before;
  names_differ = AllPairs-nil Other;
  tags_differ = All-nil (λ (v : Version). TagsDiffer v.tags);
  marks_free = All-nil MarkIsFree;
  made_before = All-nil (λ (v : Version). v.txg < next);
}

-- a placeholder is made at a path at which no dataset stands
pub placeholder-keeps : (pools : Pools) (path : List ℕ) → dataset_at pools path ≡ None → IsWellFormed pools → IsWellFormed (with_new pools (new_placeholder path))
placeholder-keeps pools path none formed =
    let empty = new_set-formed pools.next_txg path in
    make_set-keeps pools (new_placeholder path) none (record {
      in_order = empty.in_order;
      names_differ = empty.names_differ;
      tags_differ = empty.tags_differ;
      marks_free = empty.marks_free;
      made_before = empty.made_before;
    }) formed

-- a dataset goes away
pub without_set-keeps : (pools : Pools) (path : List ℕ) → IsWellFormed pools → IsWellFormed (without_set pools path)
without_set-keeps pools path formed = record {
  rising = AllPairs-filter (λ (a : Dataset) (b : Dataset). is_below a.path b.path ≡ true) (λ set. not (is_at path set)) pools.sets formed.rising;
  each = All-filter (λ set. not (is_at path set)) (IsWellFormedSet pools.next_txg) pools.sets formed.each;
}

-- a partial receive goes away
pub partial_gone-keeps : (pools : Pools) (path : List ℕ) → IsWellFormed pools → IsWellFormed (with_set pools path (with_partial None))
partial_gone-keeps pools path formed =
    with_set-keeps pools path (with_partial None) (λ set. refl)
    (λ set found set_formed. record {
      in_order = set_formed.in_order;
      names_differ = set_formed.names_differ;
      tags_differ = set_formed.tags_differ;
      marks_free = set_formed.marks_free;
      made_before = set_formed.made_before;
    }) formed

-- what a dataset with these versions has that is well formed
same-versions : (next : ℕ) (one other : Dataset) → other.versions ≡ one.versions → IsWellFormedSet next one → IsWellFormedSet next other
same-versions next one other same formed = record {
  in_order = subst (λ (vs : List Version). AllPairs Before vs) (sym same) formed.in_order;
  names_differ = subst (λ (vs : List Version). AllPairs Other vs) (sym same) formed.names_differ;
  tags_differ = subst (λ (vs : List Version). All (λ v. TagsDiffer v.tags) vs) (sym same) formed.tags_differ;
  marks_free = subst (λ (vs : List Version). All MarkIsFree vs) (sym same) formed.marks_free;
  made_before = subst (λ (vs : List Version). All (λ v. v.txg < next) vs) (sym same) formed.made_before;
}

-- a version of a new name arrives on the target of a transfer of this base
pub arrived-keeps : (pools : Pools) (path : List ℕ) (from : Base) (version : Version) → version_at pools path version.name ≡ None → TagsDiffer version.tags → MarkIsFree version → version.txg < pools.next_txg → IsWellFormed pools → IsWellFormed (with_target pools path (arriving from version))
arrived-keeps pools path from version none differ free made formed =
    let moved : (set : Dataset) → IsWellFormedSet pools.next_txg (with_version version set) → IsWellFormedSet pools.next_txg (arriving from version set) = λ set set_formed.
    same-versions pools.next_txg (with_version version set) (arriving from version set) (arriving-versions from version set) set_formed in
    with_target-keeps pools path (arriving from version) (arriving-path from version)
    (λ set found set_formed. moved set (with_version-keeps pools.next_txg version set (others-in pools path version.name set none found) differ free made set_formed))
    (λ absent. moved (new_set path) (with_version-keeps pools.next_txg version (new_set path) (All-nil (λ (v : Version). version.name ≢ v.name)) differ free made (new_set-formed pools.next_txg path))) formed
  where
    arriving-path : (from : Base) (version : Version) (set : Dataset) → (arriving from version set).path ≡ set.path
    arriving-path base.Full version set = refl
    arriving-path (base.From mark guid) version set = refl
    arriving-path (base.Resume token guid) version set = refl

    arriving-versions : (from : Base) (version : Version) (set : Dataset) → (arriving from version set).versions ≡ (with_version version set).versions
    arriving-versions base.Full version set = refl
    arriving-versions (base.From mark guid) version set = refl
    arriving-versions (base.Resume token guid) version set = refl

pub partial-keeps : (pools : Pools) (path : List ℕ) (change : Dataset → Dataset) → ((set : Dataset) → (change set).path ≡ set.path) → ((set : Dataset) → (change set).versions ≡ set.versions) → IsWellFormed pools → IsWellFormed (with_target pools path change)
partial-keeps pools path change same_path same_versions formed =
    with_target-keeps pools path change same_path
    (λ set found set_formed. same-versions pools.next_txg set (change set) (same_versions set) set_formed)
    (λ absent. same-versions pools.next_txg (new_set path) (change (new_set path)) (same_versions (new_set path)) (new_set-formed pools.next_txg path)) formed

-- the next transaction group may be later, and the next guid another one
pub later-keeps : (pools : Pools) (guid : ℕ) → IsWellFormed pools → IsWellFormed (record pools { next_txg = pools.next_txg + 1; next_guid = guid })
later-keeps pools guid formed = record {
  rising = formed.rising;
  each = λ k d inside.
      let set_formed = formed.each k d inside in
      record {
        in_order = set_formed.in_order;
        names_differ = set_formed.names_differ;
        tags_differ = set_formed.tags_differ;
        marks_free = set_formed.marks_free;
        made_before = λ j e within. let made = set_formed.made_before j e within in omega arith;
      };
}
