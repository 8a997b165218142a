use Rattle.std.proofs.Common.{◌≡◌, ◌≢◌, ◌∙◌, ◌<◌, ◌+◌, ◌&&◌, ◌||◌, ℕ, Bool, true, false, true≢false, not, List, [], ◌∷◌, ◌++◌, Option, Some, None, find, get_or, is_some, length, take, refl, ap, sym, subst, ◌==◌, arith, inl, inr, slice_get, zero, suc, Contains}
use Rattle.std.specs.Bool.{if◌then◌else◌}
use Rattle.std.specs.List.{list_all, list_any}
use Rattle.std.specs.Option.{option_map_or}
use Rattle.std.specs.Prelude.{option_map}
use Rattle.std.specs.Cmp.Lexicographic.{bytes_decides}
use Rattle.std.proofs.lemmas.List.Elements.{All-push, Contains-append_left, Contains-append_right, Contains-push}
use Rattle.std.proofs.lemmas.Option.{slice_get_cases}
use Rattle.std.proofs.lemmas.List.Folds.{list_all_more, list_any-append}
use Rattle.zr_names.specs.Marks.{tag_text}
use Rattle.zr_names.specs.declared.marks.TagKind.TheVariants.{Last, Step}
use Rattle.zr_command.specs.Names.{is_tagged, same_name, same_text}
use Rattle.zr_command.specs.declared.command.Answer.TheVariants.{Done}
use Rattle.zr_command.specs.declared.command.Cmd.{Cmd}
use Rattle.zr_command.specs.declared.command.Cmd.TheVariants as cmd
use Rattle.zr_command.specs.declared.command.Reply.{Reply}
use Rattle.zr_command.specs.declared.command.Reply.TheVariants as reply
use Rattle.zr_command.specs.declared.version.SetRow.{SetRow}
use Rattle.zr_command.specs.declared.version.VersionName.{VersionName}
use Rattle.zr_command.specs.declared.version.VersionName.TheVariants.{Snap, Mark}
use Rattle.zr_command.specs.declared.version.VersionRow.{VersionRow}
use Rattle.zr_world.specs.Answering.{IsReplyTo}
use Rattle.zr_known.specs.declared.known.Known.{Known}
use Rattle.zr_jobs.specs.declared.pair.Pair.{Pair}
use Rattle.zr_known.specs.declared.known.Presence.TheVariants.{Absent, Unlisted}
use Rattle.zr_known.specs.Known.{is_among, is_row_of, arrived_by_sets, nothing_known, nothing_listed, presence_by, rows_of, set_among, side_by_sets, told_by, told_holds, with_holds, without_name}
use Rattle.zr_known.specs.Replication.{ShowsSet}
use Rattle.zr_known.specs.Straight.{has_known_holds, version_holds_known}
use Rattle.zr_known.proofs.Knowing.{target-listed}
use Rattle.zr_replicate.specs.declared.listing.Role.{Role}
use Rattle.zr_replicate.specs.declared.listing.Role.TheVariants.{Source, Target}
use Rattle.zr_known.specs.Straight.{has_listed_holds, is_listing}
use Rattle.zr_permit.specs.Transcript.{Turn}
use Rattle.zr_replicate.specs.Listing.{asked_at, HasAskedAll, HasAskedAt, held_name, held_name_of, listing_at, HasListedAll, HasListedSets, HasListedSource, HasListedTarget, HasOnlyListed, KnowsMoreHolds, OnlyHolds, OnlyLists, path_at, ShowsAt}
use Rattle.zr_replicate.specs.Progress.{HasTold, Progress}
use Rattle.zr_replicate.proofs.Lists.{all-weaker, any-filter, any-of, find-some}
use Rattle.zr_replicate.proofs.Marking.{among-set, differ, equal}

none-where-absent : (row : Option SetRow) → presence_by row ≡ Absent → option_map (λ arrived. rows_of (side_by_sets row nothing_listed).listing ++ arrived) (arrived_by_sets Unlisted row None) ≡ Some []
none-where-absent None absent = refl
none-where-absent (Some row) absent = cc

-- the datasets were listed first
pub listed-sets : (pair : Pair) (knew known : Known) (given : Reply) → knew ≡ nothing_known → IsReplyTo cmd.Sets (Done given) → known ≡ told_by pair cmd.Sets (Done given) knew → HasListedSets pair known
listed-sets pair knew known given fresh shape is =
    by given shape (is ∙ ap (told_by pair cmd.Sets (Done given)) fresh)
  where
    by : (given : Reply) → IsReplyTo cmd.Sets (Done given) → known ≡ told_by pair cmd.Sets (Done given) nothing_known → HasListedSets pair known
    by (reply.Sets rows) shape is =
        subst (HasListedSets pair) (sym is) (record {
          sets = rows;
          are_listed = refl;
          presence = refl;
          none_absent = none-where-absent (find (λ row. same_text row.path pair.target) rows);
        })
    by (reply.Versions rows) shape is = elim shape [ ]
    by (reply.Holds tags) shape is = elim shape [ ]
    by (reply.Token info) shape is = elim shape [ ]
    by reply.Nothing shape is = elim shape [ ]

not-absent : (row : SetRow) (presence : Option SetRow) → presence ≡ Some row → presence_by presence ≡ Absent → ⊥
not-absent row None is e = cc
not-absent row (Some other) is e = cc

-- a target that is listed is not absent
shown-there : (pair : Pair) (known : Known) (sets : HasListedSets pair known) → ShowsSet known pair.target → known.presence ≡ Absent → ⊥
shown-there pair known sets shows absent =
    let any : list_any (λ (row : SetRow). same_text row.path pair.target) sets.sets ≡ true =
    sym (ap (λ (o : Option (List SetRow)). option_map_or (λ rows. list_any (λ (row : SetRow). same_text row.path pair.target) rows) o false) sets.are_listed) ∙ shows in
    let found = find-some (λ (row : SetRow). same_text row.path pair.target) sets.sets any in
    not-absent found.0 (find (λ row. same_text row.path pair.target) sets.sets) found.1 (sym sets.presence ∙ absent)

-- what a command tells, where it is this one
pub record Tells (pair : Pair) (command : Cmd) (knew known : Known) : Type 0 where
  pub given : Reply
  pub shape : IsReplyTo command (Done given)
  pub known_is : known ≡ told_by pair command (Done given) knew

pub tells-as : (pair : Pair) (command other : Cmd) (knew known : Known) (given : Reply) → command ≡ other → IsReplyTo command (Done given) → known ≡ told_by pair command (Done given) knew → Tells pair other knew known
tells-as pair command other knew known given same shape is =
    subst (λ (c : Cmd). Tells pair c knew known) same (record { given = given; shape = shape; known_is = is })

-- then the target, where it is there
pub listed-target : (pair : Pair) (knew known : Known) → HasListedSets pair knew → ShowsSet knew pair.target → pair.target ≢ pair.source → Tells pair (cmd.Versions pair.target) knew known → HasListedSets pair known
listed-target pair knew known sets shows apart told = by told.given told.shape told.known_is where
  by : (given : Reply) → IsReplyTo (cmd.Versions pair.target) (Done given) → known ≡ told_by pair (cmd.Versions pair.target) (Done given) knew → HasListedSets pair known
  by (reply.Versions rows) shape is =
      subst (HasListedSets pair) (sym (is ∙ target-listed pair rows knew apart)) (record {
        sets = sets.sets;
        are_listed = sets.are_listed;
        presence = sets.presence;
        none_absent = λ absent. absurd (shown-there pair knew sets shows absent);
      })
  by (reply.Sets rows) shape is = elim shape [ ]
  by (reply.Holds tags) shape is = elim shape [ ]
  by (reply.Token info) shape is = elim shape [ ]
  by reply.Nothing shape is = elim shape [ ]

-- a target that was listed was listed
pub target-told : (pair : Pair) (knew known : Known) → pair.target ≢ pair.source → Tells pair (cmd.Versions pair.target) knew known → HasListedTarget pair known
target-told pair knew known apart told = by told.given told.shape told.known_is where
  by : (given : Reply) → IsReplyTo (cmd.Versions pair.target) (Done given) → known ≡ told_by pair (cmd.Versions pair.target) (Done given) knew → HasListedTarget pair known
  by (reply.Versions rows) shape is =
      subst (HasListedTarget pair) (sym (is ∙ target-listed pair rows knew apart)) (λ shows. refl)
  by (reply.Sets rows) shape is = elim shape [ ]
  by (reply.Holds tags) shape is = elim shape [ ]
  by (reply.Token info) shape is = elim shape [ ]
  by reply.Nothing shape is = elim shape [ ]

-- names that were asked for stay so
among-more : (name other : List ℕ) (names : List (List ℕ)) → is_among names other ≡ true → is_among (set_among true name names) other ≡ true
among-more name other names among = by (same_text other name) refl where
  parts : is_among (set_among true name names) other ≡ (list_any (λ x. same_text x other) (without_name name names) || (same_text name other || false))
  parts = list_any-append (λ x. same_text x other) (without_name name names) (name ∷ [])

  by : (b : Bool) → same_text other name ≡ b → is_among (set_among true name names) other ≡ true
  by true e =
      let same : other ≡ name = (bytes_decides other name).0 e in
      subst (λ (n : List ℕ). is_among (set_among true name names) n ≡ true) (sym same) (among-set name names)
  by false e =
      parts
      ∙ ap (λ (b : Bool). b || (same_text name other || false)) (any-filter (λ x. same_text x other) (λ x. not (same_text x name)) keeps names among)
    where
      keeps : (x : List ℕ) → same_text x other ≡ true → not (same_text x name) ≡ true
      keeps x is =
          let same : x ≡ other = (bytes_decides x other).0 is in
          ap not (ap (λ (t : List ℕ). same_text t name) same ∙ e)

-- a listing of holds tells of its side alone
holds-told : (side : Role) (pair : Pair) (name : List ℕ) (tags : List (List ℕ)) (knew known : Known) → pair.target ≢ pair.source → known ≡ told_holds pair (path_at side pair) name tags knew → OnlyHolds side knew known × (asked_at side known ≡ set_among true name (asked_at side knew))
holds-told Source pair name tags knew known apart is =
    let told : known ≡ record knew { source = with_holds (is_tagged tags (tag_text Step pair.job)) name knew.source } = is ∙ rw (equal pair.source) refl in (
      told ∙ ap (λ (k : Known). record knew { source = record knew.source { asked = k.source.asked; held = k.source.held } }) (sym told),
      ap (λ (k : Known). k.source.asked) told,
    )
holds-told Target pair name tags knew known apart is =
    let told : known ≡ record knew { target = with_holds (is_tagged tags (tag_text Last pair.job)) name knew.target } = is ∙ rw (differ pair.target pair.source apart, equal pair.target) refl in (
      told ∙ ap (λ (k : Known). record knew { target = record knew.target { asked = k.target.asked; held = k.target.held } }) (sym told),
      ap (λ (k : Known). k.target.asked) told,
    )

-- once the holds of a snapshot were listed they are known, and those known before too
pub record HasAsked (side : Role) (name : List ℕ) (knew known : Known) : Type 0 where
  pub more : KnowsMoreHolds side knew known
  pub asked : is_among (asked_at side known) name ≡ true

pub has-asked : (side : Role) (pair : Pair) (name : List ℕ) (knew known : Known) → pair.target ≢ pair.source → Tells pair (cmd.Holds (path_at side pair) name) knew known → HasAsked side name knew known
has-asked side pair name knew known apart told = by told.given told.shape told.known_is where
  by : (given : Reply) → IsReplyTo (cmd.Holds (path_at side pair) name) (Done given) → known ≡ told_by pair (cmd.Holds (path_at side pair) name) (Done given) knew → HasAsked side name knew known
  by (reply.Holds tags) shape is =
      let both = holds-told side pair name tags knew known apart is in
      record {
        more = record {
          only = both.0;
          more = λ other among. ap (λ (names : List (List ℕ)). is_among names other) both.1 ∙ among-more name other (asked_at side knew) among;
        };
        asked = ap (λ (names : List (List ℕ)). is_among names name) both.1 ∙ among-set name (asked_at side knew);
      }
  by (reply.Sets rows) shape is = elim shape [ ]
  by (reply.Versions rows) shape is = elim shape [ ]
  by (reply.Token info) shape is = elim shape [ ]
  by reply.Nothing shape is = elim shape [ ]

same-listing : (side : Role) (before now : Known) → OnlyHolds side before now → listing_at side now ≡ listing_at side before
same-listing Source before now only = ap (λ (k : Known). k.source.listing) only
same-listing Target before now only = ap (λ (k : Known). k.target.listing) only

same-rows : (side : Role) (before now : Known) → KnowsMoreHolds side before now → (place : ℕ) → slice_get (rows_of (listing_at side now)) place ≡ slice_get (rows_of (listing_at side before)) place
same-rows side before now more place = ap (λ (listing : Option (List VersionRow)). slice_get (rows_of listing) place) (same-listing side before now more.only)

found-at : (rows : List VersionRow) (place : ℕ) (row : VersionRow) → slice_get rows place ≡ Some row → Contains rows row
found-at [] place row e = cc
found-at (first ∷ rows) zero row e =
    let same : first ≡ row = (let it : Some first ≡ Some row = e in cc) in
    subst (Contains (first ∷ rows)) same (Contains-append_left (first ∷ []) rows first (Contains-push [] first))
found-at (first ∷ rows) (suc place) row e = Contains-append_right (first ∷ []) rows row (found-at rows place row e)

held-is : (refs : ℕ) (version : VersionName) (name : List ℕ) → held_name_of refs version ≡ Some name → version ≡ Snap name
held-is refs (Mark other) name e = cc
held-is refs (Snap other) name e = by (refs == 0) e where
  by : (b : Bool) → (if b then None else Some other) ≡ Some name → Snap other ≡ Snap name
  by true e = cc
  by false e = ap Snap (let it : Some other ≡ Some name = e in cc)

-- a snapshot that is listed with holds is shown by its listing
pub shows-held : (side : Role) (known : Known) (place : ℕ) (name : List ℕ) → held_name (slice_get (rows_of (listing_at side known)) place) ≡ Some name → ShowsAt side known name
shows-held side known place name e = by (listing_at side known) e where
  shown : (rows : List VersionRow) (found : Option VersionRow) → slice_get rows place ≡ found → held_name found ≡ Some name → list_any (is_row_of (Snap name)) rows ≡ true
  shown rows None is e = cc
  shown rows (Some row) is e =
      any-of (is_row_of (Snap name)) rows row (found-at rows place row is) (subst (λ (v : VersionName). same_name (Snap name) v ≡ true) (sym (held-is row.refs row.name name e)) (equal name))

  by : (listing : Option (List VersionRow)) → held_name (slice_get (rows_of listing) place) ≡ Some name → option_map_or (λ rows. list_any (is_row_of (Snap name)) rows) listing false ≡ true
  by None e = cc
  by (Some rows) e = shown rows (slice_get rows place) refl e

-- its holds are known once they were asked for; those of another version are known anyway
pub asked-held : (side : Role) (place : ℕ) (before now : Known) (name : List ℕ) → held_name (slice_get (rows_of (listing_at side before)) place) ≡ Some name → KnowsMoreHolds side before now → is_among (asked_at side now) name ≡ true → HasAskedAt side place now
asked-held side place before now name held more asked row is =
    by row.name (sym (ap held_name (sym (same-rows side before now more place) ∙ is)) ∙ held)
  where
    or-true : (b c : Bool) → c ≡ true → (b || c) ≡ true
    or-true true c e = refl
    or-true false c e = e

    by : (version : VersionName) → held_name_of row.refs version ≡ Some name → version_holds_known (asked_at side now) row.refs version ≡ true
    by (Mark other) e = refl
    by (Snap other) e =
        or-true (row.refs == 0) (is_among (asked_at side now) other) (subst (λ (v : VersionName). is_among (asked_at side now) (text v) ≡ true) (sym (held-is row.refs (Snap other) name e)) asked)
      where
        text : VersionName → List ℕ
        text (Snap n) = n
        text (Mark n) = n

pub asked-none : (side : Role) (place : ℕ) (known : Known) → held_name (slice_get (rows_of (listing_at side known)) place) ≡ None → HasAskedAt side place known
asked-none side place known none row is = by row.name (sym (ap held_name is) ∙ none) where
  zero-holds : (b : Bool) (name : List ℕ) (asked : Bool) → (if b then None else Some name) ≡ None → (b || asked) ≡ true
  zero-holds true name asked e = refl
  zero-holds false name asked e = cc

  by : (version : VersionName) → held_name_of row.refs version ≡ None → version_holds_known (asked_at side known) row.refs version ≡ true
  by (Mark other) e = refl
  by (Snap other) e = zero-holds (row.refs == 0) other (is_among (asked_at side known) other) e

-- holds of more snapshots are known, step by step
only-both : (side : Role) (first before now : Known) → OnlyHolds side first before → OnlyHolds side before now → OnlyHolds side first now
only-both Source first before now one other =
    other ∙ ap (λ (k : Known). record k { source = record k.source { asked = now.source.asked; held = now.source.held } }) one
only-both Target first before now one other =
    other ∙ ap (λ (k : Known). record k { target = record k.target { asked = now.target.asked; held = now.target.held } }) one

pub more-both : (side : Role) (first before now : Known) → KnowsMoreHolds side first before → KnowsMoreHolds side before now → KnowsMoreHolds side first now
more-both side first before now one other = record {
  only = only-both side first before now one.only other.only;
  more = λ name among. other.more name (one.more name among);
}

known-more : (side : Role) (before now : Known) (row : VersionRow) → KnowsMoreHolds side before now → has_known_holds (asked_at side before) row ≡ true → has_known_holds (asked_at side now) row ≡ true
known-more side before now row more e = by row.name e where
  one : (zero : Bool) (b c : Bool) → (b ≡ true → c ≡ true) → (zero || b) ≡ true → (zero || c) ≡ true
  one true b c more e = refl
  one false b c more e = more e

  by : (name : VersionName) → version_holds_known (asked_at side before) row.refs name ≡ true → version_holds_known (asked_at side now) row.refs name ≡ true
  by (Snap name) e = one _ (is_among (asked_at side before) name) (is_among (asked_at side now) name) (more.more name) e
  by (Mark name) e = refl

-- one more row's holds are known
asked-more : (side : Role) (before now : Known) (rows : List VersionRow) (place : ℕ) (row : VersionRow) → place < length rows → KnowsMoreHolds side before now → list_all (has_known_holds (asked_at side before)) (take place rows) ≡ true → row ≡ get_or rows place row → has_known_holds (asked_at side now) row ≡ true → list_all (has_known_holds (asked_at side now)) (take (place + 1) rows) ≡ true
asked-more side before now rows place row inside more all is known =
    list_all_more (has_known_holds (asked_at side now)) rows place row inside
    ∙ ap (λ (b : Bool). b && has_known_holds (asked_at side now) (get_or rows place row)) (all-weaker (has_known_holds (asked_at side before)) (has_known_holds (asked_at side now)) (λ x e. known-more side before now x more e) (take place rows) all)
    ∙ ap (has_known_holds (asked_at side now)) (sym is) ∙ known

-- a listing more
pub lists-on : (pair : Pair) (command : Cmd) (before now : Progress) → is_listing command ≡ true → HasOnlyListed before → HasTold pair command before now → HasOnlyListed now
lists-on pair command before now is lists told =
    subst OnlyLists (sym told.turns_are) (All-push (λ (turn : Turn). is_listing turn.0 ≡ true) before.unit.turns (command, Done told.reply) lists is)

-- all was listed: the sides, and then the holds of each
pub listed-all : (pair : Pair) (listed held now : Known) → HasListedSets pair listed → HasListedSource listed → HasListedTarget pair listed → KnowsMoreHolds Source listed held → HasAskedAll Source held → KnowsMoreHolds Target held now → HasAskedAll Target now → HasListedAll pair now
listed-all pair listed held now sets source target more asked more' asked' =
    subst (HasListedAll pair) (sym same) (record {
      listed = ap (λ (b : Bool). b && on_target listed.sets) of_source ∙ ap on_target sets.are_listed ∙ of_target (list_any shows sets.sets) refl;
      sets = record { sets = sets.sets; are_listed = sets.are_listed; presence = sets.presence; none_absent = sets.none_absent };
      source = record { source = source.source; source_is = source.source_is; in_list = source.in_list };
    })
  where
    same : now ≡ record listed {
      source = record listed.source { asked = held.source.asked; held = held.source.held };
      target = record listed.target { asked = now.target.asked; held = now.target.held };
    }
    same = more'.only ∙ ap (λ (k : Known). record k { target = record k.target { asked = now.target.asked; held = now.target.held } }) more.only

    shows : SetRow → Bool
    shows row = same_text row.path pair.target

    on_target : Option (List SetRow) → Bool
    on_target sets = option_map_or (λ sets. not (list_any shows sets) || has_listed_holds now.target.asked listed.target.listing) sets false

    of_source : has_listed_holds held.source.asked listed.source.listing ≡ true
    of_source =
        ap (has_listed_holds held.source.asked) source.source_is
        ∙ sym (ap (λ (o : Option (List VersionRow)). list_all (has_known_holds held.source.asked) (rows_of o)) (ap (λ (k : Known). k.source.listing) more.only ∙ source.source_is))
        ∙ asked

    of_listing : (listing : Option (List VersionRow)) → is_some listing ≡ true → list_all (has_known_holds now.target.asked) (rows_of listing) ≡ true → has_listed_holds now.target.asked listing ≡ true
    of_listing None some all = absurd (true≢false (sym some))
    of_listing (Some rows) some all = all

    of_target : (b : Bool) → list_any shows sets.sets ≡ b → (not (list_any shows sets.sets) || has_listed_holds now.target.asked listed.target.listing) ≡ true
    of_target false is = rw is refl
    of_target true is =
        rw is (of_listing listed.target.listing
        (target (ap (λ (o : Option (List SetRow)). option_map_or (λ sets. list_any shows sets) o false) sets.are_listed ∙ is))
        (sym (ap (λ (k : Known). list_all (has_known_holds now.target.asked) (rows_of k.target.listing)) same) ∙ asked'))

-- the holds of one row more are known
pub asked-place : (side : Role) (first before now : Known) (place : ℕ) → place < length (rows_of (listing_at side first)) → KnowsMoreHolds side first before → KnowsMoreHolds side before now → list_all (has_known_holds (asked_at side before)) (take place (rows_of (listing_at side first))) ≡ true → HasAskedAt side place now → list_all (has_known_holds (asked_at side now)) (take (place + 1) (rows_of (listing_at side first))) ≡ true
asked-place side first before now place inside one more all known =
    elim (slice_get_cases rows place).1 [
      | inl here ↦ asked-more side before now rows place here.0 inside more all (sym here.3) (known here.0 (there ∙ here.2))
      | inr past ↦ absurd (omega (arith, inside, past.0))
    ]
  where
    rows : List VersionRow
    rows = rows_of (listing_at side first)

    there : slice_get (rows_of (listing_at side now)) place ≡ slice_get rows place
    there = same-rows side before now more place ∙ same-rows side first before one place
