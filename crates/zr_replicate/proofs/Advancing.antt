use Rattle.std.specs.Prelude.{option_map}
use Rattle.std.proofs.Common.{◌≡◌, ◌≢◌, ◌∙◌, ◌<◌, ◌&&◌, ◌||◌, ◌==◌, inl, inr, ℕ, Bool, true, false, true≢false, cond, List, [], ◌∷◌, ◌++◌, Option, Some, None, Contains, filter, find, is_none, length, reverse, refl, ap, sym, subst, arith}
use Rattle.std.specs.List.{AllPairs, list_all}
use Rattle.std.specs.Option.{option_map_or, option_or, option_to_list}
use Rattle.std.specs.Cmp.Lexicographic.{bytes_decides}
use Rattle.std.proofs.lemmas.Bool.Decides.{Decides-eqb}
use Rattle.std.proofs.lemmas.List.{reverse-append}
use Rattle.std.proofs.lemmas.List.Elements.{All-contains, Contains-append_cases, Contains-append_left, Contains-append_right, Contains-push_cases}
use Rattle.zr_base.proofs.Lists.{AllPairs-head, AllPairs-tail}
use Rattle.zr_names.specs.declared.unit.Guid.{Guid}
use Rattle.zr_command.specs.Names.{same_name}
use Rattle.zr_command.specs.Listings.{IsVersionList}
use Rattle.zr_command.specs.declared.command.Transfer.{Transfer}
use Rattle.zr_command.specs.declared.version.VersionName.{VersionName}
use Rattle.zr_command.specs.declared.version.VersionName.TheVariants.{Snap, Mark}
use Rattle.zr_command.specs.declared.version.VersionRow.{VersionRow}
use Rattle.zr_world.proofs.Keeping.{found-passes}
use Rattle.zr_plan.specs.Plan.{in_full, is_later, step_to, steps_of, steps_plan}
use Rattle.zr_command.specs.Kinds.{is_snap, is_snap_of, names_snap, newest}
use Rattle.zr_plan.specs.declared.target.Planned.TheVariants.{Steps, UpToDate}
use Rattle.zr_plan.specs.declared.target.Step.{Step}
use Rattle.zr_known.specs.declared.known.Known.{Known}
use Rattle.zr_jobs.specs.declared.pair.Pair.{Pair}
use Rattle.zr_known.specs.declared.known.Presence.{Presence}
use Rattle.zr_known.specs.declared.known.Presence.TheVariants.{Absent, There, Unlisted}
use Rattle.zr_known.specs.Known.{arrival, is_among, is_row_of, presence_after, rows_of, source_row, target_rows, with_step_held}
use Rattle.zr_known.specs.Replication.{HoldsKnown, is_there, MayHoldStep, newest_known, next_transfer, plan_known, transfer_of_plan, transfer_of_step}
use Rattle.zr_known.specs.Straight.{has_known_holds, version_holds_known}
use Rattle.zr_known.proofs.Decisions.{found_in}
use Rattle.zr_known.proofs.Knowing.{arrival-rows}
use Rattle.zr_replicate.specs.Settlement.{is_bookmark, IsAlone, IsSafe, MaySettle, OnlyMarks}
use Rattle.zr_replicate.specs.Steps.{HasSource, IsAtRest, IsReady, IsUntouched, newest_by, RestsOn, SameListings, step_count}
use Rattle.zr_replicate.specs.Progress.{HasArrived}
use Rattle.zr_replicate.proofs.Later.{fewer-steps}
use Rattle.zr_replicate.proofs.Lists.{passes-of}
use Rattle.zr_replicate.proofs.Planning.{source-some}
use Rattle.zr_replicate.proofs.Sending.{rest-plan, rest-sends, SendsRow, untouched-plan, untouched-sends}

-- what both kinds of a ready pair have
record ReadyParts (known : Known) : Type 0 where
  source : HasSource known
  no_step_holds : known.source.held ≡ []
  bookmarks : list_all is_bookmark known.marks ≡ true
  rows : List VersionRow
  rows_are : target_rows known ≡ Some rows

parts-of : (pair : Pair) (known : Known) → IsReady pair known → ReadyParts known
parts-of pair known (inl u) = record {
  source = u.source;
  no_step_holds = u.no_step_holds;
  bookmarks = ap (list_all is_bookmark) u.no_marks;
  rows = [];
  rows_are = u.no_rows;
}
parts-of pair known (inr r) =
    by (target_rows known) refl r.rests.safe.settled.is_newest
  where
    by : (rows : Option (List VersionRow)) → target_rows known ≡ rows → newest (rows_of rows) ≡ Some r.rests.safe.last → ReadyParts known
    by None is e = cc
    by (Some rows) is e = record {
      source = r.rests.source;
      no_step_holds = r.rests.alone.step_held;
      bookmarks = r.rests.safe.bookmarks;
      rows = rows;
      rows_are = is;
    }

same-source : (known : Known) (one other : HasSource known) → one.rows ≡ other.rows
same-source known one other = let e : Some one.rows ≡ Some other.rows = sym one.are_listed ∙ other.are_listed in cc

-- what a transfer sends was listed
ready-sends : (pair : Pair) (known : Known) (transfer : Transfer) (ready : IsReady pair known) → next_transfer pair known ≡ Some transfer → SendsRow transfer (parts-of pair known ready).source.rows
unfolding parts-of
ready-sends pair known transfer (inl u) next = untouched-sends pair known transfer u next
ready-sends pair known transfer (inr r) next =
    subst (SendsRow transfer) (same-source known r.rests.source (parts-of pair known (inr r)).source) (rest-sends pair known transfer r.newest r.rests next).sends

holds-known : (row : VersionRow) (asked : List (List ℕ)) (name : List ℕ) → row.name ≡ Snap name → has_known_holds asked row ≡ true → HoldsKnown row asked name
holds-known row asked name is e =
    by (row.refs == 0) refl (subst (λ (v : VersionName). version_holds_known asked row.refs v ≡ true) is e)
  where
    by : (b : Bool) → (row.refs == 0) ≡ b → (b || is_among asked name) ≡ true → HoldsKnown row asked name
    by true zero e = inl ((Decides-eqb row.refs 0).0 zero)
    by false zero e = inr e

-- the snapshot of the next transfer may be held
pub may-hold : (pair : Pair) (known : Known) (transfer : Transfer) → IsReady pair known → next_transfer pair known ≡ Some transfer → MayHoldStep known transfer.to
may-hold pair known transfer ready next =
    let parts = parts-of pair known ready in
    let sends = ready-sends pair known transfer ready next in
    record {
      row = sends.row;
      listed = record { rows = parts.source.rows; are_listed = parts.source.are_listed; among = sends.among; named = sends.named };
      holds = holds-known sends.row known.source.asked transfer.to sends.named (passes-of (has_known_holds known.source.asked) parts.source.rows sends.row parts.source.holds sends.among);
      free = ap (λ (names : List (List ℕ)). is_among names transfer.to) parts.no_step_holds;
    }

one-of : {X : Type 0} (x y : X) → Contains (x ∷ []) y → x ≡ y
one-of x y among = elim (Contains-push_cases [] x y among) [ inl none ↦ absurd (omega (arith, none.1)) | inr same ↦ same ]

-- names differ in a listing, so the row of a name is found by it
find-named : (test : VersionRow → Bool) (rows : List VersionRow) (row : VersionRow) → AllPairs (λ a b. a.name ≢ b.name) rows → Contains rows row → test row ≡ true → ((x : VersionRow) → test x ≡ true → x.name ≡ row.name) → find test rows ≡ Some row
find-named test [] row differ among pass only = absurd (omega (arith, among.1))
find-named test (x ∷ xs) row differ among pass only =
    elim (Contains-append_cases (x ∷ []) xs row among) [
      | inl here ↦ ap (λ (b : Bool). cond b (Some x) (find test xs)) (ap test (one-of x row here) ∙ pass) ∙ ap Some (one-of x row here)
      | inr there ↦
          by (test x) refl (All-contains (Differs x) xs row (AllPairs-head Differs x xs differ) there)
          (find-named test xs row (AllPairs-tail Differs x xs differ) there pass only)
    ]
  where
    Differs : VersionRow → VersionRow → Type 0
    Differs a b = a.name ≢ b.name

    by : (b : Bool) → test x ≡ b → x.name ≢ row.name → find test xs ≡ Some row → cond b (Some x) (find test xs) ≡ Some row
    by true is other found = absurd (other (only x is))
    by false is other found = found

names-itself : (name : VersionName) → same_name name name ≡ true
names-itself (Snap name) = (bytes_decides name name).1 refl
names-itself (Mark name) = (bytes_decides name name).1 refl

named : (name : List ℕ) (other : VersionName) → same_name (Snap name) other ≡ true → other ≡ Snap name
named name (Snap other) e = ap Snap ((bytes_decides other name).0 e)
named name (Mark other) e = absurd (true≢false (sym e))

both : (a b : Bool) → (a && b) ≡ true → (a ≡ true) × (b ≡ true)
both true b e = (refl, e)
both false b e = absurd (true≢false (sym e))

-- a listed snapshot is what a bookmark is made from by its name
source-found : (known : Known) (rows : List VersionRow) (row : VersionRow) (name : List ℕ) → known.source.listing ≡ Some rows → IsVersionList rows → Contains rows row → row.name ≡ Snap name → source_row (Snap name) known ≡ Some row
source-found known rows row name is in_list among is_named =
    found_in (Snap name) known
    ∙ ap (λ (o : Option (List VersionRow)). option_or (find test (option_map_or (λ rows. rows) o [])) (find (is_row_of (Snap name)) known.marks)) is
    ∙ ap (λ (o : Option VersionRow). option_or o (find (is_row_of (Snap name)) known.marks)) (find-named test rows row in_list.names_differ among passes only)
  where
    test : VersionRow → Bool
    test x = is_snap x && is_row_of (Snap name) x

    passes : test row ≡ true
    passes = subst (λ (v : VersionName). (names_snap v && same_name (Snap name) v) ≡ true) (sym is_named) (names-itself (Snap name))

    only : (x : VersionRow) → test x ≡ true → x.name ≡ row.name
    only x e = named name x.name (both (is_snap x) (is_row_of (Snap name) x) e).1 ∙ sym is_named

snap-of : (row : VersionRow) (name : List ℕ) (guid : Guid) → row.name ≡ Snap name → row.guid ≡ guid → is_snap_of guid row ≡ true
snap-of row name guid is of_guid =
    rw (is) (ap (λ (g : Guid). g.0 == guid.0) of_guid ∙ (Decides-eqb guid.0 guid.0).1 refl)

last-newest : (rows : List VersionRow) (row : VersionRow) → is_snap row ≡ true → newest (rows ++ row ∷ []) ≡ Some row
last-newest rows row snapshot = ap (find is_snap) (reverse-append rows (row ∷ [])) ∙ rw snapshot refl

-- what has arrived may be settled
pub may-settle : (pair : Pair) (known held sent : Known) (transfer : Transfer) (names : List (List ℕ)) → IsReady pair known → next_transfer pair known ≡ Some transfer → held ≡ with_step_held names known → HasArrived transfer held sent → MaySettle pair sent (newest_by transfer)
may-settle pair known held sent transfer names ready next holds arrived =
    let parts = parts-of pair known ready in
    let sends = ready-sends pair known transfer ready next in
    let rows : target_rows sent ≡ Some (parts.rows ++ arrival transfer ∷ []) =
    ap target_rows arrived
    ∙ arrival-rows held (arrival transfer) parts.rows (ap target_rows holds ∙ parts.rows_are) in
    let source : sent.source.listing ≡ Some parts.source.rows = ap (λ (k : Known). k.source.listing) arrived ∙ ap (λ (k : Known). k.source.listing) holds ∙ parts.source.are_listed in
    record {
      last = arrival transfer;
      is_newest = record {
        is_newest = ap (λ (o : Option (List VersionRow)). newest (rows_of o)) rows ∙ last-newest parts.rows (arrival transfer) refl;
        named = refl;
        of_guid = refl;
        holds = inl refl;
        no_partial = ap (λ (k : Known). k.receiving) arrived;
      };
      version = Snap transfer.to;
      makes = record {
        row = sends.row;
        found = source-found sent parts.source.rows sends.row transfer.to source parts.source.in_list sends.among sends.named;
        of_guid = inl (snap-of sends.row transfer.to transfer.guid sends.named sends.of_guid);
      };
      bookmarks =
          ap (λ (k : Known). list_all is_bookmark k.marks) arrived
          ∙ ap (λ (k : Known). list_all is_bookmark k.marks) holds
          ∙ parts.bookmarks;
    }

count-steps : (steps : List Step) → step_count (Some (steps_plan steps)) ≡ length steps
count-steps [] = refl
count-steps (step ∷ steps) = refl

contains-filter : (p : VersionRow → Bool) (rows : List VersionRow) (row : VersionRow) → Contains rows row → p row ≡ true → Contains (filter p rows) row
contains-filter p [] row among pass = absurd (omega (arith, among.1))
contains-filter p (x ∷ xs) row among pass =
    elim (Contains-append_cases (x ∷ []) xs row among) [
      | inl here ↦ head (one-of x row here)
      | inr there ↦ tail (p x) (contains-filter p xs row there pass)
    ]
  where
    head : x ≡ row → Contains (cond (p x) (x ∷ filter p xs) (filter p xs)) row
    head same = ap-head (p x) (ap p same ∙ pass) where
      ap-head : (b : Bool) → b ≡ true → Contains (cond b (x ∷ filter p xs) (filter p xs)) row
      ap-head true e = Contains-append_left (x ∷ []) (filter p xs) row (0, omega (arith), same)
      ap-head false e = absurd (true≢false (sym e))

    tail : (b : Bool) → Contains (filter p xs) row → Contains (cond b (x ∷ filter p xs) (filter p xs)) row
    tail true rest = Contains-append_right (x ∷ []) (filter p xs) row rest
    tail false rest = rest

-- once a step was settled, fewer are planned
pub steps-fall : (pair : Pair) (known now : Known) (transfer : Transfer) → IsAtRest pair known → next_transfer pair known ≡ Some transfer → RestsOn pair now (newest_by transfer) → now.source.listing ≡ known.source.listing → step_count (plan_known pair now) < step_count (plan_known pair known)
steps-fall pair known now transfer rest next rests same =
    let sent = rest-sends pair known transfer rest.newest rest.rests next in
    let rows = rest.rests.source.rows in
    let row = sent.sends.row in
    let before = rest-plan pair known rest.newest rest.rests in
    let after = rest-plan pair now (newest_by transfer) rests in
    let same_rows : rests.source.rows ≡ rows = (let e : Some rests.source.rows ≡ Some rows = sym rests.source.are_listed ∙ same ∙ rest.rests.source.are_listed in cc) in
    let snap = snap-of row transfer.to transfer.guid sent.sends.named sent.sends.of_guid in
    let among = contains-filter is_snap rows row sent.sends.among (ap names_snap sent.sends.named) in
    let fall =
    fewer-steps pair.job (filter is_snap rows) known.marks now.marks rest.newest.guid transfer.guid before.own after.own row
    rest.rests.alone.marks rests.alone.marks among snap sent.later in
    let planned_now : plan_known pair now ≡ Some (steps_plan (steps_of (filter (is_later (filter is_snap rows ++ now.marks) transfer.guid after.own) (filter is_snap rows ++ now.marks)))) =
    subst (λ (rs : List VersionRow). plan_known pair now ≡ Some (steps_plan (steps_of (filter (is_later (filter is_snap rs ++ now.marks) transfer.guid after.own) (filter is_snap rs ++ now.marks))))) same_rows after.planned in
    omega (arith, ap step_count planned_now ∙ count-steps _, ap step_count before.planned ∙ count-steps _, fall)

-- what a settled step leaves as it was
module _ (pair : Pair) (known held sent now : Known) (transfer : Transfer) (names : List (List ℕ)) (holds : held ≡ with_step_held names known) (arrived : HasArrived transfer held sent) (only : OnlyMarks sent now) where
  pub same-listings : SameListings known now
  same-listings = record {
    sets = ap (λ (k : Known). k.sets) only ∙ ap (λ (k : Known). k.sets) arrived ∙ ap (λ (k : Known). k.sets) holds;
    source = ap (λ (k : Known). k.source.listing) only ∙ ap (λ (k : Known). k.source.listing) arrived ∙ ap (λ (k : Known). k.source.listing) holds;
    source_asked = ap (λ (k : Known). k.source.asked) only ∙ ap (λ (k : Known). k.source.asked) arrived ∙ ap (λ (k : Known). k.source.asked) holds;
    target = ap (λ (k : Known). k.target.listing) only ∙ ap (λ (k : Known). k.target.listing) arrived ∙ ap (λ (k : Known). k.target.listing) holds;
    target_asked = ap (λ (k : Known). k.target.asked) only ∙ ap (λ (k : Known). k.target.asked) arrived ∙ ap (λ (k : Known). k.target.asked) holds;
  }

  target-after : now.presence ≡ presence_after known.presence
  target-after =
      ap (λ (k : Known). k.presence) only ∙ ap (λ (k : Known). k.presence) arrived ∙ ap (λ (k : Known). presence_after k.presence) holds

  -- and that the target is there
  pub step-rests : IsReady pair known → IsSafe pair now (newest_by transfer) → IsAlone pair now (newest_by transfer) → RestsOn pair now (newest_by transfer)
  step-rests ready safe alone =
      let source = (parts-of pair known ready).source in
      record {
        source = record {
          rows = source.rows;
          are_listed = same-listings.source ∙ source.are_listed;
          in_list = source.in_list;
          holds = ap (λ (asked : List (List ℕ)). list_all (has_known_holds asked) source.rows) same-listings.source_asked ∙ source.holds;
          some = source.some;
        };
        there = ap is_there target-after ∙ by ready;
        safe = safe;
        alone = alone;
      }
    where
      kept : (target : Presence) → is_there target ≡ true → is_there (presence_after target) ≡ true
      kept Unlisted e = e
      kept Absent e = refl
      kept (There flag) e = refl

      by : IsReady pair known → is_there (presence_after known.presence) ≡ true
      by (inl u) = ap (λ (t : Presence). is_there (presence_after t)) u.absent
      by (inr r) = kept known.presence r.rests.there

-- an untouched pair has a first transfer
transfer-of : (pair : Pair) (known : Known) (steps : List Step) → None ≡ transfer_of_plan pair known (Some (Steps (in_full steps))) → steps ≡ []
transfer-of pair known [] e = refl
transfer-of pair known (step ∷ steps) e = cc

pub untouched-transfers : (pair : Pair) (known : Known) → IsUntouched known → next_transfer pair known ≡ None → ⊥
untouched-transfers pair known u none =
    let source = filter is_snap u.source.rows ++ known.marks in
    let no_steps = transfer-of pair known (steps_of (option_to_list (newest source))) (sym none ∙ ap (transfer_of_plan pair known) (untouched-plan pair known u)) in
    by (newest source) refl (source-some u.source.rows known.marks u.source.some) no_steps
  where
    by : (o : Option VersionRow) → newest (filter is_snap u.source.rows ++ known.marks) ≡ o → is_none (newest (filter is_snap u.source.rows ++ known.marks)) ≡ false → steps_of (option_to_list (newest (filter is_snap u.source.rows ++ known.marks))) ≡ [] → ⊥
    by None is some no_steps = true≢false (sym (ap is_none is) ∙ some)
    by (Some row) is some no_steps =
        named-step row.name (found-passes is_snap (reverse (filter is_snap u.source.rows ++ known.marks)) row is) (sym (ap (λ (o : Option VersionRow). steps_of (option_to_list o)) is) ∙ no_steps)
      where
        named-step : (name : VersionName) → names_snap name ≡ true → step_to row name ++ [] ≡ [] → ⊥
        named-step (Snap name) snap e = cc
        named-step (Mark name) snap e = true≢false (sym snap)

-- where none comes next, a pair at rest is up to date
pub none-next : (pair : Pair) (known : Known) → IsAtRest pair known → next_transfer pair known ≡ None → plan_known pair known ≡ Some UpToDate
none-next pair known rest none =
    let plan = rest-plan pair known rest.newest rest.rests in
    plan.planned
    ∙ by _ (sym (ap (transfer_of_plan pair known) plan.planned) ∙ none)
  where
    some-last : (step : Step) (full : Bool) → transfer_of_step pair known step full ≡ None → ⊥
    some-last step true e = cc
    some-last step false e =
        let last : newest_known known ≡ Some rest.rests.safe.last = rest.rests.safe.settled.is_newest in
        unmapped _ (newest_known known) rest.rests.safe.last last e
      where
        unmapped : {X Y : Type 0} (f : X → Y) (o : Option X) (x : X) → o ≡ Some x → option_map f o ≡ None → ⊥
        unmapped f None x is e = cc
        unmapped f (Some y) x is e = cc

    by : (steps : List Step) → transfer_of_plan pair known (Some (steps_plan steps)) ≡ None → Some (steps_plan steps) ≡ Some UpToDate
    by [] e = refl
    by (step ∷ steps) e = absurd (some-last step step.full e)
