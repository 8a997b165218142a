use Rattle.std.proofs.Common.{arith, not, ◌≡◌, ◌∙◌, ◌&&◌, ◌||◌, ◌==◌, ℕ, Bool, true, false, true≢false, List, [], ◌∷◌, Option, Some, None, length, refl, ap, sym, inl, inr}
use Rattle.std.specs.List.{list_all}
use Rattle.std.specs.Option.{option_map_or}
use Rattle.std.proofs.lemmas.Bool.Decides.{Decides-eqb}
use Rattle.zr_names.specs.declared.unit.Guid.{Guid}
use Rattle.zr_command.specs.declared.version.VersionName.{VersionName}
use Rattle.zr_command.specs.declared.version.VersionName.TheVariants.{Snap, Mark}
use Rattle.zr_command.specs.declared.version.VersionRow.{VersionRow}
use Rattle.zr_command.specs.Kinds.{is_cursor, is_cursor_of, kind_in, names_snap}
use Rattle.zr_known.specs.declared.known.Known.{Known}
use Rattle.zr_jobs.specs.declared.pair.Pair.{Pair}
use Rattle.zr_known.specs.declared.known.Presence.{Presence}
use Rattle.zr_known.specs.declared.known.Presence.TheVariants.{Absent, There, Unlisted}
use Rattle.zr_known.specs.declared.known.Receiving.{Receiving}
use Rattle.zr_known.specs.declared.known.Receiving.TheVariants.{Nothing, Unknown}
use Rattle.zr_known.specs.Known.{is_among}
use Rattle.zr_known.specs.Replication.{is_there, newest_known}
use Rattle.zr_known.specs.Straight.{has_known_holds, has_listed, has_listed_holds, has_listed_target, has_snapshot, is_absent, is_alone, is_at_rest, is_none_receiving, is_straight, is_untouched, rests_on}
use Rattle.zr_replicate.specs.Listing.{HasListedAll}
use Rattle.zr_replicate.specs.Settlement.{is_bookmark}
use Rattle.zr_replicate.specs.Steps.{HasSource, IsAtRest, IsReady}
use Rattle.zr_replicate.proofs.Lists.{all-weaker}

both : (a b : Bool) → (a && b) ≡ true → (a ≡ true) × (b ≡ true)
both true b e = (refl, e)
both false b e = absurd (true≢false (sym e))

none-left : {X : Type 0} (xs : List X) → (length xs == 0) ≡ true → xs ≡ []
none-left [] e = refl
none-left (x ∷ xs) e = absurd (omega (arith, (Decides-eqb (length (x ∷ xs)) 0).0 e))

absent-is : (target : Presence) → is_absent target ≡ true → target ≡ Absent
absent-is Unlisted e = absurd (true≢false (sym e))
absent-is Absent e = refl
absent-is (There flag) e = absurd (true≢false (sym e))

nothing-is : (receiving : Receiving) → is_none_receiving receiving ≡ true → receiving ≡ Nothing
nothing-is Unknown e = absurd (true≢false (sym e))
nothing-is Nothing e = refl

-- the job's cursors are bookmarks
cursor-is-bookmark : (job : List ℕ) (guid : Guid) (row : VersionRow) → is_cursor_of job guid row ≡ true → is_bookmark row ≡ true
cursor-is-bookmark job guid row e = by row.name e where
  by : (name : VersionName) → is_cursor guid (kind_in job name) ≡ true → not (names_snap name) ≡ true
  by (Snap name) e = absurd (true≢false (sym e))
  by (Mark name) e = refl

listed-holds : (pair : Pair) (known : Known) (rows : List VersionRow) → known.source.listing ≡ Some rows → has_listed pair known ≡ true → list_all (has_known_holds known.source.asked) rows ≡ true
listed-holds pair known rows is listed =
    sym (ap (has_listed_holds known.source.asked) is) ∙ (both (has_listed_holds known.source.asked known.source.listing) (has_listed_target pair known) listed).0

-- the parts of a straight pair
source-of : (pair : Pair) (known : Known) → HasListedAll pair known → has_snapshot known.source.listing ≡ true → HasSource known
source-of pair known all some = record {
  rows = all.source.source;
  are_listed = all.source.source_is;
  in_list = all.source.in_list;
  holds = listed-holds pair known all.source.source all.source.source_is all.listed;
  some = sym (ap has_snapshot all.source.source_is) ∙ some;
}

rests-of : (pair : Pair) (known : Known) → HasSource known → is_there known.presence ≡ true → known.receiving ≡ Nothing → is_at_rest pair known ≡ true → IsAtRest pair known
rests-of pair known source there no_partial rest = by (newest_known known) refl rest where
  named : (last : VersionRow) (name : VersionName) → newest_known known ≡ Some last → last.name ≡ name → rests_on pair known last name ≡ true → IsAtRest pair known
  named last (Mark name) is is_named e = absurd (true≢false (sym e))
  named last (Snap name) is is_named e =
      let outer = both _ (is_alone pair known last name) e in
      let inner = both _ (is_among known.target.held name) outer.0 in
      let alone = both _ (length known.source.held == 0) outer.1 in
      let marks = both (list_all (is_cursor_of pair.job last.guid) known.marks) _ alone.0 in
      record {
        newest = record { name = name; guid = last.guid };
        rests = record {
          source = source;
          there = there;
          safe = record {
            last = last;
            settled = record { is_newest = is; named = is_named; cursor = inner.0; held = inner.1 };
            of_guid = refl;
            no_partial = no_partial;
            bookmarks = all-weaker (is_cursor_of pair.job last.guid) is_bookmark (cursor-is-bookmark pair.job last.guid) known.marks marks.0;
          };
          alone = record { marks = marks.0; last_held = marks.1; step_held = none-left known.source.held alone.1 };
        };
      }

  by : (o : Option VersionRow) → newest_known known ≡ o → option_map_or (λ last. rests_on pair known last last.name) o false ≡ true → IsAtRest pair known
  by None is e = absurd (true≢false (sym e))
  by (Some last) is e = named last last.name is refl e

-- a straight pair is ready for its first step
pub straight-ready : (pair : Pair) (known : Known) → HasListedAll pair known → is_straight pair known ≡ true → IsReady pair known
straight-ready pair known all straight = by (is_untouched known) refl parts.1 where
  parts : ((has_snapshot known.source.listing && is_none_receiving known.receiving) ≡ true) × ((is_untouched known || (is_there known.presence && is_at_rest pair known)) ≡ true)
  parts = both (has_snapshot known.source.listing && is_none_receiving known.receiving) (is_untouched known || (is_there known.presence && is_at_rest pair known)) straight

  some : (has_snapshot known.source.listing ≡ true) × (is_none_receiving known.receiving ≡ true)
  some = both (has_snapshot known.source.listing) (is_none_receiving known.receiving) parts.0

  source : HasSource known
  source = source-of pair known all some.0

  by : (b : Bool) → is_untouched known ≡ b → (b || (is_there known.presence && is_at_rest pair known)) ≡ true → IsReady pair known
  by true untouched e =
      let outer = both _ (length known.source.held == 0) untouched in
      let inner = both (is_absent known.presence) (length known.marks == 0) outer.0 in
      let absent = absent-is known.presence inner.0 in
      inl (record {
        source = source;
        absent = absent;
        no_rows = all.sets.none_absent absent;
        no_marks = none-left known.marks inner.1;
        no_step_holds = none-left known.source.held outer.1;
        no_partial = nothing-is known.receiving some.1;
      })
  by false untouched e =
      let rest = both (is_there known.presence) (is_at_rest pair known) e in
      inr (rests-of pair known source rest.0 (nothing-is known.receiving some.1) rest.1)
