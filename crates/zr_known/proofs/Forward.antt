use Rattle.std.proofs.Common.{◌≡◌, ◌∙◌, ℕ, Bool, true, false, true≢false, cond, ◌&&◌, ◌||◌, List, [], ◌∷◌, ◌++◌, Option, Some, None, filter, find, is_none, is_some, reverse, refl, ap, sym, subst, if◌then◌else◌}
use Rattle.std.specs.List.{list_any}
use Rattle.std.specs.Option.{option_map_or, option_or, option_to_list}
use Rattle.std.proofs.lemmas.List.Folds.{list_any-append}
use Rattle.std.proofs.lemmas.List.Sorted.{IsPermutation-reverse, list_any-IsPermutation}
use Rattle.std.proofs.lemmas.Map.Views.{any-filter_same}
use Rattle.zr_names.specs.declared.policy.Initial.TheVariants.{MostRecent}
use Rattle.zr_names.specs.declared.unit.Guid.{Guid}
use Rattle.zr_command.specs.declared.version.VersionName.{VersionName}
use Rattle.zr_command.specs.declared.version.VersionName.TheVariants.{Snap, Mark}
use Rattle.zr_command.specs.declared.version.VersionRow.{VersionRow}
use Rattle.zr_plan.specs.Plan.{in_full, initial_plan, own_version, plan_after, plan_from, plan_of, step_to, steps_of, steps_plan}
use Rattle.zr_command.specs.Kinds.{is_cursor_of, is_snap, names_snap, newest}
use Rattle.zr_plan.specs.declared.target.Conflict.TheVariants.{NoSenderSnapshots}
use Rattle.zr_plan.specs.declared.target.Planned.{Planned}
use Rattle.zr_plan.specs.declared.target.Planned.TheVariants.{Steps, Conflict}
use Rattle.zr_plan.specs.declared.target.Step.{Step}
use Rattle.zr_plan.specs.Sides.{Onto, rows_of_source}
use Rattle.zr_known.specs.declared.known.Known.{Known}
use Rattle.zr_jobs.specs.declared.pair.Pair.{Pair}
use Rattle.zr_known.specs.declared.known.Presence.{Presence}
use Rattle.zr_known.specs.declared.known.Presence.TheVariants.{Unlisted, Absent, There}
use Rattle.zr_known.specs.declared.known.Receiving.{Receiving}
use Rattle.zr_known.specs.declared.known.Receiving.TheVariants.{Unknown, Nothing}
use Rattle.zr_known.specs.Known.{target_rows}
use Rattle.zr_known.specs.Replication.{is_there, newest_known, plan_between, plan_known, planned_onto}
use Rattle.zr_known.specs.Straight.{has_snapshot, is_absent, is_at_rest, is_none_receiving, is_straight, is_untouched, IsForward, rests_on}

module _ {X : Type 0} (p : X → Bool) where
  found-any : (xs : List X) → is_some (find p xs) ≡ list_any p xs
  found-any [] = refl
  found-any (x ∷ xs) = by (p x) (found-any xs) where
    by : (b : Bool) → is_some (find p xs) ≡ list_any p xs → is_some (cond b (Some x) (find p xs)) ≡ (b || list_any p xs)
    by true rest = refl
    by false rest = rest

both : (a b : Bool) → (a && b) ≡ true → (a ≡ true) × (b ≡ true)
both true b e = (refl, e)
both false b e = absurd (true≢false (sym e))

-- a listing has a newest snapshot where some row is one
newest-any : (rows : List VersionRow) → is_some (newest rows) ≡ list_any is_snap rows
newest-any rows =
    found-any is_snap (reverse rows) ∙ sym (list_any-IsPermutation is_snap rows (reverse rows) (IsPermutation-reverse rows))

-- a plan's rows have a newest snapshot where the listing has
newest-planned : (rows marks : List VersionRow) → is_some (newest rows) ≡ true → is_some (newest (filter is_snap rows ++ marks)) ≡ true
newest-planned rows marks some =
    newest-any (filter is_snap rows ++ marks)
    ∙ list_any-append is_snap (filter is_snap rows) marks
    ∙ ap (λ (b : Bool). b || list_any is_snap marks) (any-filter_same is_snap is_snap true (λ row e. e) rows ∙ sym (newest-any rows) ∙ some)

none-some : (o : Option VersionRow) → is_some o ≡ true → is_none o ≡ false
none-some None e = absurd (true≢false (sym e))
none-some (Some row) e = refl

forward-steps : (steps : List Step) → IsForward (Some (steps_plan steps))
forward-steps [] = tt
forward-steps (step ∷ steps) = tt

forward-named : (row : VersionRow) (name : VersionName) → names_snap name ≡ true → IsForward (Some (Steps (in_full (step_to row name ++ []))))
forward-named row (Snap name) e = tt
forward-named row (Mark name) e = absurd (true≢false (sym e))

-- what was found passes
found-snap : (rows : List VersionRow) (row : VersionRow) → find is_snap rows ≡ Some row → is_snap row ≡ true
found-snap [] row e = absurd (let wrong : None ≡ Some row = e in cc)
found-snap (first ∷ rows) row e = by (is_snap first) refl (found-snap rows row) e where
  by : (b : Bool) → is_snap first ≡ b → (find is_snap rows ≡ Some row → is_snap row ≡ true) → cond b (Some first) (find is_snap rows) ≡ Some row → is_snap row ≡ true
  by true is rest e = let same : first ≡ row = (let it : Some first ≡ Some row = e in cc) in subst (λ (x : VersionRow). is_snap x ≡ true) same is
  by false is rest e = rest e

forward-newest : (source : List VersionRow) (o : Option VersionRow) → newest source ≡ o → is_some o ≡ true → IsForward (Some (Steps (in_full (steps_of (option_to_list o)))))
forward-newest source None is some = absurd (true≢false (sym some))
forward-newest source (Some row) is some = forward-named row row.name (found-snap (reverse source) row is)

-- a plan by what it tests first
forward-if : (none nothing : Bool) (first plan : Planned) → none ≡ false → (nothing ≡ true → IsForward (Some first)) → (nothing ≡ false → IsForward (Some plan)) → IsForward (Some (if none then Conflict NoSenderSnapshots else (if nothing then first else plan)))
forward-if true nothing first plan is one other = absurd (true≢false is)
forward-if false true first plan is one other = one refl
forward-if false false first plan is one other = other refl

abbrev absent-target : Onto
absent-target = record { there = false; placeholder = false; rows = []; partial = None }

-- onto a target that is not there
forward-absent : (job : List ℕ) (source : List VersionRow) → is_some (newest source) ≡ true → IsForward (Some (plan_of job source absent-target MostRecent))
unfolding plan_of
forward-absent job source some =
    forward-if (is_none (newest source)) true (initial_plan source MostRecent) (plan_after job source [] None) (none-some (newest source) some)
    (λ e. forward-newest source (newest source) refl some) (λ e. absurd (true≢false e))

-- where a mark is the cursor of the last snapshot, the source has an own version of that
own-marked : (job : List ℕ) (guid : Guid) (source : List VersionRow) → list_any (is_cursor_of job guid) source ≡ true → is_some (own_version job source guid) ≡ true
own-marked job guid source marked = by (find (is_cursor_of job guid) source) _ (found-any (is_cursor_of job guid) source ∙ marked) where
  by : (o rest : Option VersionRow) → is_some o ≡ true → is_some (option_or o rest) ≡ true
  by None rest some = absurd (true≢false (sym some))
  by (Some own) rest some = refl

forward-from : (job : List ℕ) (source rows : List VersionRow) (last : VersionRow) (own : Option VersionRow) → is_some own ≡ true → IsForward (Some (plan_from job source rows last own))
forward-from job source rows last None some = absurd (true≢false (sym some))
forward-from job source rows last (Some own) some = forward-steps _

forward-after : (job : List ℕ) (source rows : List VersionRow) (last : Option VersionRow) (newer : VersionRow) → last ≡ Some newer → is_some (own_version job source newer.guid) ≡ true → IsForward (Some (plan_after job source rows last))
forward-after job source rows last newer is some =
    subst (λ (o : Option VersionRow). IsForward (Some (plan_after job source rows o))) (sym is) (forward-from job source rows newer (own_version job source newer.guid) some)

has-something : (flag : Bool) (o : Option VersionRow) (last : VersionRow) → o ≡ Some last → (flag && is_none o) ≡ true → ⊥
has-something true None last is e = let wrong : None ≡ Some last = is in cc
has-something true (Some row) last is e = true≢false (sym e)
has-something false o last is e = true≢false (sym e)

-- onto a target that is there, whose newest snapshot has its cursor
forward-there : (job : List ℕ) (source rows : List VersionRow) (flag : Bool) (last : VersionRow) → is_some (newest source) ≡ true → newest rows ≡ Some last → list_any (is_cursor_of job last.guid) source ≡ true → IsForward (Some (plan_of job source (record { there = true; placeholder = flag; rows = rows; partial = None }) MostRecent))
unfolding plan_of
forward-there job source rows flag last some is marked =
    forward-if (is_none (newest source)) (flag && is_none (newest rows)) (initial_plan source MostRecent) (plan_after job source rows (newest rows)) (none-some (newest source) some)
    (λ e. absurd (has-something flag (newest rows) last is e))
    (λ e. forward-after job source rows (newest rows) last is (own-marked job last.guid source marked))

-- a plan's rows have the cursor that is among the marks
planned-marked : (job : List ℕ) (guid : Guid) (rows marks : List VersionRow) → list_any (is_cursor_of job guid) marks ≡ true → list_any (is_cursor_of job guid) (filter is_snap rows ++ marks) ≡ true
planned-marked job guid rows marks marked =
    list_any-append (is_cursor_of job guid) (filter is_snap rows) marks
    ∙ ap (λ (b : Bool). list_any (is_cursor_of job guid) (filter is_snap rows) || b) marked
    ∙ or-true (list_any (is_cursor_of job guid) (filter is_snap rows))
  where
    or-true : (b : Bool) → (b || true) ≡ true
    or-true true = refl
    or-true false = refl

-- the newest known snapshot, with its cursor, of a pair at rest
rests-marked : (pair : Pair) (known : Known) (last : VersionRow) (name : VersionName) → rests_on pair known last name ≡ true → list_any (is_cursor_of pair.job last.guid) known.marks ≡ true
rests-marked pair known last (Snap name) e = (both _ _ (both _ _ e).0).0
rests-marked pair known last (Mark name) e = absurd (true≢false (sym e))

rests-newest : (pair : Pair) (known : Known) → is_at_rest pair known ≡ true → (last : VersionRow) × (newest_known known ≡ Some last) × (list_any (is_cursor_of pair.job last.guid) known.marks ≡ true)
rests-newest pair known e = by (newest_known known) refl e where
  by : (o : Option VersionRow) → newest_known known ≡ o → option_map_or (λ last. rests_on pair known last last.name) o false ≡ true → (last : VersionRow) × (newest_known known ≡ Some last) × (list_any (is_cursor_of pair.job last.guid) known.marks ≡ true)
  by None is e = absurd (true≢false (sym e))
  by (Some last) is e = (last, is, rests-marked pair known last last.name e)

-- a pair with these parts has a plan
abbrev Plans : Pair → Known → Option (List VersionRow) → Presence → Option (List VersionRow) → Receiving → Type 0
Plans pair known source target rows receiving = IsForward (plan_between pair known source (planned_onto target rows) receiving)

between-absent : (pair : Pair) (known : Known) (source : Option (List VersionRow)) (target : Presence) (rows : Option (List VersionRow)) (receiving : Receiving) → has_snapshot source ≡ true → is_none_receiving receiving ≡ true → is_absent target ≡ true → Plans pair known source target rows receiving
between-absent pair known None target rows receiving some none absent = absurd (true≢false (sym some))
between-absent pair known (Some source) target rows Unknown some none absent = absurd (true≢false (sym none))
between-absent pair known (Some source) Unlisted rows Nothing some none absent = absurd (true≢false (sym absent))
between-absent pair known (Some source) (There flag) rows Nothing some none absent = absurd (true≢false (sym absent))
between-absent pair known (Some source) Absent rows Nothing some none absent =
    forward-absent pair.job (rows_of_source source known.marks) (newest-planned source known.marks some)

between-there : (pair : Pair) (known : Known) (source : Option (List VersionRow)) (target : Presence) (rows : Option (List VersionRow)) (receiving : Receiving) (last : VersionRow) → has_snapshot source ≡ true → is_none_receiving receiving ≡ true → is_there target ≡ true → newest (option_map_or (λ rows. rows) rows []) ≡ Some last → list_any (is_cursor_of pair.job last.guid) known.marks ≡ true → Plans pair known source target rows receiving
between-there pair known None target rows receiving last some none there is marked = absurd (true≢false (sym some))
between-there pair known (Some source) target rows Unknown last some none there is marked = absurd (true≢false (sym none))
between-there pair known (Some source) Unlisted rows Nothing last some none there is marked = absurd (true≢false (sym there))
between-there pair known (Some source) Absent rows Nothing last some none there is marked = absurd (true≢false (sym there))
between-there pair known (Some source) (There flag) None Nothing last some none there is marked = absurd (let wrong : None ≡ Some last = is in cc)
between-there pair known (Some source) (There flag) (Some rows) Nothing last some none there is marked =
    forward-there pair.job (rows_of_source source known.marks) rows flag last (newest-planned source known.marks some) is (planned-marked pair.job last.guid source known.marks marked)

-- a pair at rest whose target is there has a plan that is done by transfers alone
pub rest-forward : (pair : Pair) (known : Known) → has_snapshot known.source.listing ≡ true → is_none_receiving known.receiving ≡ true → is_there known.presence ≡ true → is_at_rest pair known ≡ true → IsForward (plan_known pair known)
rest-forward pair known some none there rest =
    let newest = rests-newest pair known rest in
    between-there pair known known.source.listing known.presence (target_rows known) known.receiving newest.0 some none there newest.1 newest.2

-- so has a straight pair
pub straight-forward : (pair : Pair) (known : Known) → is_straight pair known ≡ true → IsForward (plan_known pair known)
straight-forward pair known e = by (is_untouched known) refl parts.1 where
  parts : (has_snapshot known.source.listing && is_none_receiving known.receiving ≡ true) × ((is_untouched known || (is_there known.presence && is_at_rest pair known)) ≡ true)
  parts = both (has_snapshot known.source.listing && is_none_receiving known.receiving) (is_untouched known || (is_there known.presence && is_at_rest pair known)) e

  some : (has_snapshot known.source.listing ≡ true) × (is_none_receiving known.receiving ≡ true)
  some = both (has_snapshot known.source.listing) (is_none_receiving known.receiving) parts.0

  by : (b : Bool) → is_untouched known ≡ b → (b || (is_there known.presence && is_at_rest pair known)) ≡ true → IsForward (plan_known pair known)
  by true untouched f =
      between-absent pair known known.source.listing known.presence (target_rows known) known.receiving some.0 some.1 (both _ _ (both _ _ untouched).0).0
  by false untouched f =
      let rest = both _ _ f in
      rest-forward pair known some.0 some.1 rest.0 rest.1
