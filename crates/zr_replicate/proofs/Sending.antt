use Rattle.std.specs.Prelude.{option_map}
use Rattle.std.proofs.Common.{◌≡◌, ◌∙◌, inl, inr, ℕ, Bool, true, false, true≢false, List, [], ◌∷◌, ◌++◌, Option, Some, None, Contains, filter, is_none, not, reverse, refl, ap, sym, subst, arith}
use Rattle.std.specs.List.{list_all}
use Rattle.std.specs.Option.{option_map_or, option_to_list}
use Rattle.std.proofs.lemmas.List.{reverse-append}
use Rattle.std.proofs.lemmas.List.Elements.{Contains-append_cases, Contains-append_left, Contains-append_right}
use Rattle.zr_names.specs.declared.unit.Guid.{Guid}
use Rattle.zr_command.specs.declared.command.Transfer.{Transfer}
use Rattle.zr_command.specs.declared.version.VersionName.{VersionName}
use Rattle.zr_command.specs.declared.version.VersionName.TheVariants.{Snap, Mark}
use Rattle.zr_command.specs.declared.version.VersionRow.{VersionRow}
use Rattle.zr_plan.specs.Plan.{in_full, is_later, own_version, step_to, steps_of, steps_plan}
use Rattle.zr_command.specs.Kinds.{is_snap, names_snap, newest}
use Rattle.zr_plan.specs.declared.target.Planned.{Planned}
use Rattle.zr_plan.specs.declared.target.Planned.TheVariants.{Abandon, Conflict, Resume, Steps, UpToDate}
use Rattle.zr_plan.specs.declared.target.Step.{Step}
use Rattle.zr_known.specs.declared.known.Known.{Known}
use Rattle.zr_jobs.specs.declared.pair.Pair.{Pair}
use Rattle.zr_known.specs.declared.known.Presence.{Presence}
use Rattle.zr_known.specs.declared.known.Presence.TheVariants.{Absent, There, Unlisted}
use Rattle.zr_known.specs.declared.known.Receiving.TheVariants.{Nothing}
use Rattle.zr_known.specs.Known.{target_rows}
use Rattle.zr_known.specs.Replication.{is_there, newest_known, next_transfer, plan_between, plan_known, planned_onto, transfer_of_plan, transfer_of_step}
use Rattle.zr_replicate.specs.declared.settlement.Newest.{Newest}
use Rattle.zr_replicate.specs.Settlement.{is_bookmark}
use Rattle.zr_replicate.specs.Steps.{IsUntouched, RestsOn}
use Rattle.zr_replicate.proofs.Lists.{found-in, in-filter, passes-of}
use Rattle.zr_replicate.proofs.Planning.{cursor-found, plan-first, plan-onto, source-some}

pub some-is : {X : Type 0} (x y : X) → Some x ≡ Some y → x ≡ y
some-is x y e = cc

pub unmapped : {X Y : Type 0} (f : X → Y) (o : Option X) (y : Y) → option_map f o ≡ Some y → (x : X) × (f x ≡ y)
unmapped f None y e = cc
unmapped f (Some x) y e = (x, some-is (f x) y e)

-- what a transfer is of a plan
pub record IsStepOf (plan : Option Planned) (transfer : Transfer) : Type 0 where
  pub step : Step
  pub rest : List Step
  pub planned : plan ≡ Some (Steps (step ∷ rest))
  pub to_is : step.to ≡ transfer.to
  pub guid_is : step.guid ≡ transfer.guid

step-of : (pair : Pair) (known : Known) (plan : Option Planned) (transfer : Transfer) → transfer_of_plan pair known plan ≡ Some transfer → IsStepOf plan transfer
step-of pair known None transfer e = cc
step-of pair known (Some UpToDate) transfer e = cc
step-of pair known (Some Abandon) transfer e = cc
step-of pair known (Some (Resume name guid)) transfer e = cc
step-of pair known (Some (Conflict conflict)) transfer e = cc
step-of pair known (Some (Steps [])) transfer e = cc
step-of pair known (Some (Steps (step ∷ rest))) transfer e = by step.full e where
  by : (full : Bool) → transfer_of_step pair known step full ≡ Some transfer → IsStepOf (Some (Steps (step ∷ rest))) transfer
  by true e =
      let same = some-is _ transfer e in
      record { step = step; rest = rest; planned = refl; to_is = ap (λ (t : Transfer). t.to) same; guid_is = ap (λ (t : Transfer). t.guid) same }
  by false e =
      let same = (unmapped _ (newest_known known) transfer e).1 in
      record { step = step; rest = rest; planned = refl; to_is = ap (λ (t : Transfer). t.to) same; guid_is = ap (λ (t : Transfer). t.guid) same }

-- a step is of a snapshot among some rows
pub record IsOfRow (rows : List VersionRow) (step : Step) : Type 0 where
  pub row : VersionRow
  pub among : Contains rows row
  pub named : row.name ≡ Snap step.to
  pub of_guid : row.guid ≡ step.guid

contains-head : {X : Type 0} (x : X) (xs : List X) → Contains (x ∷ xs) x
contains-head x xs = Contains-append_left (x ∷ []) xs x (0, omega (arith), refl)

-- the first increment
first-row : (rows : List VersionRow) (step : Step) (rest : List Step) → steps_of rows ≡ step ∷ rest → IsOfRow rows step
first-row [] step rest e = cc
first-row (row ∷ rows) step rest e = by row.name refl e (first-row rows step rest) where
  by : (name : VersionName) → row.name ≡ name → step_to row name ++ steps_of rows ≡ step ∷ rest → (steps_of rows ≡ step ∷ rest → IsOfRow rows step) → IsOfRow (row ∷ rows) step
  by (Snap name) is e others =
      let same : record { to = name; guid = row.guid; full = false } ≡ step = cc in
      record {
        row = row;
        among = contains-head row rows;
        named = is ∙ ap Snap (ap (λ (s : Step). s.to) same);
        of_guid = ap (λ (s : Step). s.guid) same;
      }
  by (Mark name) is e others =
      let it = others e in
      record { row = it.row; among = Contains-append_right (row ∷ []) rows it.row it.among; named = it.named; of_guid = it.of_guid }

-- the newest snapshot, in full
newest-row : (source : List VersionRow) (o : Option VersionRow) (step : Step) (rest : List Step) → newest source ≡ o → in_full (steps_of (option_to_list o)) ≡ step ∷ rest → (row : VersionRow) × (newest source ≡ Some row) × (row.name ≡ Snap step.to) × (row.guid ≡ step.guid)
newest-row source None step rest is e = cc
newest-row source (Some row) step rest is e = by row.name refl e where
  by : (name : VersionName) → row.name ≡ name → in_full (step_to row name ++ []) ≡ step ∷ rest → (row : VersionRow) × (newest source ≡ Some row) × (row.name ≡ Snap step.to) × (row.guid ≡ step.guid)
  by (Snap name) named e =
      let same : record { to = name; guid = row.guid; full = true } ≡ step = cc in
      (row, is, named ∙ ap Snap (ap (λ (s : Step). s.to) same), ap (λ (s : Step). s.guid) same)
  by (Mark name) named e = cc

contains-reverse : {X : Type 0} (xs : List X) (x : X) → Contains (reverse xs) x → Contains xs x
contains-reverse [] x among = among
contains-reverse {X} (y ∷ ys) x among =
    elim (Contains-append_cases (reverse ys) (y ∷ []) x (subst (λ (l : List X). Contains l x) (reverse-append (y ∷ []) ys) among)) [
      | inl front ↦ Contains-append_right (y ∷ []) ys x (contains-reverse ys x front)
      | inr back ↦ Contains-append_left (y ∷ []) ys x back
    ]

-- a snapshot among the rows of a plan was listed
listed-row : (rows marks : List VersionRow) (row : VersionRow) (name : List ℕ) → list_all is_bookmark marks ≡ true → Contains (filter is_snap rows ++ marks) row → row.name ≡ Snap name → Contains rows row
listed-row rows marks row name bookmarks among is =
    elim (Contains-append_cases (filter is_snap rows) marks row among) [
      | inl listed ↦ (in-filter is_snap rows row listed).0
      | inr marked ↦
          absurd (true≢false (sym (passes-of is_bookmark marks row bookmarks marked) ∙ ap (λ (v : VersionName). not (names_snap v)) is))
    ]

-- the plan of an untouched pair
pub untouched-plan : (pair : Pair) (known : Known) (u : IsUntouched known) → plan_known pair known ≡ Some (Steps (in_full (steps_of (option_to_list (newest (filter is_snap u.source.rows ++ known.marks))))))
untouched-plan pair known u =
    rw (u.source.are_listed, u.absent, u.no_partial) (ap Some (plan-first pair.job (filter is_snap u.source.rows ++ known.marks) (source-some u.source.rows known.marks u.source.some)))

-- the plan of a pair at rest
pub record IsPlanned (pair : Pair) (known : Known) (guid : Guid) (rows : List VersionRow) : Type 0 where
  pub own : VersionRow
  pub planned :
      plan_known pair known
      ≡ Some (steps_plan (steps_of (filter (is_later (filter is_snap rows ++ known.marks) guid own) (filter is_snap rows ++ known.marks))))

there-plan : (pair : Pair) (known : Known) (rows trows : List VersionRow) (target : Presence) (last own : VersionRow) → is_there target ≡ true → is_none (newest (filter is_snap rows ++ known.marks)) ≡ false → newest trows ≡ Some last → own_version pair.job (filter is_snap rows ++ known.marks) last.guid ≡ Some own → plan_between pair known (Some rows) (planned_onto target (Some trows)) Nothing ≡ Some (steps_plan (steps_of (filter (is_later (filter is_snap rows ++ known.marks) last.guid own) (filter is_snap rows ++ known.marks))))
there-plan pair known rows trows Unlisted last own there some is is_own = absurd (true≢false (sym there))
there-plan pair known rows trows Absent last own there some is is_own = absurd (true≢false (sym there))
there-plan pair known rows trows (There flag) last own there some is is_own =
    ap Some (plan-onto pair.job (filter is_snap rows ++ known.marks) trows flag last own some is is_own)

rows-known : (rows : Option (List VersionRow)) (last : VersionRow) → newest (option_map_or (λ rows. rows) rows []) ≡ Some last → (trows : List VersionRow) × (rows ≡ Some trows) × (newest trows ≡ Some last)
rows-known None last e = cc
rows-known (Some trows) last e = (trows, refl, e)

pub rest-plan : (pair : Pair) (known : Known) (newest : Newest) (rests : RestsOn pair known newest) → IsPlanned pair known newest.guid rests.source.rows
rest-plan pair known n rests =
    let safe = rests.safe in
    let source = rests.source in
    let trows = rows-known (target_rows known) safe.last safe.settled.is_newest in
    let own = cursor-found pair.job safe.last.guid (filter is_snap source.rows) known.marks safe.settled.cursor in
    let planned = there-plan pair known source.rows trows.0 known.presence safe.last own.0 rests.there (source-some source.rows known.marks source.some) trows.2 own.1 in
    let of_guid : Guid → Type 0 = λ g. plan_between pair known (Some source.rows) (planned_onto known.presence (Some trows.0)) Nothing ≡ Some (steps_plan (steps_of (filter (is_later (filter is_snap source.rows ++ known.marks) g own.0) (filter is_snap source.rows ++ known.marks)))) in
    record {
      own = own.0;
      planned = rw (source.are_listed, trows.1, safe.no_partial) (subst of_guid safe.of_guid planned);
    }

steps-plan-is : (steps : List Step) (step : Step) (rest : List Step) → Some (steps_plan steps) ≡ Some (Steps (step ∷ rest)) → steps ≡ step ∷ rest
steps-plan-is [] step rest e = cc
steps-plan-is (other ∷ others) step rest e = cc

full-steps-is : (steps : List Step) (step : Step) (rest : List Step) → Some (Steps steps) ≡ Some (Steps (step ∷ rest)) → steps ≡ step ∷ rest
full-steps-is steps step rest e = cc

-- what a transfer sends was listed
pub record SendsRow (transfer : Transfer) (rows : List VersionRow) : Type 0 where
  pub row : VersionRow
  pub among : Contains rows row
  pub named : row.name ≡ Snap transfer.to
  pub of_guid : row.guid ≡ transfer.guid

pub untouched-sends : (pair : Pair) (known : Known) (transfer : Transfer) (u : IsUntouched known) → next_transfer pair known ≡ Some transfer → SendsRow transfer u.source.rows
untouched-sends pair known transfer u next =
    let source = filter is_snap u.source.rows ++ known.marks in
    let it = step-of pair known (plan_known pair known) transfer next in
    let is = newest-row source (newest source) it.step it.rest refl (full-steps-is (in_full (steps_of (option_to_list (newest source)))) it.step it.rest (sym (untouched-plan pair known u) ∙ it.planned)) in
    let named : is.0.name ≡ Snap transfer.to = is.2 ∙ ap Snap it.to_is in
    record {
      row = is.0;
      among = listed-row u.source.rows known.marks is.0 transfer.to (ap (list_all is_bookmark) u.no_marks) (contains-reverse source is.0 (found-in is_snap (reverse source) is.0 is.1)) named;
      named = named;
      of_guid = is.3 ∙ it.guid_is;
    }

-- and is later, where the pair is at rest
pub record SendsLater (pair : Pair) (known : Known) (newest : Newest) (rests : RestsOn pair known newest) (transfer : Transfer) : Type 0 where
  pub sends : SendsRow transfer rests.source.rows
  pub later :
      is_later (filter is_snap rests.source.rows ++ known.marks) newest.guid (rest-plan pair known newest rests).own sends.row ≡ true

pub rest-sends : (pair : Pair) (known : Known) (transfer : Transfer) (newest : Newest) (rests : RestsOn pair known newest) → next_transfer pair known ≡ Some transfer → SendsLater pair known newest rests transfer
rest-sends pair known transfer n rests next =
    let source = filter is_snap rests.source.rows ++ known.marks in
    let plan = rest-plan pair known n rests in
    let later : VersionRow → Bool = is_later source n.guid plan.own in
    let it = step-of pair known (plan_known pair known) transfer next in
    let is = first-row (filter later source) it.step it.rest (steps-plan-is (steps_of (filter later source)) it.step it.rest (sym plan.planned ∙ it.planned)) in
    let among = in-filter later source is.row is.among in
    let named : is.row.name ≡ Snap transfer.to = is.named ∙ ap Snap it.to_is in
    record {
      sends = record {
        row = is.row;
        among = listed-row rests.source.rows known.marks is.row transfer.to rests.safe.bookmarks among.0 named;
        named = named;
        of_guid = is.of_guid ∙ it.guid_is;
      };
      later = among.1;
    }
