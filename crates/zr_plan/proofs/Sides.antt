use Rattle.std.proofs.Common.{◌≡◌, ◌∙◌, ◌&&◌, ◌||◌, ◌==◌, ◌++◌, cond, ℕ, Bool, true, false, true≢false, not, List, [], ◌∷◌, filter, find, flat_map, reverse, refl, ap, sym}
use Rattle.std.specs.Prelude.{Option, Some, None, nat_lt}
use Rattle.std.specs.List.{list_all}
use Rattle.std.specs.Option.{option_or}
use Rattle.std.proofs.lemmas.Grind.{flat_map-append}
use Rattle.std.proofs.lemmas.List.{reverse-append, append-nil}
use Rattle.std.proofs.lemmas.List.Elements.{filter-append, filter_agree}
use Rattle.std.proofs.lemmas.List.Folds.{find-append, list_all-append}
use Rattle.zr_names.specs.declared.unit.Guid.{Guid}
use Rattle.zr_plan.specs.Plan.{is_after_snaps, is_common, is_later, newest_common, step_to, steps_of}
use Rattle.zr_command.specs.Kinds.{is_cursor, is_cursor_of, is_snap, is_snap_of, is_tentative, is_tentative_of, kind_in, names_snap, newest}
use Rattle.zr_command.specs.declared.version.VersionName.{VersionName}
use Rattle.zr_command.specs.declared.version.VersionName.TheVariants.{Snap, Mark}
use Rattle.zr_command.specs.declared.version.VersionRow.{VersionRow}
use Rattle.zr_plan.specs.declared.target.Step.{Step}

module _ {X : Type 0} (p q : X → Bool) where
  -- what is looked for is looked for in vain among what is not like that
  find-others : ((x : X) → q x ≡ true → p x ≡ false) → (xs : List X) → find p (filter q xs) ≡ None
  find-others fails [] = refl
  find-others fails (x ∷ xs) = by (q x) refl (find-others fails xs) where
    by : (b : Bool) → q x ≡ b → find p (filter q xs) ≡ None → find p (cond b (x ∷ filter q xs) (filter q xs)) ≡ None
    by true is rest = ap (λ (b : Bool). cond b (Some x) (find p (filter q xs))) (fails x is) ∙ rest
    by false is rest = rest

  -- and among what is like that as in all
  find-same : ((x : X) → q x ≡ false → p x ≡ false) → (xs : List X) → find p (filter q xs) ≡ find p xs
  find-same fails [] = refl
  find-same fails (x ∷ xs) = by (q x) refl (find-same fails xs) where
    by : (b : Bool) → q x ≡ b → find p (filter q xs) ≡ find p xs → find p (cond b (x ∷ filter q xs) (filter q xs)) ≡ cond (p x) (Some x) (find p xs)
    by true is rest = ap (cond (p x) (Some x)) rest
    by false is rest = rest ∙ sym (ap (λ (b : Bool). cond b (Some x) (find p xs)) (fails x is))

  -- a test of all need not look at what passes
  all-same : ((x : X) → q x ≡ false → p x ≡ true) → (xs : List X) → list_all p (filter q xs) ≡ list_all p xs
  all-same passes [] = refl
  all-same passes (x ∷ xs) = by (q x) refl (all-same passes xs) where
    by : (b : Bool) → q x ≡ b → list_all p (filter q xs) ≡ list_all p xs → list_all p (cond b (x ∷ filter q xs) (filter q xs)) ≡ (p x && list_all p xs)
    by true is rest = ap (λ (b : Bool). p x && b) rest
    by false is rest = rest ∙ sym (ap (λ (b : Bool). b && list_all p xs) (passes x is))

  reverse-filter : (xs : List X) → reverse (filter q xs) ≡ filter q (reverse xs)
  reverse-filter [] = refl
  reverse-filter (x ∷ xs) = by (q x) refl (reverse-filter xs) where
    whole : filter q (reverse (x ∷ xs)) ≡ filter q (reverse xs) ++ filter q (x ∷ [])
    whole = ap (filter q) (reverse-append (x ∷ []) xs) ∙ filter-append q (reverse xs) (x ∷ [])

    by : (b : Bool) → q x ≡ b → reverse (filter q xs) ≡ filter q (reverse xs) → reverse (cond b (x ∷ filter q xs) (filter q xs)) ≡ filter q (reverse (x ∷ xs))
    by true is rest =
        reverse-append (x ∷ []) (filter q xs)
        ∙ ap (λ (ys : List X). ys ++ x ∷ []) rest
        ∙ sym (whole ∙ ap (λ (b : Bool). filter q (reverse xs) ++ cond b (x ∷ []) []) is)
    by false is rest =
        rest
        ∙ sym (whole ∙ ap (λ (b : Bool). filter q (reverse xs) ++ cond b (x ∷ []) []) is ∙ append-nil (filter q (reverse xs)))

  -- the last of two lists is that of the second, else that of the first
  last-both : (xs ys : List X) → find p (reverse (xs ++ ys)) ≡ option_or (find p (reverse ys)) (find p (reverse xs))
  last-both xs ys = ap (find p) (reverse-append xs ys) ∙ find-append p (reverse ys) (reverse xs)

module _ {X Y : Type 0} (f : X → List Y) (q : X → Bool) (none : (x : X) → q x ≡ false → f x ≡ []) where
  -- what gives nothing may be left out
  flat-same : (xs : List X) → flat_map f (filter q xs) ≡ flat_map f xs
  flat-same [] = refl
  flat-same (x ∷ xs) = by (q x) refl (flat-same xs) where
    by : (b : Bool) → q x ≡ b → flat_map f (filter q xs) ≡ flat_map f xs → flat_map f (cond b (x ∷ filter q xs) (filter q xs)) ≡ f x ++ flat_map f xs
    by true is rest = ap (λ (ys : List Y). f x ++ ys) rest
    by false is rest = rest ∙ sym (ap (λ (ys : List Y). ys ++ flat_map f xs) (none x is))

  flat-filtered : (p : X → Bool) (xs : List X) → flat_map f (filter p (filter q xs)) ≡ flat_map f (filter p xs)
  flat-filtered p [] = refl
  flat-filtered p (x ∷ xs) = by (q x) refl (flat-filtered p xs) where
    put : flat_map f (filter p (filter q xs)) ≡ flat_map f (filter p xs) → (b : Bool) → flat_map f (cond b (x ∷ filter p (filter q xs)) (filter p (filter q xs))) ≡ flat_map f (cond b (x ∷ filter p xs) (filter p xs))
    put rest true = ap (λ (ys : List Y). f x ++ ys) rest
    put rest false = rest

    skip : f x ≡ [] → (b : Bool) → flat_map f (cond b (x ∷ filter p xs) (filter p xs)) ≡ flat_map f (filter p xs)
    skip nothing true = ap (λ (ys : List Y). ys ++ flat_map f (filter p xs)) nothing
    skip nothing false = refl

    by : (b : Bool) → q x ≡ b → flat_map f (filter p (filter q xs)) ≡ flat_map f (filter p xs) → flat_map f (filter p (cond b (x ∷ filter q xs) (filter q xs))) ≡ flat_map f (filter p (x ∷ xs))
    by true is rest = put rest (p x)
    by false is rest = rest ∙ sym (skip (none x is) (p x))

-- no snapshot is a cursor
snap-kind : (job : List ℕ) (guid : Guid) (name : VersionName) → names_snap name ≡ true → (is_cursor guid (kind_in job name) ≡ false) × (is_tentative guid (kind_in job name) ≡ false)
snap-kind job guid (Snap name) is = (refl, refl)
snap-kind job guid (Mark name) is = absurd (true≢false (sym is))

-- so one is looked for among the marks alone
pub cursor_found : (job : List ℕ) (guid : Guid) (listing marks : List VersionRow) → find (is_cursor_of job guid) (filter is_snap listing ++ marks) ≡ find (is_cursor_of job guid) marks
cursor_found job guid listing marks =
    find-append (is_cursor_of job guid) (filter is_snap listing) marks
    ∙ ap (λ (o : Option VersionRow). option_or o (find (is_cursor_of job guid) marks))
    (find-others (is_cursor_of job guid) is_snap (λ row is. (snap-kind job guid row.name is).0) listing)

pub tentative_found : (job : List ℕ) (guid : Guid) (listing marks : List VersionRow) → find (is_tentative_of job guid) (filter is_snap listing ++ marks) ≡ find (is_tentative_of job guid) marks
tentative_found job guid listing marks =
    find-append (is_tentative_of job guid) (filter is_snap listing) marks
    ∙ ap (λ (o : Option VersionRow). option_or o (find (is_tentative_of job guid) marks))
    (find-others (is_tentative_of job guid) is_snap (λ row is. (snap-kind job guid row.name is).1) listing)

-- what is no snapshot is no snapshot of a guid
no-snap : (guid : Guid) (row : VersionRow) → is_snap row ≡ false → is_snap_of guid row ≡ false
no-snap guid row is = ap (λ (b : Bool). b && (row.guid.0 == guid.0)) is

-- a snapshot is looked for in the listing, and then among the marks
pub snap_found : (guid : Guid) (listing marks : List VersionRow) → find (is_snap_of guid) (filter is_snap listing ++ marks) ≡ option_or (find (is_snap_of guid) listing) (find (is_snap_of guid) marks)
snap_found guid listing marks =
    find-append (is_snap_of guid) (filter is_snap listing) marks
    ∙ ap (λ (o : Option VersionRow). option_or o (find (is_snap_of guid) marks))
    (find-same (is_snap_of guid) is_snap (no-snap guid) listing)

-- and the newest among the marks, and then in the listing
pub newest_found : (listing marks : List VersionRow) → newest (filter is_snap listing ++ marks) ≡ option_or (newest marks) (newest listing)
newest_found listing marks =
    last-both is_snap is_snap (filter is_snap listing) marks
    ∙ ap (λ (o : Option VersionRow). option_or (newest marks) o)
    (ap (find is_snap) (reverse-filter is_snap is_snap listing) ∙ find-same is_snap is_snap (λ row is. is) (reverse listing))

-- of a target it is looked for in what arrived, and then in the listing
pub newest_arrived : (listing arrived : List VersionRow) → newest (listing ++ arrived) ≡ option_or (newest arrived) (newest listing)
newest_arrived listing arrived = last-both is_snap is_snap listing arrived

pub common_arrived : (job : List ℕ) (source listing arrived : List VersionRow) → newest_common job source (listing ++ arrived) ≡ option_or (newest_common job source arrived) (newest_common job source listing)
common_arrived job source listing arrived = last-both (is_common job source) is_snap listing arrived

-- what is later than the snapshots of a guid in the listing and among the marks is later than all
pub is_later_both : (guid : Guid) (own row : VersionRow) (listing marks : List VersionRow) → ((nat_lt own.txg row.txg && is_after_snaps listing guid row) && is_after_snaps marks guid row) ≡ is_later (filter is_snap listing ++ marks) guid own row
is_later_both guid own row listing marks =
    and-assoc (nat_lt own.txg row.txg) (is_after_snaps listing guid row) (is_after_snaps marks guid row)
    ∙ ap (λ (b : Bool). nat_lt own.txg row.txg && b) (sym (list_all-append after (filter is_snap listing) marks ∙ ap (λ (b : Bool). b && is_after_snaps marks guid row) (all-same after is_snap passes listing)))
  where
    after : VersionRow → Bool
    after other = not (is_snap_of guid other) || nat_lt other.txg row.txg

    passes : (other : VersionRow) → is_snap other ≡ false → after other ≡ true
    passes other is = ap (λ (b : Bool). not b || nat_lt other.txg row.txg) (no-snap guid other is)

    and-assoc : (a b c : Bool) → ((a && b) && c) ≡ (a && (b && c))
    and-assoc true b c = refl
    and-assoc false b c = refl

-- what is no snapshot gives no step
no-step : (row : VersionRow) → is_snap row ≡ false → step_to row row.name ≡ []
no-step row is = by row.name is where
  by : (name : VersionName) → names_snap name ≡ false → step_to row name ≡ []
  by (Snap name) is = absurd (true≢false is)
  by (Mark name) is = refl

-- the steps to the rows of the listing and to the marks are those to all
pub steps_both : (listing marks : List VersionRow) → steps_of listing ++ steps_of marks ≡ steps_of (filter is_snap listing ++ marks)
steps_both listing marks =
    let step : VersionRow → List Step = λ row. step_to row row.name in
    ap (λ (steps : List Step). steps ++ steps_of marks) (sym (flat-same step is_snap no-step listing))
    ∙ sym (flat_map-append step (filter is_snap listing) marks)

pub later_both : (test later : VersionRow → Bool) → ((row : VersionRow) → test row ≡ later row) → (listing marks : List VersionRow) → steps_of (filter test listing) ++ steps_of (filter test marks) ≡ steps_of (filter later (filter is_snap listing ++ marks))
later_both test later same listing marks =
    let step : VersionRow → List Step = λ row. step_to row row.name in
    ap (λ (steps : List Step). steps ++ steps_of (filter test marks)) (sym (flat-filtered step is_snap no-step test listing))
    ∙ sym (flat_map-append step (filter test (filter is_snap listing)) (filter test marks))
    ∙ ap (flat_map step) (sym (filter-append test (filter is_snap listing) marks) ∙ filter_agree test later same (filter is_snap listing ++ marks))
